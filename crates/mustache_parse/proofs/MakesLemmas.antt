-- What tokens make, beside their levels and the sections open after them.
use Rattle.std.proofs.Common.{◌≡◌, ℕ, ◌+◌, ◌<◌, ◌≤◌, true, List, ◌∷◌, ◌++◌, length, nat_lt, Result, Ok, Err, refl, sym, ap, ◌∙◌, arith, append_assoc}
use Rattle.std.proofs.Math.Nat.{le-max_left, le-max_right}
use Rattle.std.proofs.lemmas.Bool.Decides.{nat_tests}
use Rattle.std.proofs.lemmas.Slice.Eq.{bytes_eq-Decides}
use Rattle.std.specs.Str.{bytes_eq}
use Rattle.mustache_scan.specs.Standalone.{TokenSeen}
use Rattle.mustache_scan.specs.declared.fault.TemplateFault.{TemplateFault}
use Rattle.mustache_parse.specs.Tree.{Tree, nothing, text, variable, raw, partial, section, inverted, Open, nest, opening, ending, open_after, left_open, onto, closing, with_token, levels, unless}
use Rattle.mustache_parse.specs.Makes.{Makes, none, a_text, a_variable, a_raw, a_partial, a_section, an_inverted, a_comment, delimiters, Ends, depth}
use Rattle.mustache_parse.proofs.LevelLemmas.{onto-onto, onto-same}

-- a tree with another at its end
abbrev pub graft : Tree → Tree → Tree
graft nothing u = u
graft (text t rest) u = text t (graft rest u)
graft (variable name rest) u = variable name (graft rest u)
graft (raw name rest) u = raw name (graft rest u)
graft (partial name indent rest) u = partial name indent (graft rest u)
graft (section name block rest) u = section name block (graft rest u)
graft (inverted name block rest) u = inverted name block (graft rest u)

pub graft-nothing : (t : Tree) → graft t nothing ≡ t
graft-nothing nothing = refl
graft-nothing (text t rest) = ap (text t) (graft-nothing rest)
graft-nothing (variable name rest) = ap (variable name) (graft-nothing rest)
graft-nothing (raw name rest) = ap (raw name) (graft-nothing rest)
graft-nothing (partial name indent rest) = ap (partial name indent) (graft-nothing rest)
graft-nothing (section name block rest) = ap (section name block) (graft-nothing rest)
graft-nothing (inverted name block rest) = ap (inverted name block) (graft-nothing rest)

-- the levels of a section's tokens and of what follows them
section_levels : (make : Tree → Tree → Tree) (name : List ℕ) (inner : List TokenSeen) (block : Tree) (e : TokenSeen) (after : List TokenSeen) (rest : Tree) (us : List TokenSeen)
    → Ends name e
    → ((vs : List TokenSeen) → levels (inner ++ vs) ≡ onto (graft block) (levels vs))
    → levels (after ++ us) ≡ onto (graft rest) (levels us)
    → closing make (levels ((inner ++ e ∷ after) ++ us)) ≡ onto (λ u. make block (graft rest u)) (levels us)
section_levels make name inner block e after rest us ends within past =
    ap (λ l. closing make (levels l)) (append_assoc inner (e ∷ after) us)
    ∙ ap (closing make) (within (e ∷ (after ++ us)))
    ∙ ap (λ k. closing make (onto (graft block) (with_token e k (levels (after ++ us))))) ends.is_end
    ∙ ap (λ b. onto (make b) (levels (after ++ us))) (graft-nothing block)
    ∙ ap (onto (make block)) past
    ∙ onto-onto (make block) (graft rest) (levels us)

-- what tokens make stands in the first of their levels, before what follows them
pub levels_of : (ts : List TokenSeen) (tree : Tree) → Makes ts tree → (us : List TokenSeen) → levels (ts ++ us) ≡ onto (graft tree) (levels us)
levels_of ts tree none us = sym (onto-same (levels us))
levels_of ts tree (a_text t ts' rest is m) us = ap (λ k. with_token t k (levels (ts' ++ us))) is ∙ ap (onto (text t.text)) (levels_of ts' rest m us) ∙ onto-onto (text t.text) (graft rest) (levels us)
levels_of ts tree (a_variable t ts' rest is m) us =
    ap (λ k. with_token t k (levels (ts' ++ us))) is ∙ ap (onto (variable t.inside)) (levels_of ts' rest m us) ∙ onto-onto (variable t.inside) (graft rest) (levels us)
levels_of ts tree (a_raw t ts' rest is m) us = ap (λ k. with_token t k (levels (ts' ++ us))) is ∙ ap (onto (raw t.inside)) (levels_of ts' rest m us) ∙ onto-onto (raw t.inside) (graft rest) (levels us)
levels_of ts tree (a_partial t ts' rest is m) us =
    ap (λ k. with_token t k (levels (ts' ++ us))) is ∙ ap (onto (partial t.inside t.indent)) (levels_of ts' rest m us) ∙ onto-onto (partial t.inside t.indent) (graft rest) (levels us)
levels_of ts tree (a_section t inner block e after rest is m ends n) us =
    ap (λ k. with_token t k (levels ((inner ++ e ∷ after) ++ us))) is
    ∙ section_levels (section t.inside) t.inside inner block e after rest us ends (λ vs. levels_of inner block m vs) (levels_of after rest n us)
levels_of ts tree (an_inverted t inner block e after rest is m ends n) us =
    ap (λ k. with_token t k (levels ((inner ++ e ∷ after) ++ us))) is
    ∙ section_levels (inverted t.inside) t.inside inner block e after rest us ends (λ vs. levels_of inner block m vs) (levels_of after rest n us)
levels_of ts tree (a_comment t ts' rest is m) us = ap (λ k. with_token t k (levels (ts' ++ us))) is ∙ levels_of ts' rest m us
levels_of ts tree (delimiters t ts' rest is m) us = ap (λ k. with_token t k (levels (ts' ++ us))) is ∙ levels_of ts' rest m us

-- the sections open after some tokens, once the next tag is nested
abbrev pub nested_next : List TokenSeen → Result (List Open) TemplateFault → Result (List Open) TemplateFault
nested_next ts (Ok above) = open_after above ts
nested_next ts (Err f) = Err f

-- the tree, once the sections left open are known
abbrev pub settled : Tree → Result (List Open) TemplateFault → Result Tree TemplateFault
settled tree (Ok above) = unless (left_open above) tree
settled tree (Err f) = Err f

-- one more section may open
pub may_open : (name : List ℕ) (place : ℕ) (above : List Open) → length above < 64 → opening name place above ≡ Ok (record { name = name; place = place } ∷ above)
may_open name place above low = let e : nat_lt (length above) 64 ≡ true = grind (arith, nat_tests) in rw (e, opening)

may_end : (name other : List ℕ) (place at : ℕ) (above : List Open) → other ≡ name → ending other at (record { name = name; place = place } ∷ above) ≡ Ok above
may_end name other place at above same = let e : bytes_eq other name ≡ true = (bytes_eq-Decides other name).1 same in rw (e, ending)

-- a section's tokens leave the open sections as they were
section_opens : (t : TokenSeen) (inner : List TokenSeen) (block : Tree) (e : TokenSeen) (after us : List TokenSeen) (above : List Open)
    → Ends t.inside e
    → length above + (depth block + 1) ≤ 64
    → ((o : List Open) (vs : List TokenSeen) → length o + depth block ≤ 64 → open_after o (inner ++ vs) ≡ open_after o vs)
    → open_after above (after ++ us) ≡ open_after above us
    → nested_next ((inner ++ e ∷ after) ++ us) (opening t.inside t.place above) ≡ open_after above us
section_opens t inner block e after us above ends low within past =
    let o : Open = record { name = t.inside; place = t.place } in
    ap (nested_next ((inner ++ e ∷ after) ++ us)) (may_open t.inside t.place above (omega arith))
    ∙ ap (open_after (o ∷ above)) (append_assoc inner (e ∷ after) us)
    ∙ within (o ∷ above) (e ∷ (after ++ us)) (omega arith)
    ∙ ap (λ k. nested_next (after ++ us) (nest k e.inside e.place (o ∷ above))) ends.is_end
    ∙ ap (nested_next (after ++ us)) (may_end t.inside e.inside t.place e.place above ends.named)
    ∙ past

-- what tokens make leaves the open sections as they were, where they are few enough
pub opens_of : (ts : List TokenSeen) (tree : Tree) → Makes ts tree → (above : List Open) (us : List TokenSeen) → length above + depth tree ≤ 64 → open_after above (ts ++ us) ≡ open_after above us
opens_of ts tree none above us low = refl
opens_of ts tree (a_text t ts' rest is m) above us low = ap (λ k. nested_next (ts' ++ us) (nest k t.inside t.place above)) is ∙ opens_of ts' rest m above us low
opens_of ts tree (a_variable t ts' rest is m) above us low = ap (λ k. nested_next (ts' ++ us) (nest k t.inside t.place above)) is ∙ opens_of ts' rest m above us low
opens_of ts tree (a_raw t ts' rest is m) above us low = ap (λ k. nested_next (ts' ++ us) (nest k t.inside t.place above)) is ∙ opens_of ts' rest m above us low
opens_of ts tree (a_partial t ts' rest is m) above us low = ap (λ k. nested_next (ts' ++ us) (nest k t.inside t.place above)) is ∙ opens_of ts' rest m above us low
opens_of ts tree (a_section t inner block e after rest is m ends n) above us low =
    let left = le-max_left (depth block + 1) (depth rest) in
    let right = le-max_right (depth block + 1) (depth rest) in
    ap (λ k. nested_next ((inner ++ e ∷ after) ++ us) (nest k t.inside t.place above)) is
    ∙ section_opens t inner block e after us above ends (omega arith) (λ o vs l. opens_of inner block m o vs l) (opens_of after rest n above us (omega arith))
opens_of ts tree (an_inverted t inner block e after rest is m ends n) above us low =
    let left = le-max_left (depth block + 1) (depth rest) in
    let right = le-max_right (depth block + 1) (depth rest) in
    ap (λ k. nested_next ((inner ++ e ∷ after) ++ us) (nest k t.inside t.place above)) is
    ∙ section_opens t inner block e after us above ends (omega arith) (λ o vs l. opens_of inner block m o vs l) (opens_of after rest n above us (omega arith))
opens_of ts tree (a_comment t ts' rest is m) above us low = ap (λ k. nested_next (ts' ++ us) (nest k t.inside t.place above)) is ∙ opens_of ts' rest m above us low
opens_of ts tree (delimiters t ts' rest is m) above us low = ap (λ k. nested_next (ts' ++ us) (nest k t.inside t.place above)) is ∙ opens_of ts' rest m above us low
