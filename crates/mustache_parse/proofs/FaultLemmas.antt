-- What the open sections after some tokens say: which the tokens leave open, or their first fault.
use Rattle.std.proofs.Common.{◌≡◌, ◌≢◌, ℕ, ◌<◌, ◌≤◌, Bool, true, false, List, [], ◌∷◌, ◌++◌, length, nat_lt, Option, Some, None, Result, Ok, Err, refl, sym, ap, subst, ◌∙◌, arith, append_assoc, append-nil}
use Rattle.std.proofs.lemmas.Bool.{false≢true}
use Rattle.std.proofs.lemmas.Bool.Decides.{nat_tests, not_from_Decides}
use Rattle.std.proofs.lemmas.Slice.Eq.{bytes_eq-Decides}
use Rattle.std.specs.Str.{bytes_eq}
use Rattle.mustache_scan.specs.Standalone.{TokenSeen}
use Rattle.mustache_scan.specs.declared.fault.FaultKind.TheVariants.{NoSection, WrongEnd, UnclosedSection, TooDeep}
use Rattle.mustache_scan.specs.declared.fault.TemplateFault.{TemplateFault}
use Rattle.mustache_scan.specs.declared.token.TokenKind.{TokenKind}
use Rattle.mustache_scan.specs.declared.token.TokenKind.TheVariants.{Literal, Variable, Raw, Section, Inverted, End, Comment, Partial, Delimiters}
use Rattle.mustache_parse.specs.Makes.{Makes, none, a_text, a_variable, a_raw, a_partial, a_comment, delimiters, depth}
use Rattle.mustache_parse.specs.Nesting.{is_opening, LeavesOpen, none_open, one_open, HasFault, no_section, wrong_end, too_deep, unclosed}
use Rattle.mustache_parse.specs.Tree.{Tree, nothing, text, variable, raw, partial, fault, Open, nest, opening, ending, open_after, left_open, levels, first_level, unless, nested}
use Rattle.mustache_parse.proofs.MakesLemmas.{nested_next, settled, may_open, opens_of}
use Rattle.mustache_parse.proofs.NestingLemmas.{more, closed}

-- after one more tag
abbrev Stepped : List TokenSeen → TokenSeen → Result (List Open) TemplateFault → Type 0
Stepped front t (Ok above) = LeavesOpen (front ++ t ∷ []) above
Stepped front t (Err f) = (after : List TokenSeen) → HasFault (front ++ t ∷ after) f

open_few : (ts : List TokenSeen) (above : List Open) → LeavesOpen ts above → length above ≤ 64
open_few ts above (none_open ts' tree m low) = omega arith
open_few ts above (one_open front above' t inner block h opens m low) = omega arith

leaf_step : (front : List TokenSeen) (t : TokenSeen) (above : List Open) (tree : Tree) → LeavesOpen front above → Makes (t ∷ []) tree → depth tree ≡ 0 → LeavesOpen (front ++ t ∷ []) above
leaf_step front t above tree h m flat = let few = open_few front above h in more front above h (t ∷ []) tree m (omega arith)

open_step : (b : Bool) (front : List TokenSeen) (t : TokenSeen) (above : List Open) → nat_lt (length above) 64 ≡ b → LeavesOpen front above → is_opening t.kind ≡ true
    → Stepped front t (elim b [ true ↦ Ok (record { name = t.inside; place = t.place } ∷ above) | false ↦ fault TooDeep t.place ])
open_step true front t above is h opens =
    let l : length above < 64 = grind (arith, nat_tests) in
    one_open front above t [] nothing h opens none (omega arith)
open_step false front t above is h opens =
    let few = open_few front above h in
    let l : 64 ≤ length above = grind (arith, nat_tests) in
    λ after. too_deep front above t after h (omega arith) opens

same_name : (b : Bool) (front : List TokenSeen) (t : TokenSeen) (o : Open) (above : List Open) → bytes_eq t.inside o.name ≡ b → LeavesOpen front (o ∷ above) → t.kind ≡ End
    → Stepped front t (elim b [ true ↦ Ok above | false ↦ fault WrongEnd t.place ])
same_name true front t o above same h is = closed front o above t h is ((bytes_eq-Decides t.inside o.name).0 same)
same_name false front t o above same h is = λ after. wrong_end front o above t after h is (not_from_Decides (bytes_eq t.inside o.name) (bytes_eq-Decides t.inside o.name) same)

end_step : (front : List TokenSeen) (t : TokenSeen) (above : List Open) → LeavesOpen front above → t.kind ≡ End → Stepped front t (ending t.inside t.place above)
end_step front t [] h is = λ after. no_section front t after h is
end_step front t (o ∷ above) h is = same_name (bytes_eq t.inside o.name) front t o above refl h is

step : (k : TokenKind) (front : List TokenSeen) (t : TokenSeen) (above : List Open) → t.kind ≡ k → LeavesOpen front above → Stepped front t (nest k t.inside t.place above)
step Literal front t above is h = leaf_step front t above (text t.text nothing) h (a_text t [] nothing is none) refl
step Variable front t above is h = leaf_step front t above (variable t.inside nothing) h (a_variable t [] nothing is none) refl
step Raw front t above is h = leaf_step front t above (raw t.inside nothing) h (a_raw t [] nothing is none) refl
step Partial front t above is h = leaf_step front t above (partial t.inside t.indent nothing) h (a_partial t [] nothing is none) refl
step Comment front t above is h = leaf_step front t above nothing h (a_comment t [] nothing is none) refl
step Delimiters front t above is h = leaf_step front t above nothing h (delimiters t [] nothing is none) refl
step Section front t above is h = open_step (nat_lt (length above) 64) front t above refl h (ap is_opening is)
step Inverted front t above is h = open_step (nat_lt (length above) 64) front t above refl h (ap is_opening is)
step End front t above is h = end_step front t above h is

-- after all tokens
abbrev pub Outcome : List TokenSeen → Result (List Open) TemplateFault → Type 0
Outcome ts (Ok above) = LeavesOpen ts above
Outcome ts (Err f) = HasFault ts f

go_on : (front : List TokenSeen) (t : TokenSeen) (rest : List TokenSeen) (r : Result (List Open) TemplateFault) → Stepped front t r
    → ((above : List Open) → LeavesOpen (front ++ t ∷ []) above → Outcome ((front ++ t ∷ []) ++ rest) (open_after above rest)) → Outcome (front ++ t ∷ rest) (nested_next rest r)
go_on front t rest (Ok above) h further = subst (λ (l : List TokenSeen). Outcome l (open_after above rest)) (append_assoc front (t ∷ []) rest) (further above h)
go_on front t rest (Err f) h further = h rest

walk : (rest front : List TokenSeen) (above : List Open) → LeavesOpen front above → Outcome (front ++ rest) (open_after above rest)
walk [] front above h = subst (λ (l : List TokenSeen). LeavesOpen l above) (sym (append-nil front)) h
walk (t ∷ rest) front above h = go_on front t rest (nest t.kind t.inside t.place above) (step t.kind front t above refl h) (λ o g. walk rest (front ++ t ∷ []) o g)

pub outcome_of : (ts : List TokenSeen) → Outcome ts (open_after [] ts)
outcome_of ts = walk ts [] [] (none_open [] nothing none (omega arith))

-- the outermost section left open
record Left (above : List Open) (f : TemplateFault) : Type 0 where
  within : List Open
  outermost : Open
  split : above ≡ within ++ outermost ∷ []
  is : f ≡ record { kind = UnclosedSection; place = outermost.place }

left : (above : List Open) (f : TemplateFault) → left_open above ≡ Some f → Left above f
left [] f h = absurd (cc)
left (o ∷ []) f h = record { within = []; outermost = o; split = refl; is = cc }
left (o ∷ p ∷ above) f h =
    let w = left (p ∷ above) f h in
    record { within = o ∷ w.within; outermost = w.outermost; split = ap (λ l. o ∷ l) w.split; is = w.is }

unless_err : (o : Option TemplateFault) (a : Tree) (f : TemplateFault) → unless o a ≡ Err f → o ≡ Some f
unless_err None a f h = absurd (cc)
unless_err (Some g) a f h = cc

settled_err : (ts : List TokenSeen) (r : Result (List Open) TemplateFault) (a : Tree) (f : TemplateFault) → Outcome ts r → settled a r ≡ Err f → HasFault ts f
settled_err ts (Err g) a f o h = let e : g ≡ f = cc in subst (HasFault ts) e o
settled_err ts (Ok above) a f o h =
    let w = left above f (unless_err (left_open above) a f h) in
    subst (HasFault ts) (sym w.is) (unclosed ts w.within w.outermost (subst (LeavesOpen ts) w.split o))

pub has_fault : (ts : List TokenSeen) (f : TemplateFault) → nested ts ≡ Err f → HasFault ts f
has_fault ts f h = settled_err ts (open_after [] ts) (first_level (levels ts)) f (outcome_of ts) h

-- and back: what leaves sections open has them open
nest_opening : (k : TokenKind) (name : List ℕ) (place : ℕ) (above : List Open) → is_opening k ≡ true → nest k name place above ≡ opening name place above
nest_opening Section name place above h = refl
nest_opening Inverted name place above h = refl
nest_opening _ name place above h = absurd (false≢true h)

opens_to : (front : List TokenSeen) (above : List Open) → LeavesOpen front above → (us : List TokenSeen) → open_after [] (front ++ us) ≡ open_after above us
opens_to front above (none_open ts tree m low) us = opens_of ts tree m [] us (omega arith)
opens_to front above (one_open first above' t inner block h opens m low) us =
    let o : Open = record { name = t.inside; place = t.place } in
    ap (open_after []) (append_assoc first (t ∷ inner) us)
    ∙ opens_to first above' h (t ∷ (inner ++ us))
    ∙ ap (nested_next (inner ++ us)) (nest_opening t.kind t.inside t.place above' opens ∙ may_open t.inside t.place above' (omega arith))
    ∙ opens_of inner block m (o ∷ above') us (omega arith)

-- a fault at a tag
at_tag : (front : List TokenSeen) (above : List Open) (t : TokenSeen) (after : List TokenSeen) (f : TemplateFault) → LeavesOpen front above → nest t.kind t.inside t.place above ≡ Err f → nested (front ++ t ∷ after) ≡ Err f
at_tag front above t after f h is = ap (settled (first_level (levels (front ++ t ∷ after)))) (opens_to front above h (t ∷ after) ∙ ap (nested_next after) is)

differs : (a b : List ℕ) → a ≢ b → bytes_eq a b ≡ false
differs a b other = by_test (bytes_eq a b) refl
  where
    by_test : (r : Bool) → bytes_eq a b ≡ r → r ≡ false
    by_test true is = absurd (other ((bytes_eq-Decides a b).0 is))
    by_test false is = refl

wrong_name : (t : TokenSeen) (o : Open) (above : List Open) → t.inside ≢ o.name → ending t.inside t.place (o ∷ above) ≡ Err (record { kind = WrongEnd; place = t.place })
wrong_name t o above other = rw (differs t.inside o.name other, ending)

no_room : (name : List ℕ) (place : ℕ) (above : List Open) → length above ≡ 64 → opening name place above ≡ Err (record { kind = TooDeep; place = place })
no_room name place above full = let e : nat_lt (length above) 64 ≡ false = grind (arith, nat_tests) in rw (e, opening)

pub outermost_left : (within : List Open) (o : Open) → left_open (within ++ o ∷ []) ≡ Some (record { kind = UnclosedSection; place = o.place })
outermost_left [] o = refl
outermost_left (p ∷ []) o = refl
outermost_left (p ∷ q ∷ within) o = outermost_left (q ∷ within) o

pub fault_is : (ts : List TokenSeen) (f : TemplateFault) → HasFault ts f → nested ts ≡ Err f
fault_is ts f (no_section front t after h is) = at_tag front [] t after (record { kind = NoSection; place = t.place }) h (ap (λ k. nest k t.inside t.place []) is)
fault_is ts f (wrong_end front o above t after h is other) =
    at_tag front (o ∷ above) t after (record { kind = WrongEnd; place = t.place }) h (ap (λ k. nest k t.inside t.place (o ∷ above)) is ∙ wrong_name t o above other)
fault_is ts f (too_deep front above t after h full opens) =
    at_tag front above t after (record { kind = TooDeep; place = t.place }) h (nest_opening t.kind t.inside t.place above opens ∙ no_room t.inside t.place above full)
fault_is ts f (unclosed ts' within outermost h) =
    let opened : open_after [] ts' ≡ Ok (within ++ outermost ∷ []) = ap (open_after []) (sym (append-nil ts')) ∙ opens_to ts' (within ++ outermost ∷ []) h [] in
    ap (settled (first_level (levels ts'))) opened ∙ ap (λ o. unless o (first_level (levels ts'))) (outermost_left within outermost)
