-- Whether tokens nest depends on their tags' kinds and names alone: not on literals, places or indentation.
use Rattle.std.proofs.Common.{◌≡◌, ℕ, suc, ◌+◌, Bool, true, false, List, [], ◌∷◌, ◌++◌, length, nat_lt, Option, Some, None, Result, Ok, Err, refl, sym, ap, ◌∙◌}
use Rattle.std.specs.Str.{bytes_eq}
use Rattle.std.specs.List.{flat_map}
use Rattle.mustache_scan.specs.Reading.{Piece}
use Rattle.mustache_scan.specs.Standalone.{TokenSeen, is_literal, placed, kept, literal_of, tag_token, tokens_at, tokens_of}
use Rattle.mustache_scan.specs.declared.fault.FaultKind.TheVariants.{WrongEnd, TooDeep}
use Rattle.mustache_scan.specs.declared.fault.TemplateFault.{TemplateFault}
use Rattle.mustache_scan.specs.declared.token.TokenKind.{TokenKind}
use Rattle.mustache_scan.specs.declared.token.TokenKind.TheVariants.{Section, Inverted, End}
use Rattle.mustache_parse.specs.Tree.{Tree, Open, max_open, nest, opening, ending, open_after, left_open, levels, first_level, unless, nested}

-- a tag's kind and name
pub record Mark : Type 0 where
  pub kind : TokenKind
  pub name : List ℕ

abbrev pub mark_onto : TokenKind → List ℕ → List Mark → List Mark
mark_onto kind name ms = elim (is_literal kind) [ true ↦ ms | false ↦ record { kind = kind; name = name } ∷ ms ]

abbrev pub marks : List TokenSeen → List Mark
marks [] = []
marks (t ∷ ts) = mark_onto t.kind t.inside (marks ts)

abbrev pub piece_marks : List Piece → List Mark
piece_marks [] = []
piece_marks (p ∷ ps) = mark_onto p.kind p.inside (piece_marks ps)

-- the names of the sections open after a tag, and after some, where they nest
abbrev open_named : List ℕ → List (List ℕ) → Option (List (List ℕ))
open_named name above = elim (nat_lt (length above) max_open) [ true ↦ Some (name ∷ above) | false ↦ None ]

abbrev end_named : List ℕ → List (List ℕ) → Option (List (List ℕ))
end_named name [] = None
end_named name (o ∷ above) = elim (bytes_eq name o) [ true ↦ Some above | false ↦ None ]

abbrev nest_named : TokenKind → List ℕ → List (List ℕ) → Option (List (List ℕ))
nest_named Section name above = open_named name above
nest_named Inverted name above = open_named name above
nest_named End name above = end_named name above
nest_named _ name above = Some above

abbrev pub named_after : List (List ℕ) → List Mark → Option (List (List ℕ))
named_after above [] = Some above
named_after above (m ∷ ms) = elim (nest_named m.kind m.name above) [ Some o ↦ named_after o ms | None ↦ None ]

abbrev next_named : List Mark → Option (List (List ℕ)) → Option (List (List ℕ))
next_named ms (Some o) = named_after o ms
next_named ms None = None

abbrev next_open : List TokenSeen → Result (List Open) TemplateFault → Result (List Open) TemplateFault
next_open ts (Ok above) = open_after above ts
next_open ts (Err f) = Err f

abbrev names : List Open → List (List ℕ)
names [] = []
names (o ∷ above) = o.name ∷ names above

abbrev names_seen : Result (List Open) TemplateFault → Option (List (List ℕ))
names_seen (Ok above) = Some (names above)
names_seen (Err f) = None

length-names : (above : List Open) → length above ≡ length (names above)
length-names [] = refl
length-names (o ∷ above) = ap suc (length-names above)

opened : (b : Bool) (name : List ℕ) (place : ℕ) (above : List Open)
    → names_seen (elim b [ true ↦ Ok (record { name = name; place = place } ∷ above) | false ↦ Err (record { kind = TooDeep; place = place }) ]) ≡ elim b [ true ↦ Some (name ∷ names above) | false ↦ None ]
opened true name place above = refl
opened false name place above = refl

opening-named : (name : List ℕ) (place : ℕ) (above : List Open) → names_seen (opening name place above) ≡ open_named name (names above)
opening-named name place above = opened (nat_lt (length above) 64) name place above ∙ ap (λ n. elim (nat_lt n 64) [ true ↦ Some (name ∷ names above) | false ↦ None ]) (length-names above)

ended : (b : Bool) (place : ℕ) (above : List Open)
    → names_seen (elim b [ true ↦ Ok above | false ↦ Err (record { kind = WrongEnd; place = place }) ]) ≡ elim b [ true ↦ Some (names above) | false ↦ None ]
ended true place above = refl
ended false place above = refl

ending-named : (name : List ℕ) (place : ℕ) (above : List Open) → names_seen (ending name place above) ≡ end_named name (names above)
ending-named name place [] = refl
ending-named name place (o ∷ above) = ended (bytes_eq name o.name) place above

go_on : (ts : List TokenSeen) (ms : List Mark) (r : Result (List Open) TemplateFault) (n : Option (List (List ℕ))) → names_seen r ≡ n
    → ((o : List Open) → names_seen (open_after o ts) ≡ named_after (names o) ms) → names_seen (next_open ts r) ≡ next_named ms n
go_on ts ms (Ok o) n is more = more o ∙ ap (next_named ms) is
go_on ts ms (Err f) n is more = ap (next_named ms) is

by_kind : (k : TokenKind) (name : List ℕ) (place : ℕ) (above : List Open) (ts : List TokenSeen) (ms : List Mark)
    → ((o : List Open) → names_seen (open_after o ts) ≡ named_after (names o) ms)
    → names_seen (next_open ts (nest k name place above)) ≡ named_after (names above) (mark_onto k name ms)
by_kind Section name place above ts ms more = go_on ts ms (opening name place above) _ (opening-named name place above) more
by_kind Inverted name place above ts ms more = go_on ts ms (opening name place above) _ (opening-named name place above) more
by_kind End name place above ts ms more = go_on ts ms (ending name place above) _ (ending-named name place above) more
by_kind _ name place above ts ms more = more above

open-named : (above : List Open) (ts : List TokenSeen) → names_seen (open_after above ts) ≡ named_after (names above) (marks ts)
open-named above [] = refl
open-named above (t ∷ ts) = by_kind t.kind t.inside t.place above ts (marks ts) (λ o. open-named o ts)

-- the tree where no section is left open
abbrev pub tree_if : Tree → Result (List Open) TemplateFault → Result Tree TemplateFault
tree_if tree (Ok above) = unless (left_open above) tree
tree_if tree (Err f) = Err f

left_some : (o : Open) (above : List Open) (x tree : Tree) → unless (left_open (o ∷ above)) x ≡ Ok tree → ⊥
left_some o [] x tree h = cc
left_some o (p ∷ above) x tree h = left_some p above x tree h

settles : (r : Result (List Open) TemplateFault) (x tree : Tree) → tree_if x r ≡ Ok tree → names_seen r ≡ Some []
settles (Ok []) x tree h = refl
settles (Ok (o ∷ above)) x tree h = absurd (left_some o above x tree h)
settles (Err f) x tree h = absurd (cc)

settled : (r : Result (List Open) TemplateFault) (x : Tree) → names_seen r ≡ Some [] → tree_if x r ≡ Ok x
settled (Ok []) x h = refl
settled (Ok (o ∷ above)) x h = absurd (cc)
settled (Err f) x h = absurd (cc)

-- Tokens with the same tags nest alike.
pub nests-alike : (ts us : List TokenSeen) (tree : Tree) → marks ts ≡ marks us → nested ts ≡ Ok tree → (other : Tree) × (nested us ≡ Ok other)
nests-alike ts us tree same h =
    let all : names_seen (open_after [] us) ≡ Some [] = open-named [] us ∙ ap (named_after []) (sym same) ∙ sym (open-named [] ts) ∙ settles (open_after [] ts) (first_level (levels ts)) tree h in
    (first_level (levels us), settled (open_after [] us) (first_level (levels us)) all)

literal_marks : (xs : List (ℕ × ℕ)) (ts : List TokenSeen) → marks (literal_of xs ++ ts) ≡ marks ts
literal_marks [] ts = refl
literal_marks (x ∷ xs) ts = refl

piece_tokens : (b : Bool) (t : List ℕ) (lines : List (ℕ × ℕ)) (p : ℕ × Piece) (ts : List TokenSeen) → is_literal p.1.kind ≡ b
    → marks ((elim b [ true ↦ literal_of (kept lines p.0 p.1.bytes) | false ↦ tag_token t p ∷ [] ]) ++ ts) ≡ elim b [ true ↦ marks ts | false ↦ record { kind = p.1.kind; name = p.1.inside } ∷ marks ts ]
piece_tokens true t lines p ts is = literal_marks (kept lines p.0 p.1.bytes) ts
piece_tokens false t lines p ts is = ap (λ b. elim b [ true ↦ marks ts | false ↦ record { kind = p.1.kind; name = p.1.inside } ∷ marks ts ]) is

token_marks : (t : List ℕ) (lines : List (ℕ × ℕ)) (at : ℕ) (ps : List Piece) → marks (flat_map (tokens_at t lines) (placed at ps)) ≡ piece_marks ps
token_marks t lines at [] = refl
token_marks t lines at (p ∷ ps) =
    piece_tokens (is_literal p.kind) t lines (at, p) _ refl ∙ ap (mark_onto p.kind p.inside) (token_marks t lines (at + length p.bytes) ps)

-- the tags among the tokens of some pieces are those among the pieces
pub marks-of_tokens : (t : List ℕ) (at : ℕ) (ps : List Piece) → marks (tokens_of t (placed at ps)) ≡ piece_marks ps
marks-of_tokens t at ps = token_marks t _ at ps
