-- The tree of a text: how its tags nest.
use Rattle.std.specs.Prelude.{ℕ, true, false, nat_lt, List, [], ◌∷◌, Option, None, Some, Result, Ok, Err}
use Rattle.std.specs.Prelude.{length}
use Rattle.std.specs.Str.{bytes_eq}
use Rattle.mustache_scan.specs.Standalone.{TokenSeen, scanned}
use Rattle.mustache_scan.specs.declared.token.TokenKind.{TokenKind}
use Rattle.mustache_scan.specs.declared.token.TokenKind.TheVariants.{Literal, Variable, Raw, Section}
use Rattle.mustache_scan.specs.declared.token.TokenKind.TheVariants.{Inverted, End, Partial}
use Rattle.mustache_scan.specs.declared.fault.FaultKind.{FaultKind}
use Rattle.mustache_scan.specs.declared.fault.FaultKind.TheVariants.{NoSection, WrongEnd, UnclosedSection}
use Rattle.mustache_scan.specs.declared.fault.FaultKind.TheVariants.{TooDeep}
use Rattle.mustache_scan.specs.declared.fault.TemplateFault.{TemplateFault}

-- A tree is a list of nodes. `text`, `variable`, `raw` and `partial` have what their node says, and the rest
-- of the list. `section` and `inverted` have a name, a block, and the rest.
pub data Tree : Type 0 where
  nothing : Tree
  text : List ℕ → Tree → Tree
  variable : List ℕ → Tree → Tree
  raw : List ℕ → Tree → Tree
  partial : (name indent : List ℕ) → Tree → Tree
  section : List ℕ → Tree → Tree → Tree
  inverted : List ℕ → Tree → Tree → Tree

abbrev pub fault : {A : Type 0} → FaultKind → ℕ → Result A TemplateFault
fault kind place = Err (record { kind = kind; place = place })

-- an open section: its name and place
pub record Open : Type 0 where
  pub name : List ℕ
  pub place : ℕ

abbrev pub max_open : ℕ
max_open = 64

-- the open sections after a tag that opens one
abbrev pub opening : List ℕ → ℕ → List Open → Result (List Open) TemplateFault
opening name place above =
    elim (nat_lt (length above) max_open) [
      | true ↦ Ok (record { name = name; place = place } ∷ above)
      | false ↦ fault TooDeep place
    ]

-- the open sections after a tag that ends one: it ends the innermost, and has to have its name
abbrev pub ending : List ℕ → ℕ → List Open → Result (List Open) TemplateFault
ending name place [] = fault NoSection place
ending name place (o ∷ above) = elim (bytes_eq name o.name) [ true ↦ Ok above | false ↦ fault WrongEnd place ]

abbrev pub nest : TokenKind → List ℕ → ℕ → List Open → Result (List Open) TemplateFault
nest Section name place above = opening name place above
nest Inverted name place above = opening name place above
nest End name place above = ending name place above
nest _ name place above = Ok above

-- the open sections after some tokens, the innermost first, or the first fault of nesting
abbrev pub open_after : List Open → List TokenSeen → Result (List Open) TemplateFault
open_after above [] = Ok above
open_after above (t ∷ ts) =
    elim (nest t.kind t.inside t.place above) [ Ok o ↦ open_after o ts | Err f ↦ Err f ]

-- the outermost of the sections left open
abbrev pub left_open : List Open → Option TemplateFault
left_open [] = None
left_open (o ∷ []) = Some (record { kind = UnclosedSection; place = o.place })
left_open (o ∷ p ∷ above) = left_open (p ∷ above)

-- The levels of a list of tokens: the nodes up to the first end tag whose section is not in the list, then
-- those up to the next such tag, and so on.
pub data Levels : Type 0 where
  last : Tree → Levels
  up_to_end : Tree → Levels → Levels

-- levels with more nodes in front of the first one
abbrev pub onto : (Tree → Tree) → Levels → Levels
onto f (last nodes) = last (f nodes)
onto f (up_to_end nodes more) = up_to_end (f nodes) more

-- levels in front of which a section opens: the first level becomes its block
abbrev pub closing : (Tree → Tree → Tree) → Levels → Levels
closing make (last nodes) = last nodes
closing make (up_to_end nodes more) = onto (make nodes) more

abbrev pub with_token : TokenSeen → TokenKind → Levels → Levels
with_token t Literal ls = onto (text t.text) ls
with_token t Variable ls = onto (variable t.inside) ls
with_token t Raw ls = onto (raw t.inside) ls
with_token t Section ls = closing (section t.inside) ls
with_token t Inverted ls = closing (inverted t.inside) ls
with_token t End ls = up_to_end nothing ls
with_token t Partial ls = onto (partial t.inside t.indent) ls
with_token t _ ls = ls

-- the levels, from the last token to the first
abbrev pub levels : List TokenSeen → Levels
levels [] = last nothing
levels (t ∷ ts) = with_token t t.kind (levels ts)

abbrev pub first_level : Levels → Tree
first_level (last nodes) = nodes
first_level (up_to_end nodes more) = nodes

abbrev pub unless : {A : Type 0} → Option TemplateFault → A → Result A TemplateFault
unless None x = Ok x
unless (Some f) x = Err f

-- the tree of some tokens, or the fault of their nesting
abbrev pub nested : List TokenSeen → Result Tree TemplateFault
nested ts =
    elim (open_after [] ts) [ Err f ↦ Err f | Ok above ↦ unless (left_open above) (first_level (levels ts)) ]

abbrev pub tree_of_scanned : Result (List TokenSeen) TemplateFault → Result Tree TemplateFault
tree_of_scanned (Ok ts) = nested ts
tree_of_scanned (Err f) = Err f

-- the tree of a text, or its fault. A fault of reading comes before those of nesting
unfoldable pub tree_of : List ℕ → Result Tree TemplateFault
tree_of t = tree_of_scanned (scanned t)
