-- The terms that examples are stated in.
use Rattle.std.proofs.Common.{◌≡◌, ℕ, true, false, List, [], ◌∷◌, Option, None, Some, Result, Ok, Err}
use Rattle.std.specs.Prelude.{pos}
use Rattle.std.specs.Str.{bytes_eq}
use Rattle.mustache_scan.specs.Cutting.{cut}
use Rattle.mustache_scan.specs.Reading.{reading_within}
use Rattle.mustache_scan.specs.Standalone.{scanned}
use Rattle.mustache_parse.specs.Tree.{Tree, tree_of}
use Rattle.mustache_scan.specs.declared.fault.FaultKind.{FaultKind}
use Rattle.mustache_scan.specs.declared.fault.TemplateFault.{TemplateFault}
use Rattle.mustache_parse.specs.Indent.{indented}
use Rattle.context.specs.Whole.{Whole, null, int, text, list, hash, Items, no_items, item, Members, no_members, member}
use Rattle.context.specs.LookUp.{look_up}
use Rattle.render.specs.Meaning.{Partials, Meaning, Over, Costs, meaning_with, meaning_to, rendering}
use Rattle.std.specs.Fmt.{digits}

-- data, as JSON would write it
abbrev pub str : List ℕ → Whole
str t = text t

abbrev pub number : ℕ → Whole
number n = int (pos n)

abbrev pub arr : List Whole → Items
arr [] = no_items
arr (v ∷ vs) = item v (arr vs)

abbrev pub obj : List (List ℕ × Whole) → Members
obj [] = no_members
obj ((k, v) ∷ ms) = member k v (obj ms)

abbrev pub o : List (List ℕ × Whole) → Whole
o ms = hash (obj ms)

abbrev pub a : List Whole → Whole
a vs = list (arr vs)

-- partials from a list
abbrev pub named : List (List ℕ × List ℕ) → Partials
named [] name = None
named ((k, t) ∷ ps) name = elim (bytes_eq k name) [ true ↦ Some t | false ↦ named ps name ]

-- what a template gives: a text, over limit, or its fault
pub data Shown : Type 0 where
  Text : List ℕ → Shown
  OverLimit : Shown
  Faulty : TemplateFault → Shown

abbrev pub shown_page : Option (List ℕ) → Shown
shown_page (Some t) = Text t
shown_page None = OverLimit

abbrev pub shown : List (List ℕ × List ℕ) → Result Tree TemplateFault → Whole → Shown
shown ps (Ok t) d = shown_page (rendering (named ps) t d)
shown ps (Err f) d = Faulty f

unfoldable pub shown_for : List ℕ → Whole → List (List ℕ × List ℕ) → Shown
shown_for template d ps = shown ps (tree_of template) d

abbrev pub gives : List ℕ → Whole → List (List ℕ × List ℕ) → List ℕ → Type 0
gives template d ps shown_text = shown_for template d ps ≡ Text shown_text

abbrev pub faulty : List ℕ → FaultKind → ℕ → Type 0
faulty template kind place = shown_for template null [] ≡ Faulty (record { kind = kind; place = place })

-- what a template costs
abbrev pub costed : List (List ℕ × List ℕ) → Result Tree TemplateFault → Whole → Meaning
costed ps (Ok t) d = meaning_to 32 (named ps) t (d ∷ [])
costed ps (Err f) d = Over

unfoldable pub cost_of : List ℕ → Whole → List (List ℕ × List ℕ) → Meaning
cost_of template d ps = costed ps (tree_of template) d

-- all that an example computes
unfoldable pub computing : ℕ
unfolding shown_for cost_of cut reading_within scanned tree_of indented look_up meaning_with meaning_to rendering digits
computing = 0

abbrev pub costs : List ℕ → Whole → List (List ℕ × List ℕ) → List ℕ → ℕ → Type 0
costs template d ps shown_text n = cost_of template d ps ≡ Costs shown_text n
