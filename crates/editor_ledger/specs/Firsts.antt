-- Sets of texts, and maps of texts by what they are about.
use Rattle.std.specs.Prelude.{◌≡◌, ℕ, List, option_map, find}
use Rattle.std.specs.List.{list_any}
use Rattle.std.specs.Str.{bytes_eq}
use Rattle.std.specs.Borrow.{Bor}
use Rattle.std.specs.BTreeMap.{BTreeMap, get}
use Rattle.std.specs.BTreeSet.{BTreeSet, contains}
use Rattle.std.specs.Cmp.Lexicographic.{slice_cmp}
use Rattle.std.specs.Ordering.{nat_cmp, ordering_then}
use Rattle.std.specs.declared.cmp.Ordering.{Ordering}
use Rattle.editor_ledger.specs.Heads.{head_of, is_about}
use Rattle.editor_ledger.specs.View.{head_view}
use Rattle.editor_ledger.specs.declared.head.Head.{Head}

-- a borrowed text
abbrev pub Lent : Type 0
Lent = Bor (List ℕ)

-- the order of texts: by their bytes
abbrev pub text_cmp : Lent → Lent → Ordering
text_cmp t u = slice_cmp nat_cmp t.now u.now

-- a set has exactly these texts
abbrev pub HasTexts : BTreeSet Lent → List (List ℕ) → Type 0
HasTexts set texts = (text : Lent) → contains text_cmp set text ≡ list_any (bytes_eq text.now) texts

-- the order of kinds and names: by the kinds, then by the names
abbrev pub subject_cmp : Lent × Lent → Lent × Lent → Ordering
subject_cmp s t = ordering_then (text_cmp s.0 t.0) (text_cmp s.1 t.1)

-- under each kind and name a map has the first of the texts that is about them
abbrev pub HasFirsts : BTreeMap (Lent × Lent) Lent → List (List ℕ) → Type 0
HasFirsts firsts texts = (head : Head)
    → option_map (λ t. t.now) (get subject_cmp firsts (head.kind, head.name))
    ≡ find (λ t. is_about (head_view head) (head_of t)) texts
