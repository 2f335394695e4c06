-- How many texts are about each kind and name.
use Rattle.std.specs.Prelude.{◌≡◌, ⊤, ℕ, ◌≤◌, List, ◌∷◌, ◌++◌, Bool, true, false, Option, Some, None, String}
use Rattle.std.specs.Prelude.{count_by}
use Rattle.std.specs.BTreeMap.{BTreeMap, get_by_text}
use Rattle.std.specs.declared.alloc.Global.{Global}
use Rattle.editor_ledger.specs.Heads.{Head, head_of, is_about}

-- a head's kind and name, with a space between
abbrev pub subject_text : Head → List ℕ
subject_text head = head.kind ++ (32 ∷ head.name)

abbrev pub count_about : Head → List (List ℕ) → ℕ
count_about head texts = count_by (λ t. is_about head (head_of t)) texts

-- a number is as is known of it: 0, or at most 1, or any
abbrev pub IsBounded : Option Bool → ℕ → Type 0
IsBounded None n = n ≡ 0
IsBounded (Some false) n = n ≤ 1
IsBounded (Some true) n = ⊤

-- the map says of each kind and name whether several of the texts may be about it; if the map lacks one,
-- no text is about it
abbrev pub Bounds : BTreeMap (String Global) Bool → List (List ℕ) → Type 0
Bounds several texts =
    (head : Head) → IsBounded (get_by_text several (subject_text head)) (count_about head texts)
