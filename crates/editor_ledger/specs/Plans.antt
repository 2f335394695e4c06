-- What turns the texts that the group has into those that are wanted.
use Rattle.std.specs.Prelude.{ℕ, List, ◌++◌, map, filter, find, not, ◌&&◌, ◌||◌, if◌then◌else◌, Option, Some}
use Rattle.std.specs.Prelude.{None, option_map, option_and_then}
use Rattle.std.specs.List.{list_any, filter_map}
use Rattle.std.specs.Str.{bytes_eq}
use Rattle.editor_ledger.specs.Books.{Given}
use Rattle.editor_ledger.specs.Heads.{Head, head_of, is_about, puts, removal}

-- the wanted texts that are put again, or that the group lacks
abbrev pub missing : List (List ℕ) → List (List ℕ) → List (List ℕ) → List (List ℕ)
missing again kept wanted =
    filter (λ t. list_any (bytes_eq t) again || not (list_any (bytes_eq t) kept)) wanted

-- the removal of what a head put, if no wanted text is about the same
abbrev pub removal_by : List (List ℕ) → Head → Option (List ℕ)
removal_by wanted head =
    if puts head && not (list_any (λ t. is_about head (head_of t)) wanted) then Some (removal head) else None

abbrev pub removal_of : List (List ℕ) → List ℕ → Option (List ℕ)
removal_of wanted text = option_and_then (removal_by wanted) (head_of text)

-- what is missing, and the removals of what was put and is no longer wanted. Texts are put again, though the
-- group has them by the ledger, if another editor may have put something in their place since
abbrev pub plan_of : List (List ℕ) → List (List ℕ) → List (List ℕ) → List (List ℕ)
plan_of again kept wanted = missing again kept wanted ++ filter_map (removal_of wanted) kept

-- ---- what a plan overtakes

abbrev pub or_removal : Head → Option (List ℕ) → List ℕ
or_removal head None = removal head
or_removal head (Some text) = text

-- what the group has about what the head names, or the removal of that if it has none
abbrev pub before_by : List (List ℕ) → Head → List ℕ
before_by kept head = or_removal head (find (λ t. is_about head (head_of t)) kept)

-- what the group has before a text; nothing if the text is about nothing
abbrev pub before_text : List (List ℕ) → List ℕ → Option (List ℕ)
before_text kept text = option_map (before_by kept) (head_of text)

-- what the group had before the texts of a plan, each with the number of the plan's first ticket
abbrev pub overtaken : ℕ → List (List ℕ) → List (List ℕ) → List Given
overtaken next kept plan = map (λ t. record { number = next; text = t }) (filter_map (before_text kept) plan)
