-- The texts that the group had at a ticket.
use Rattle.std.specs.Prelude.{ℕ, ◌-◌, List, [], ◌∷◌, ◌++◌, filter, not, nat_lt, nat_le, ◌&&◌, if◌then◌else◌}
use Rattle.std.specs.Prelude.{Bool}
use Rattle.std.specs.List.{list_any, fold}
use Rattle.editor_ledger.specs.Books.{Given, Book}
use Rattle.editor_ledger.specs.Heads.{are_about_one}

-- one of the texts is about the same
abbrev pub is_among : List (List ℕ) → List ℕ → Bool
is_among texts text = list_any (are_about_one text) texts

-- of each kind and name the first text that was overtaken since the ticket
abbrev pub with_first : ℕ → List (List ℕ) → Given → List (List ℕ)
with_first ticket olds g =
    if nat_lt ticket g.number && not (is_among olds g.text) then olds ++ g.text ∷ [] else olds

abbrev pub olds_since : ℕ → List Given → List (List ℕ)
olds_since ticket past = fold (with_first ticket) [] past

-- these, and of other kinds and names what the group has
abbrev pub texts_at : ℕ → Book → List (List ℕ)
texts_at ticket book =
    filter (λ t. not (is_among (olds_since ticket book.past) t)) book.kept ++ olds_since ticket book.past

-- what was overtaken is kept since the plan after the ticket
abbrev pub reaches_by : ℕ → ℕ → List Given → Bool
reaches_by ticket next [] = nat_le (next - 1) ticket
reaches_by ticket next (g ∷ past) = nat_le (g.number - 1) ticket

abbrev pub reaches : ℕ → Book → Bool
reaches ticket book = reaches_by ticket book.next book.past
