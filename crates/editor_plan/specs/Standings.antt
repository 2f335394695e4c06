-- How a ledger stands to a group, by what nodes say.
use Rattle.std.specs.Prelude.{ℕ, ◌-◌, ◌==◌, List, length, slice_get, Bool, true, false, not, ◌&&◌, ◌||◌}
use Rattle.std.specs.Prelude.{nat_lt, if◌then◌else◌, Option, Some, None}
use Rattle.std.specs.List.{list_any}
use Rattle.editor_ledger.specs.Books.{Book}
use Rattle.editor_ledger.specs.Steps.{is_idle}
use Rattle.editor_ledger.specs.declared.released.Released.{Released}
use Rattle.editor_plan.specs.declared.told.Told.{Told}
use Rattle.editor_plan.specs.declared.told.Told.TheVariants.{Given, Unknown, Nothing}
use Rattle.editor_plan.specs.declared.standing.Standing.{Standing}
use Rattle.editor_plan.specs.declared.standing.Standing.TheVariants.{Newest, Older, Elsewhere, Returning}
use Rattle.editor_plan.specs.declared.standing.Standing.TheVariants.{Unanswered}
use Rattle.editor_plan.specs.declared.standing.Witness.{Witness}

abbrev pub told_by : Option ℕ → Told
told_by None = Nothing
told_by (Some status) = if status == 200 then Given else (if status == 404 then Unknown else Nothing)

abbrev pub is_given : Told → Bool
is_given Given = true
is_given Unknown = false
is_given Nothing = false

abbrev pub is_unknown : Told → Bool
is_unknown Given = false
is_unknown Unknown = true
is_unknown Nothing = false

-- the ticket before the next one if nothing is on its way, else that of the last release: it has its
-- receipt by the ledger
abbrev pub last_ticket : Book → ℕ
last_ticket book = if is_idle book then book.next - 1 else book.last_release

abbrev release_of : Option Released → ℕ
release_of None = 0
release_of (Some released) = released.release

-- the newest release that the group has shown of this folder, 0 for none
abbrev pub last_shown : Book → ℕ
last_shown book = release_of (slice_get book.log (length book.log - 1))

-- the node shows an older release than `shown`: it has not learned again what it had
abbrev pub is_behind : ℕ → Option ℕ → Bool
is_behind shown None = false
is_behind shown (Some newest) = nat_lt newest shown

-- the node knows the last ticket, if there is one, and not the next
abbrev pub confirms : ℕ → Witness → Bool
confirms last w = is_unknown w.next && (last == 0 || is_given w.last)

-- the node answers, and is not behind
abbrev pub is_elsewhere : ℕ → Witness → Bool
is_elsewhere shown w = is_unknown w.next && not (is_behind shown w.newest)

-- a ledger is the newest if a node confirms it, and no node knows more; if all that answer are behind,
-- the group is still coming back
abbrev pub standing_of : ℕ → ℕ → List Witness → Standing
standing_of last shown ws =
    if list_any (λ w. is_given w.next) ws then Older
    else (if list_any (confirms last) ws then Newest
    else (if list_any (is_elsewhere shown) ws then Elsewhere
    else (if list_any (λ w. is_unknown w.next) ws then Returning else Unanswered)))
