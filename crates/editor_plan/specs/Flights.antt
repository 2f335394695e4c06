-- What is asked of a node for the commands on their way, and what its answers mean.
use Rattle.std.specs.Prelude.{ℕ, ◌-◌, ◌==◌, nat_le, List, [], ◌∷◌, ◌++◌, length, map, filter, take, not, ◌&&◌}
use Rattle.std.specs.Prelude.{◌||◌, if◌then◌else◌}
use Rattle.std.specs.List.{list_any}
use Rattle.editor_ledger.specs.Books.{Book}
use Rattle.editor_ledger.specs.Steps.{received}
use Rattle.editor_plan.specs.declared.flight.TheConstants.{ROOM}
use Rattle.editor_plan.specs.declared.flight.Ask.{Ask}
use Rattle.editor_plan.specs.declared.flight.Ask.TheVariants.{Receipt, Submit}
use Rattle.editor_plan.specs.declared.flight.Heard.{Heard}
use Rattle.editor_plan.specs.declared.flight.Heard.TheVariants.{Received, Taken, Waits, Refused, Nothing}

-- what is on its way and was not taken, as far as there is room; all by the numbers of tickets
abbrev pub submissions_of : List ℕ → List ℕ → List Ask
submissions_of taken numbers =
    map Submit (take (ROOM - length taken) (filter (λ n. not (list_any (λ m. m == n) taken)) numbers))

-- the receipts of what was taken, and then what was not
abbrev pub asks_of : List ℕ → List ℕ → List Ask
asks_of taken numbers = map Receipt taken ++ submissions_of taken numbers

abbrev pub submission_heard : ℕ → Heard
submission_heard status =
    if status == 200 || status == 202 then Taken
    else (if status == 503 then Waits
    else (if nat_le 400 status && nat_le status 499 then Refused else Nothing))

abbrev pub receipt_heard : ℕ → Heard
receipt_heard status = if status == 200 then Received else (if status == 404 then Waits else Nothing)

abbrev pub heard_of : Ask → ℕ → Heard
heard_of (Receipt number) status = receipt_heard status
heard_of (Submit number) status = submission_heard status

-- only a receipt moves a ledger
abbrev pub after_hearing : Ask → ℕ → Book → Book
after_hearing (Receipt number) status book = if status == 200 then received number book else book
after_hearing (Submit number) status book = book

abbrev pub flight_after : Ask → ℕ → List ℕ → List ℕ
flight_after (Receipt number) status taken =
    if status == 200 then filter (λ n. not (n == number)) taken else taken
flight_after (Submit number) status taken =
    if status == 200 || status == 202 then taken ++ number ∷ [] else taken
