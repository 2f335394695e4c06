-- What holds of every server that tries, of every one that is behind, and of every one that tells another.
use Rattle.std.specs.Prelude.{◌≡◌, ◌≢◌, ◌⊎◌, ℕ, ◌+◌, ◌*◌, ◌^◌, ◌<◌, ◌≤◌, Bool, true}
use Rattle.node.specs.declared.TheConstants.{MAX_TOLD}
use Rattle.site_drive.specs.declared.last_call.LastCall.TheVariants.{Ask, TickOrAsk}
use Rattle.server_pace.specs.Courses.{first_course, heard_on, is_open, told_on}
use Rattle.server_pace.specs.Pacing.{ticked, waited}
use Rattle.server_pace.specs.Questioning.{asking_of, Asks}
use Rattle.server_pace.specs.Turns.{call_behind}
use Rattle.server_pace.specs.declared.course.Course.{Course}
use Rattle.server_pace.specs.declared.due.Due.{Due}
use Rattle.server_pace.specs.declared.last_question.LastQuestion.{LastQuestion}
use Rattle.server_pace.specs.declared.seen.Seen.{Seen}
use Rattle.server_pace.specs.declared.ticking.Ticking.{Ticking}
use Rattle.server_times.specs.Timing.{asks_after, passed}
use Rattle.server_times.specs.declared.times.Times.{Times}

-- what may be on its way to a node is within its budget of stretches, and the budget is within the times'
-- bound
pub record IsWithin (times : Times) (c : Course) : Type 0 where
  pub some : 1 ≤ c.budget
  pub budget : c.budget ≤ times.most
  pub next : c.next ≤ c.first + c.budget * MAX_TOLD

-- the times allow at least one stretch
abbrev pub HasBudgets : Times → Type 0
HasBudgets times = (1 ≤ times.least) × (times.least ≤ times.most)

-- a course begins within its budget
abbrev pub BeginsWithin : Type 0
BeginsWithin = (times : Times) (now i : ℕ) → HasBudgets times → IsWithin times (first_course times now i)

-- it stays within its budget, whatever its node asks for
abbrev pub HearsWithin : Type 0
HearsWithin = (times : Times) (now i : ℕ) (c : Course) → HasBudgets times → IsWithin times c
    → IsWithin times (heard_on times now i c)

-- it stays within its budget after each telling that may set out
abbrev pub TellsWithin : Type 0
TellsWithin = (times : Times) (count : ℕ) (c : Course) → count ≤ MAX_TOLD → is_open c count ≡ true
    → IsWithin times c → IsWithin times (told_on c count)

-- A question is due as soon as its time has passed since the last one, whatever came and whoever tries
abbrev pub ComesInTime : Type 0
ComesInTime = (last : LastQuestion) (times : Times) (now : ℕ) (seen : Seen) (empty : ℕ) (more : Bool)
    → passed last.at now (asks_after times empty) ≡ true → Asks (asking_of last times now seen empty more)

-- A question that is due is called, or else a tick that is due, or one for a fresh value
abbrev pub IsAsked : Type 0
IsAsked = (due : Due) → due.question ≡ true
    → (call_behind due ≡ Ask)
    ⊎ ((call_behind due ≡ TickOrAsk) × ((due.fresh ≡ true) ⊎ ((due.tick ≡ true) ⊎ (due.goes_on ≡ true))))

-- After a tick in vain that a majority answered a server waits longer than before. Only the counter of
-- patiences bounds this wait
abbrev pub PatienceGrows : Type 0
PatienceGrows = (t : Ticking) (times : Times) (now : ℕ) (stake : Bool) → t.ticks ≢ 0
    → t.longer + times.longer < 2 ^ 32
    → t.longer + times.longer < waited (ticked t times now true) times stake
