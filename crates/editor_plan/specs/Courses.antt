-- What a publication plans next.
use Rattle.std.specs.Prelude.{◌≡◌, ◌≤◌, ◌+◌, ◌^◌, List, [], ℕ, length, false, if◌then◌else◌}
use Rattle.editor_ledger.specs.Books.{Book}
use Rattle.editor_ledger.specs.Plans.{plan_of}
use Rattle.editor_ledger.specs.Steps.{is_idle, has_unshown, planned, release_planned}
use Rattle.editor_plan.specs.declared.course.Stage.{Stage}
use Rattle.editor_plan.specs.declared.course.Stage.TheVariants.{Sends, Done}

-- the commands, or their release if there are none; neither while something is on its way
abbrev pub advanced : List (List ℕ) → Book → Book
advanced wanted book = release_planned (planned [] wanted book)

abbrev pub stage_of : Book → Stage
stage_of book = if is_idle book then Done else Sends

-- nothing was planned: the group has each of the texts, puts no other of this folder, and has released them
pub record IsDone (wanted : List (List ℕ)) (old new : Book) : Type 0 where
  pub same : new ≡ old
  pub idle : old.sent ≡ []
  pub has_all : plan_of [] old.kept wanted ≡ []
  pub shown : has_unshown old ≡ false

-- the plan and its release need more tickets than there are numbers left in 64 bits
abbrev pub LacksTickets : List (List ℕ) → Book → Type 0
LacksTickets wanted book = 2 ^ 64 ≤ book.next + length (plan_of [] book.kept wanted) + 1
