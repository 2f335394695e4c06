-- What happens to a ledger in publications, one after the other, whatever is interrupted in between: an
-- interruption leaves the ledger that was saved last.
use Rattle.std.specs.Prelude.{◌≡◌, ℕ, List, [], ◌∷◌, map}
use Rattle.editor_ledger.specs.Books.{Book}
use Rattle.editor_ledger.specs.Steps.{planned, logged, messaged}
use Rattle.editor_ledger.specs.declared.released.Released.{Released}
use Rattle.editor_plan.specs.Courses.{advanced}
use Rattle.editor_plan.specs.Flights.{after_hearing}
use Rattle.editor_plan.specs.declared.flight.Ask.{Ask}

pub data Move : Type 0 where
  -- the publication of a folder of these texts goes on
  advances : List (List ℕ) → Move
  -- a folder of the second texts puts those of them again that are among the first
  plans_again : List (List ℕ) → List (List ℕ) → Move
  -- an answer with that status is heard
  hears : Ask → ℕ → Move
  -- a release is added to the log
  notes : Released → Move
  -- a message is said of the release of that number
  says : ℕ → List ℕ → Move

abbrev pub moved : Move → Book → Book
moved (advances wanted) book = advanced wanted book
moved (plans_again again wanted) book = planned again wanted book
moved (hears ask status) book = after_hearing ask status book
moved (notes released) book = logged released book
moved (says release text) book = messaged release text book

abbrev pub moved_all : List Move → Book → Book
moved_all [] book = book
moved_all (move ∷ later) book = moved_all later (moved move book)

-- answers were heard, one after the other, and nothing else happened
abbrev pub HearsAnswers : Book → Book → Type 0
HearsAnswers old new = (answers : List (Ask × ℕ)) × (new ≡ moved_all (map (λ a. hears a.0 a.1) answers) old)
