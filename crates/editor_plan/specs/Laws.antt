-- What holds of publications, whatever was planned, interrupted and answered.
use Rattle.std.specs.Prelude.{◌≡◌, ◌↔◌, ℕ, List, true, Contains}
use Rattle.editor_ledger.specs.Books.{Given, fresh}
use Rattle.editor_ledger.specs.Heads.{is_put}
use Rattle.editor_ledger.specs.Laws.{AreApart, AreAbout}
use Rattle.editor_plan.specs.Courses.{IsDone}
use Rattle.editor_plan.specs.Moves.{Move, moved_all}

-- whatever folders were published and interrupted, and whatever nodes answered, before and between: a ticket
-- has one text
abbrev pub TicketsHaveOneText : Type 0
TicketsHaveOneText = (editor : ℕ) (moves more : List Move) (g h : Given)
    → Contains (moved_all moves (fresh editor)).sent g
    → Contains (moved_all more (moved_all moves (fresh editor))).sent h
    → g.number ≡ h.number
    → g.text ≡ h.text

-- if a publication says that all is done, the puts that have their receipts are the folder's
abbrev pub DoneIsTheFolder : Type 0
DoneIsTheFolder = (editor : ℕ) (moves : List Move) (wanted : List (List ℕ))
    → IsDone wanted (moved_all moves (fresh editor)) (moved_all moves (fresh editor))
    → AreApart wanted
    → AreAbout wanted
    → (t : List ℕ) → is_put t ≡ true
    → Contains (moved_all moves (fresh editor)).kept t ↔ Contains wanted t
