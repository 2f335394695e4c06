-- The texts of a release that a folder made.
use Rattle.std.specs.Prelude.{◌≡◌, ℕ, List, true, Some}
use Rattle.editor_ledger.specs.Books.{Book}
use Rattle.editor_ledger.specs.Past.{texts_at, reaches}
use Rattle.editor_plan.specs.Unlogged.{ticket_of}

-- those that the group had at the ticket of the release, which the ledger reaches
pub record HasTexts (release : ℕ) (book : Book) (texts : List (List ℕ)) : Type 0 where
  pub ticket : ℕ
  pub is_ticket : ticket_of release book ≡ Some ticket
  pub reached : reaches ticket book ≡ true
  pub stood : texts ≡ texts_at ticket book
