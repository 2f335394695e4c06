-- A ledger whose numbers a file can keep.
use Rattle.std.specs.Prelude.{ℕ, ◌<◌, ◌^◌, length, All, List}
use Rattle.editor_ledger.specs.Books.{Given, Book}
use Rattle.editor_ledger.specs.declared.released.Released.{Released}

abbrev pub Fits : ℕ → Type 0
Fits n = n < 2 ^ 64

abbrev pub FitsReleased : Released → Type 0
FitsReleased r = Fits r.release × Fits r.time × Fits r.commands

abbrev pub FitsText : List ℕ → Type 0
FitsText t = Fits (length t)

abbrev pub FitsGiven : Given → Type 0
FitsGiven g = Fits g.number × Fits (length g.text)

pub record FitsBook (book : Book) : Type 0 where
  pub editor : Fits book.editor
  pub next : Fits book.next
  pub last_release : Fits book.last_release
  pub log : All FitsReleased book.log
  pub kept : All FitsText book.kept
  pub sent : All FitsGiven book.sent
  pub past : All FitsGiven book.past
  pub messages : All FitsGiven book.messages

-- its numbers are such as the file of a ledger has
pub record IsFile (book : Book) : Type 0 where
  pub fits : FitsBook book
  pub editor : book.editor < 2 ^ 32
