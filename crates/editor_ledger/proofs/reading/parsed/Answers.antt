use Rattle.std.proofs.Common.{◌++◌, ◌∷◌, [], sym, ap, ◌∙◌}
use Rattle.std.specs.List.{fold}
use Rattle.editor_ledger.specs.Books.{Book}
use Rattle.editor_ledger.specs.Entries.{entered}
use Rattle.editor_ledger.specs.Spelling.{sum_of, body}
use Rattle.editor_ledger.proofs.Readings.{items_of, items_spelled, items_fit, items_entered, front_book, only_fails}
use Rattle.editor_ledger.proofs.Spellings.{parted, log_part}
use Rattle.editor_ledger.specs.declared.reading.Front.{Front}
use Rattle.editor_ledger.proofs.reading.parsed.Goals as goal

pub returns-in-Err : goal.returns-in-Err
returns-in-Err c book file is =
    absurd (c.in-Err.ensures book.editor book.next book.last_release (log_part book) file.editor file.fits.next file.fits.last_release (sym is ∙ parted book))

pub returns-in_err-enter_all-in-Ok : goal.returns-in_err-enter_all-in-Ok
returns-in_err-enter_all-in-Ok c book file is =
    let front = c.in-Ok.ensures book.editor book.next book.last_release (log_part book) file.editor file.fits.next file.fits.last_release (sym is ∙ parted book) in
    let full = c.in_err-enter_all-in-Ok.ensures (items_of book) (sum_of (body book) ++ (10 ∷ [])) (items_fit book file.fits) (front.1 ∙ items_spelled book) in
    only_fails _ c.from_residual.result c.from_residual.ensures.1 (λ e why. cc)

pub returns-in_ok-enter_all-in-Ok : goal.returns-in_ok-enter_all-in-Ok
returns-in_ok-enter_all-in-Ok c book file is =
    let front = c.in-Ok.ensures book.editor book.next book.last_release (log_part book) file.editor file.fits.next file.fits.last_release (sym is ∙ parted book) in
    let entered_all = c.in_ok-enter_all-in-Ok.ensures (items_of book) (sum_of (body book) ++ (10 ∷ [])) (items_fit book file.fits) (front.1 ∙ items_spelled book) in
    let read : Front = c.in-Ok.front in
    entered_all
    ∙ ap (λ (b : Book). fold entered (record b { next = read.next; last_release = read.last_release }) (items_of book)) (c.ledger.view_is ∙ c.new-ledger.ensures)
    ∙ ap (λ (f : Front). fold entered (front_book f.editor f.next f.last_release) (items_of book)) front.0
    ∙ items_entered book
