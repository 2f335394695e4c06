-- What an interrupted run left in the log.
use Rattle.std.specs.Prelude.{◌-◌, length}
use Rattle.editor_ledger.specs.Books.{Book}
use Rattle.editor_plan.specs.declared.left_over.LeftOver.{LeftOver}

-- how many tickets since the folder's last release have their receipts, and how many are on their way
abbrev pub left_by : Book → LeftOver
left_by book = record {
  logged = book.next - book.last_release - 1 - length book.sent;
  on_their_way = length book.sent;
}
