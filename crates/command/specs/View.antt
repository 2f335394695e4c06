-- Kinds and rows of the code, as the definitions have them.
use Rattle.std.specs.Prelude.{ℕ, List}
use Rattle.std.specs.Borrow.{Bor}
use Rattle.command.specs.Action.{Kind, template, partial, page_data, route, redirect}
use Rattle.command.specs.Rows.{Row, template_row, partial_row, data_row, route_row, redirect_row, remove_row}
use Rattle.command.specs.Rows.{release_row}
use Rattle.command.specs.declared.commands.Kind.{Kind as CodeKind}
use Rattle.command.specs.declared.commands.Kind.TheVariants as of
use Rattle.command.specs.declared.rows.Row.{Row as CodeRow}
use Rattle.command.specs.declared.rows.Row.TheVariants as found

abbrev pub kind_view : CodeKind → Kind
kind_view of.Template = template
kind_view of.Partial = partial
kind_view of.Data = page_data
kind_view of.Route = route
kind_view of.Redirect = redirect

abbrev pub row_view : CodeRow → Row
row_view (found.Template name body) = template_row name.now body.now
row_view (found.Partial name body) = partial_row name.now body.now
row_view (found.Data name body) = data_row name.now body.now
row_view (found.Route path shows fills) = route_row path.now shows.now fills.now
row_view (found.Redirect path target) = redirect_row path.now target.now
row_view (found.Remove kind name) = remove_row (kind_view kind) name.now
row_view found.Release = release_row

abbrev pub pair_view : Bor (List ℕ) × Bor (List ℕ) → List ℕ × List ℕ
pair_view p = (p.0.now, p.1.now)
