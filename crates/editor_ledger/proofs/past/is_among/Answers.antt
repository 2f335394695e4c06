use Rattle.std.proofs.Common.{sym, ◌∙◌, rules}
use Rattle.editor_ledger.specs.View.{head_view}
use Rattle.editor_ledger.proofs.LookUps.{among_none, among_some}
use Rattle.editor_ledger.proofs.past.is_among.Goals as goal

pub returns-in-Some : goal.returns-in-Some
returns-in-Some c = λ texts has. c.has_about.ensures texts has ∙ sym (among_some c.args.text.now (head_view c.in-Some.head) texts (search rules))

pub returns-in-None : goal.returns-in-None
returns-in-None c = λ texts has. sym (among_none c.args.text.now texts (search rules))
