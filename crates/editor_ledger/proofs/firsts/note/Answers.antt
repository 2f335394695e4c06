use Rattle.std.proofs.Common.{rules}
use Rattle.editor_ledger.proofs.LookUps.{about_nothing, had_before, comes_first}
use Rattle.editor_ledger.proofs.firsts.note.Goals as goal

pub returns-in_ok-insert : goal.returns-in_ok-insert
returns-in_ok-insert c = comes_first c.args.firsts.now c.insert.new.self c.args.text c.in-Some.head (search rules) (search rules) c.in_ok-insert.ensures.updates

pub returns-else-not-contains_key : goal.returns-else-not-contains_key
returns-else-not-contains_key c = had_before c.args.firsts.now c.args.text c.in-Some.head (search rules) (search rules)

pub returns-in_default : goal.returns-in_default
returns-in_default c = about_nothing c.args.firsts.now c.args.text (search rules)
