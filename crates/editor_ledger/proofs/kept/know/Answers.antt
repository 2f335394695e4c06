use Rattle.std.proofs.Common.{rules}
use Rattle.editor_ledger.specs.View.{head_view}
use Rattle.editor_ledger.proofs.SubjectCounts.{in_place, as_first}
use Rattle.editor_ledger.proofs.kept.know.Goals as goal

pub returns-in-Some-clause-ok : goal.returns-in-Some-clause-ok
returns-in-Some-clause-ok c = λ t is. in_place c.args.known.now t (head_view c.args.head.now) c.in-Some.several is (search rules)

pub returns-clause-ok : goal.returns-clause-ok
returns-clause-ok c = λ t is. as_first c.args.known.now c.insert.new.self c.in_ok-subject.subject t (head_view c.args.head.now) is (search rules) c.in_ok-insert.ensures.updates (search rules)
