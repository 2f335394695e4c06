use Rattle.std.proofs.Common.{arith, rules}
use Rattle.std.proofs.lemmas.Grind.{common_steps}
use Rattle.std.specs.BTreeMap.{get_by_text}
use Rattle.editor_ledger.specs.Subjects.{subject_text}
use Rattle.editor_ledger.specs.View.{head_view}
use Rattle.editor_ledger.proofs.SubjectCounts.{one_behind, nothing_there}
use Rattle.editor_ledger.proofs.kept.know_more.Goals as goal

pub returns-clause-ok : goal.returns-clause-ok
returns-clause-ok c =
    one_behind c.args.known.now c.insert.new.self c.in_ok-subject.subject c.args.text.now (head_view c.in-Some.head) c.contains_key-several.result (search rules) (search rules) c.in_ok-insert.ensures.updates
    (λ lacks. nothing_there (get_by_text c.args.known.now (subject_text (head_view c.in-Some.head))) (grind (arith, common_steps, lacks)))
