use Rattle.std.proofs.Common.{map, string_bytes, ap, ◌∙◌, arith}
use Rattle.std.proofs.lemmas.Grind.{common_steps}
use Rattle.editor_ledger.specs.Heads.{head_of, is_about}
use Rattle.editor_ledger.specs.View.{head_view}
use Rattle.editor_ledger.proofs.SubjectCounts.{one_out, remove_map}
use Rattle.editor_ledger.proofs.kept.take_one.Goals as goal

pub returns-then-is_about-clause-others : goal.returns-then-is_about-clause-others
returns-then-is_about-clause-others c = λ most.
    ap (map string_bytes) c.remove.ensures.items
    ∙ remove_map string_bytes c.args.kept.now.items c.args.at
    ∙ one_out (λ t. is_about (head_view c.args.head.now) (head_of t)) (map string_bytes c.args.kept.now.items) c.args.at (grind (arith, common_steps)) (grind (arith, common_steps)) most
