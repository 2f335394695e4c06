use Rattle.std.proofs.Common.{◌<◌, ◌≤◌, ℕ}
use Rattle.site_ids.specs.Ids.{IsNode}
use Rattle.node.specs.Nodes.{Node}
use Rattle.node.specs.Standing.{IsNodeOf}
use Rattle.server_pace.specs.Places.{number_behind}
use Rattle.server_pace.specs.Questioning.{IsDueTo}
use Rattle.server_pace.specs.declared.course.Course.{Course}
use Rattle.server_pace.proofs.questions.Questions.first_due.Given as goal

-- nothing is due to those at the places so far
abbrev pub invariant-loop-place : goal.invariant-loop-place
invariant-loop-place g l = (p : ℕ) → 1 ≤ p → p < l.place → (s : Node) → IsNodeOf l.node s → (c : Course)
    → IsNode l.node.cluster (number_behind l.self.last p) → ¬ IsDueTo l.self l.teller s (number_behind l.self.last p) c
