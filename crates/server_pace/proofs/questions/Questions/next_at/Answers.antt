use Rattle.std.proofs.Common.{◌≡◌, IfSome, sym, subst}
use Rattle.node.specs.Nodes.{Node}
use Rattle.node.specs.Standing.{IsNodeOf}
use Rattle.server_pace.specs.Questioning.{IsDueTo, IsNextTo}
use Rattle.server_pace.specs.declared.questions.Next.{Next}
use Rattle.server_pace.proofs.NextTold.{if_none, none_more}
use Rattle.server_pace.proofs.questions.Questions.next_at.Goals as goal

-- there is no such node
pub returns-in_err-to-clause-none : goal.returns-in_err-to-clause-none
returns-in_err-to-clause-none g c = if_none c.from_residual.result _ (λ s h d is due. c.in_err-to.ensures is)

pub returns-clause-some : goal.returns-clause-some
returns-clause-some g c =
    let cluster : c.args.node.now.cluster ≡ c.args.cluster = sym c.requires in
    let there = subst (λ n. IfSome c.next_to.result (λ (next : Next). (s : Node) → IsNodeOf c.args.node.now s → IsNextTo c.args.self.now c.args.teller.now n s c.in_ok-to.to next)) cluster c.next_to.ensures.some in
    subst (λ p. IfSome c.next_to.result (λ (next : Next). (s : Node) → IsNodeOf c.args.node.now s → IsNextTo c.args.self.now c.args.teller.now c.args.cluster s p next)) c.in_ok-to.ensures.0 there

pub returns-clause-none : goal.returns-clause-none
returns-clause-none g c =
    none_more c.next_to.result (λ free. λ s h d is due. free s h d (subst (λ p. IsDueTo c.args.self.now c.args.teller.now s p d) (sym c.in_ok-to.ensures.0) due)) c.next_to.ensures.none
