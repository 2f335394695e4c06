use Rattle.std.proofs.Common.{inr, subst}
use Rattle.server_pace.specs.Questioning.{TellsNext}
use Rattle.server_pace.proofs.pace.Pace.next_telling.Goals as goal

pub returns-clause-told : goal.returns-clause-told
returns-clause-told g c = λ s h. inr (
  c.if-waits.false,
  subst (λ t. TellsNext c.args.self.now.questions t c.args.node.now.cluster s c.next.result c.next.new.self) c.teller-teller.ensures (c.next.ensures s h),
)
