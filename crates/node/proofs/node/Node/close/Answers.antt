use Rattle.std.proofs.Common.{sym, subst}
use Rattle.node.proofs.node.Node.close.Goals as goal

pub returns-clause-keeps : goal.returns-clause-keeps
returns-clause-keeps g c s d on = (subst (λ disk. g.D.Disk.stands_for disk d) (sym c.close.ensures) on.stands, on.keeps)
