use Rattle.node.proofs.node.Node.reached.Goals as goal

pub returns : goal.returns
returns g c s stands = stands.parts.reached
