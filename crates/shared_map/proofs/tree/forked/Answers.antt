use Rattle.std.proofs.Common.{refl}
use Rattle.shared_map.proofs.tree.forked.Goals as goal

pub invariant_of-result : goal.invariant_of-result
invariant_of-result g c = rw (c.in_ok-node.ensures.ok, c.in_ok-copy.ensures, c.in_ok-clone.ensures.cases, c.in_ok-copy-2.ensures) c.requires

pub returns : goal.returns
returns g c = rw (c.in_ok-node.ensures.ok, c.in_ok-copy.ensures, c.in_ok-clone.ensures.cases, c.in_ok-copy-2.ensures) refl
