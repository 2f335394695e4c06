use Rattle.engine_common.proofs.CutLemmas.{no_cut}
use Rattle.std.proofs.Common.{decimal, ◌∙◌}
use Rattle.server_floor.proofs.Telling.{told_cut, told_parts}
use Rattle.server_floor.proofs.told.told_in.Goals as goal

pub returns-in_err-node : goal.returns-in_err-node
returns-in_err-node c = rw c.from_residual.ensures (λ t fits is. no_cut 58 c.as_bytes.result.now (decimal t.node) (decimal t.reach) c.in_err-node.ensures (rw (c.as_bytes.ensures.value ∙ is) (told_cut t fits)))

pub returns-in_err-node-2 : goal.returns-in_err-node-2
returns-in_err-node-2 c = rw c.from_residual-in_err-node-2.ensures (λ t fits is.
    c.in_err-node-2.ensures t.node fits.0 (told_parts c.as_bytes.result.now _ _ t c.in_ok-node.ensures fits (c.as_bytes.ensures.value ∙ is)).front)

pub returns-in_err-reach : goal.returns-in_err-reach
returns-in_err-reach c = rw c.from_residual-in_err-reach.ensures (λ t fits is.
    c.in_err-reach.ensures t.reach fits.1 (told_parts c.as_bytes.result.now _ _ t c.in_ok-node.ensures fits (c.as_bytes.ensures.value ∙ is)).back)
