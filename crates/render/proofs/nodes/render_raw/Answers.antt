use Rattle.std.proofs.Common.{rules}
use Rattle.render.proofs.nodes.render_raw.Goals as goal

pub returns : goal.returns
returns c = search rules
