use Rattle.std.proofs.Common.{arith}
use Rattle.site_ids.proofs.cluster.Cluster.quorum.Goals as goal

pub returns : goal.returns
returns c = omega arith
