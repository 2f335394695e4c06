use Rattle.std.proofs.Common.{drop}
use Rattle.site_ids.specs.Lists.{In}
use Rattle.server_floor.specs.Told.{nodes_of}
use Rattle.server_floor.proofs.counting.is_among.Given as goal

-- it stands in what is left, if at all
abbrev pub invariant-loop-one : goal.invariant-loop-one
invariant-loop-one l = In (nodes_of l.fn.told) l.fn.node → In (nodes_of (drop l.one-index l.told)) l.node
