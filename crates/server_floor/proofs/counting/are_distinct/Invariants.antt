use Rattle.std.proofs.Common.{◌↔◌, length}
use Rattle.site_ids.specs.Lists.{Distinct}
use Rattle.server_floor.specs.Told.{nodes_of}
use Rattle.server_floor.proofs.counting.are_distinct.Given as goal

-- what is left tells of all
abbrev pub invariant-loop-first : goal.invariant-loop-first
invariant-loop-first l = Distinct (nodes_of l.rest) ↔ Distinct (nodes_of l.fn.told)

abbrev pub decreases-loop-first : goal.decreases-loop-first
decreases-loop-first l = length l.rest
