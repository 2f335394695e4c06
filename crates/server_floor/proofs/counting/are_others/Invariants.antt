use Rattle.std.proofs.Common.{drop}
use Rattle.server_floor.specs.Told.{AreOthers}
use Rattle.server_floor.proofs.counting.are_others.Given as goal

-- what is left tells of all
abbrev pub invariant-loop-one : goal.invariant-loop-one
invariant-loop-one l = AreOthers l.cluster l.me (drop l.one-index l.told) → AreOthers l.fn.cluster l.fn.me l.fn.told
