use Rattle.std.proofs.Common.{◌≡◌, max, drop}
use Rattle.server_floor.specs.Told.{furthest}
use Rattle.server_floor.proofs.counting.furthest.Given as goal

-- what is left is furthest, or this
abbrev pub invariant-loop-one : goal.invariant-loop-one
invariant-loop-one l = max l.far (furthest (drop l.one-index l.told)) ≡ furthest l.fn.told
