use Rattle.std.proofs.Common.{◌≡◌, take}
use Rattle.render.specs.Printed.{escaped}
use Rattle.render.proofs.escape.next_special.Given as goal

-- the bytes passed stand for themselves
abbrev pub invariant-loop-at : goal.invariant-loop-at
invariant-loop-at l = escaped (take l.at l.text) ≡ take l.at l.text
