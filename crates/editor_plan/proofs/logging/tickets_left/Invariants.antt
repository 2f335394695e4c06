use Rattle.std.proofs.Common.{◌≡◌, take}
use Rattle.std.specs.List.{fold}
use Rattle.editor_plan.specs.Unlogged.{less}
use Rattle.editor_plan.proofs.logging.tickets_left.Given as goal

-- those so far
abbrev pub invariant-loop-released : goal.invariant-loop-released
invariant-loop-released l = l.left ≡ fold less l.last (take l.released-index l.log)
