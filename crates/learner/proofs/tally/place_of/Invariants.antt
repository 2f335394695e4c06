use Rattle.std.proofs.Common.{take}
use Rattle.learner.specs.Tallies.{HasNoneOf}
use Rattle.learner.proofs.tally.place_of.Given as goal

abbrev pub invariant-loop-at : goal.invariant-loop-at
invariant-loop-at l = HasNoneOf (take l.at l.tallies) l.ballot l.value
