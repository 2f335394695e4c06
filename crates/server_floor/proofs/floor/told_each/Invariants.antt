use Rattle.std.proofs.Common.{◌≡◌, map, take}
use Rattle.server_floor.specs.Told.{spelled, AreFitting}
use Rattle.server_floor.proofs.floor.told_each.Given as goal

-- the words so far are told
abbrev pub invariant-loop-word : goal.invariant-loop-word
invariant-loop-word l = AreFitting l.told.items × (map spelled l.told.items ≡ take l.word-index (map (λ w. w.now) l.words))
