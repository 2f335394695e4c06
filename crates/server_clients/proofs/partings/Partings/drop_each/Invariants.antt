use Rattle.std.proofs.Common.{◌≡◌, ◌≤◌, ◌-◌}
use Rattle.std.specs.Vec.{vec_len}
use Rattle.server_clients.specs.Moving.{AreDone}
use Rattle.server_clients.specs.Lingering.{IsDropped}
use Rattle.server_clients.proofs.partings.Partings.drop_each.Given as goal

abbrev pub invariant-loop-i : goal.invariant-loop-i
invariant-loop-i g l = record {
  within : l.i ≤ vec_len l.self.partings;
  done : AreDone (IsDropped g.S.Read.remaining) l.i l.came l.initial.self.partings.items l.self.partings.items;
  same : l.self.times ≡ l.initial.self.times;
}

abbrev pub decreases-loop-i : goal.decreases-loop-i
decreases-loop-i g l = vec_len l.self.partings - l.i
