use Rattle.std.proofs.Common.{◌≡◌, ◌≤◌, ◌-◌}
use Rattle.std.specs.Vec.{vec_len}
use Rattle.server_clients.specs.Moving.{AreDone, IsReadOnce}
use Rattle.server_clients.proofs.seats.Seats.read_each.Given as goal

abbrev pub invariant-loop-i : goal.invariant-loop-i
invariant-loop-i g l = record {
  within : l.i ≤ vec_len l.self.seats;
  done : AreDone (IsReadOnce g.S.Read.remaining l.now) l.i l.came
      l.initial.self.seats.items l.self.seats.items;
  same : (l.self.times ≡ l.initial.self.times) × (l.self.alloc ≡ l.initial.self.alloc);
}

abbrev pub decreases-loop-i : goal.decreases-loop-i
decreases-loop-i g l = vec_len l.self.seats - l.i
