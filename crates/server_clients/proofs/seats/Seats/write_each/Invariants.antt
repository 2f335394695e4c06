use Rattle.std.proofs.Common.{◌≡◌, ◌≤◌, ◌-◌}
use Rattle.std.specs.Vec.{vec_len}
use Rattle.server_clients.specs.Moving.{AreDone, IsWrittenOnce}
use Rattle.server_clients.proofs.seats.Seats.write_each.Given as goal

abbrev pub invariant-loop-i : goal.invariant-loop-i
invariant-loop-i g l = record {
  within : l.i ≤ vec_len l.self.seats;
  done : AreDone (IsWrittenOnce g.S.Write.contents l.initial.self.times l.now) l.i l.went
      l.initial.self.seats.items l.self.seats.items;
  same : (l.self.times ≡ l.initial.self.times) × (l.self.alloc ≡ l.initial.self.alloc);
}

abbrev pub decreases-loop-i : goal.decreases-loop-i
decreases-loop-i g l = vec_len l.self.seats - l.i
