use Rattle.std.proofs.Common.{◌≡◌, ◌≤◌, ◌-◌}
use Rattle.std.specs.Vec.{vec_len}
use Rattle.server_clients.specs.Seating.{StayBefore}
use Rattle.server_clients.proofs.seats.Seats.leave.Given as goal

abbrev pub invariant-loop-i : goal.invariant-loop-i
invariant-loop-i g l = record {
  within : l.i ≤ vec_len l.self.seats;
  same : l.self ≡ l.initial.self;
  stay : StayBefore l.i l.self.times l.now l.self.seats.items;
}

abbrev pub decreases-loop-i : goal.decreases-loop-i
decreases-loop-i g l = vec_len l.self.seats - l.i
