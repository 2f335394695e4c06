use Rattle.std.proofs.Common.{◌≤◌, ◌-◌}
use Rattle.std.specs.Vec.{vec_len}
use Rattle.server_clients.proofs.Seating.{IsFirstOf}
use Rattle.server_clients.proofs.seats.Seats.first_to_go.Given as goal

abbrev pub invariant-loop-i : goal.invariant-loop-i
invariant-loop-i g l = record {
  within : l.i ≤ vec_len l.self.seats;
  first : IsFirstOf l.self.times l.now l.self.seats.items l.i l.first;
}

abbrev pub decreases-loop-i : goal.decreases-loop-i
decreases-loop-i g l = vec_len l.self.seats - l.i
