use Rattle.std.proofs.Common.{◌≡◌, ◌≤◌, ℕ, ◌*◌, ◌-◌, get_or, length}
use Rattle.std.specs.Vec.{vec_len}
use Rattle.http_serve.specs.Services.{MaySubmitMany}
use Rattle.server_clients.specs.Answering.{AreTurns, TellsAnswered}
use Rattle.server_clients.specs.Served.{offered}
use Rattle.server_clients.specs.declared.seat.Seat.{Seat}
use Rattle.server_clients.proofs.seats.Seats.answer_each.Given as goal

abbrev pub invariant-loop-i : goal.invariant-loop-i
invariant-loop-i g l = record {
  within : l.i ≤ vec_len l.self.seats;
  same : (l.self.times ≡ l.initial.self.times) × (l.self.alloc ≡ l.initial.self.alloc);
  taken : (n : ℕ) × (n ≤ 100 * l.i) × MaySubmitMany offered n l.fn.served l.served;
  as_many : length l.self.seats.items ≡ length l.initial.self.seats.items;
  tells : TellsAnswered l.answered l.i l.initial.self.seats.items l.self.seats.items;
  turns : AreTurns offered l.initial.self.times l.now l.i l.fn.served l.served l.initial.self.seats.items l.self.seats.items;
  rest : (k : ℕ) (d : Seat _) → l.i ≤ k → get_or l.self.seats.items k d ≡ get_or l.initial.self.seats.items k d;
}

abbrev pub decreases-loop-i : goal.decreases-loop-i
decreases-loop-i g l = vec_len l.self.seats - l.i
