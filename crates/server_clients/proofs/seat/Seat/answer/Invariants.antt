use Rattle.std.proofs.Common.{◌≡◌, ◌+◌, ◌-◌, ◌≤◌}
use Rattle.http_serve.specs.Services.{MaySubmitMany}
use Rattle.server_clients.specs.Answering.{AreMore}
use Rattle.server_clients.specs.Served.{offered}
use Rattle.server_clients.proofs.seat.Seat.answer.Given as goal

-- so many requests were answered
abbrev pub invariant-loop-count : goal.invariant-loop-count
invariant-loop-count g l = record {
  more : AreMore offered l.times l.now l.count l.fn.served l.served l.initial.self l.self;
  counted : l.self.connection.answered ≡ l.initial.self.connection.answered + l.count;
  few : l.count ≤ 100;
  taken : MaySubmitMany offered l.count l.fn.served l.served;
}

abbrev pub decreases-loop-count : goal.decreases-loop-count
decreases-loop-count g l = 100 - l.self.connection.answered
