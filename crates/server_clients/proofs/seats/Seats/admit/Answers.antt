use Rattle.std.proofs.Common.{arith}
use Rattle.server_clients.proofs.seats.Seats.admit.Goals as goal

pub returns-clause-admitted : goal.returns-clause-admitted
returns-clause-admitted g c = (
  omega (arith, c.if-len-ge-SEATS.false, c.len.ensures),
  c.new.result,
  c.new.ensures,
  c.in_ok-push.ensures.items,
)
