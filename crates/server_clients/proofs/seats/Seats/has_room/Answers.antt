use Rattle.std.proofs.Common.{arith}
use Rattle.server_clients.proofs.Seating.{goes_for}
use Rattle.server_clients.proofs.seats.Seats.has_room.Goals as goal

pub returns-else-len-lt-SEATS : goal.returns-else-len-lt-SEATS
returns-else-len-lt-SEATS g c =
    goes_for c.args.self.now.times c.args.now c.args.self.now.seats.items c.first_to_go.result c.is_some.result c.is_some.ensures
    (λ less. absurd (omega (arith, less, c.if-len-lt-SEATS.false, c.len.ensures))) c.first_to_go.ensures
