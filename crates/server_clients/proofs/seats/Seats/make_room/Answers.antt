use Rattle.std.proofs.Common.{arith}
use Rattle.server_clients.proofs.seats.Seats.make_room.Goals as goal

pub returns-clause-room : goal.returns-clause-room
returns-clause-room g c = (
  omega (arith, c.if-len-lt-SEATS.false, c.len.ensures),
  c.in_ok-first.first,
  c.in_ok-first.ensures,
  record {
    seat = c.swap_remove.result;
    is = c.swap_remove.ensures.value;
    stream_is = c.into_stream.ensures;
    left = c.swap_remove.ensures.items;
  },
)
