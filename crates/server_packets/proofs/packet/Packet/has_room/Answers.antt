use Rattle.std.proofs.Common.{inr, length, ap, arith}
use Rattle.server_packets.proofs.MakingLemmas.{fits}
use Rattle.server_packets.proofs.packet.Packet.has_room.Goals as goal

pub returns-else-self-eq0 : goal.returns-else-self-eq0
returns-else-self-eq0 c = λ ds made.
    let l = ap length made.marked in (
      λ t. inr (grind (arith, t, made.sized)),
      λ room. let f = fits ds c.args.len (omega (arith, made.counted)) room in grind (arith, f, made.sized),
    )
