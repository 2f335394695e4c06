use Rattle.std.proofs.Common.{◌+◌, ◌++◌, ◌∷◌, [], sym, subst, ap, ◌∙◌, rules}
use Rattle.server_packets.specs.Making.{IsMadeOf}
use Rattle.server_packets.proofs.MakingLemmas.{one_more}
use Rattle.server_packets.proofs.packet.Packet.push.Goals as goal

pub returns-clause-ok : goal.returns-clause-ok
returns-clause-ok c = λ ds made room.
    let more = one_more c.args.self.now.bytes.items c.args.self.now.count ds c.length_of.result c.args.datagram.now made room (search rules) c.length_of.ensures in
    subst (λ x. IsMadeOf x (c.args.self.now.count + 1) (ds ++ c.args.datagram.now ∷ [])) (sym (c.in_default.ensures.items ∙ ap (λ x. x ++ c.args.datagram.now) c.in_ok-extend_from_slice.ensures.items)) more
