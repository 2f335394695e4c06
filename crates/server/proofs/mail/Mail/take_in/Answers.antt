use Rattle.std.proofs.Common.{◌∷◌, [], inl, inr, ⊎_elim, refl, sym, ap, subst, ◌∙◌, append-nil}
use Rattle.std.proofs.lemmas.Result.{on_err_weaker}
use Rattle.server_packets.specs.Packets.{IsPacket}
use Rattle.server_packets.specs.declared.TheConstants.{MARK}
use Rattle.server.specs.Mailing.{waiting_of}
use Rattle.server.specs.Speaking.{HearsPiece}
use Rattle.server.proofs.mail.Mail.take_in.Goals as goal

-- no datagram of a piece that is none of several waits
pub returns-in-None-clause-refused : goal.returns-in-None-clause-refused
returns-in-None-clause-refused c =
    on_err_weaker c.push.result (λ same. ([], c.args.piece.now ∷ [], inr (c.in-None.ensures, refl), same ∙ sym (append-nil (waiting_of c.args.self.now)))) c.push.ensures.refused

-- what follows a mark is of a packet, so its sender may be heard
pub returns-in-Some-clause-peers : goal.returns-in-Some-clause-peers
returns-in-Some-clause-peers c =
    let f = c.in-Some.ensures in
    let is : IsPacket c.args.piece.now = (f.2.0, record { is = f.0 ∙ ap (λ l. MARK ∷ l) f.2.1; short = f.1 }) in
    subst (λ q. HearsPiece c.args.self.now.cluster c.args.piece.now c.args.now c.args.self.now.peers q) (sym c.take_frames.ensures.peers.0)
    (⊎_elim (λ heard. inl (is, c.in-Some.frames.now, f.0, heard)) (λ same. inr same) c.hear.ensures.hears)
