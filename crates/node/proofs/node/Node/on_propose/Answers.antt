use Rattle.std.proofs.Common.{inl, [], ◌∷◌, ◌++◌, refl, sym, ap, subst, ◌∙◌, append-nil}
use Rattle.acceptor.specs.declared.judging.ProposeVerdict.TheVariants as verdict
use Rattle.acceptor.specs.Judging.{JudgesProposal}
use Rattle.wire.specs.declared.message.Message.TheVariants.{Propose, Accepted, Nack}
use Rattle.durable.specs.Entries.{Voted}
use Rattle.wire.specs.declared.message.Message.{Message}
use Rattle.node.specs.declared.to.To.{To}
use Rattle.node.specs.declared.to.To.TheVariants.{One, All}
use Rattle.node.specs.Nodes.{Value, IsMute}
use Rattle.node.proofs.Muting.{so_it_is, so_it_is_not}
use Rattle.node.proofs.Preparing.{propose_does, proposal_takes}
use Rattle.node.proofs.Verdicts.{proposal_effect}
use Rattle.node.proofs.Handling.{delivery_wants, put_unsaid, put_whole, quiet_whole, touched}
use Rattle.node.proofs.Stepping.{Handed}
use Rattle.node.proofs.node.Node.on_propose.Goals as goal

pub returns-then-is_mute : goal.returns-then-is_mute
returns-then-is_mute g c from =
    let old = c.args.self.now in
    let i = c.args.instance in
    let b = c.args.ballot in
    let v = c.args.value.now in
    quiet_whole g.D.Disk.stands_for g.D.Disk.failed old (Propose from i b v) _ _ [] [] c.requires.running
    (sym (append-nil c.args.outbox.now.items)) refl
    (λ s stands. inl (so_it_is old c.is_mute.result (λ s. IsMute s i) c.is_mute.ensures c.if-is_mute.true s stands, refl))

pub returns-in_err-put_vote-in-Vote : goal.returns-in_err-put_vote-in-Vote
returns-in_err-put_vote-in-Vote g c from =
    let stands_for = g.D.Disk.stands_for in
    let old = c.args.self.now in
    let i = c.args.instance in
    let b = c.args.ballot in
    let v = c.args.value.now in
    let slot = c.slot.result.now in
    let failed = c.in_err-put_vote-in-Vote in
    let told = c.from_residual-in_err-put_vote-in-Vote in
    put_unsaid stands_for g.D.Disk.failed old _ (Propose from i b v) (Voted i b v) failed.field-0.0 told.result _ _ (record { me = refl; cluster = refl; releases = refl }) c.requires.running
    (record { learner = refl; known = refl; queue = refl; attempts = λ a are. are; heard = refl }) refl c.reserve.ensures.items failed.ensures told.ensures.1
    (λ s stands. (proposal_effect old.me (touched (Propose from i b v) s) i b v verdict.Vote, propose_does old i slot c.slot.ensures (so_it_is_not c.args.self.now c.is_mute.result (λ s. IsMute s c.args.instance) c.is_mute.ensures c.if-is_mute.false) from b v verdict.Vote c.in-Vote.ensures s stands, refl))
    (proposal_takes old i slot c.slot.ensures (so_it_is_not c.args.self.now c.is_mute.result (λ s. IsMute s c.args.instance) c.is_mute.ensures c.if-is_mute.false) b v verdict.Vote c.in-Vote.ensures (λ e. cc))

pub returns-in_ok-put_vote-in-Vote : goal.returns-in_ok-put_vote-in-Vote
returns-in_ok-put_vote-in-Vote g c from in_range =
    let stands_for = g.D.Disk.stands_for in
    let old = c.args.self.now in
    let i = c.args.instance in
    let b = c.args.ballot in
    let v = c.args.value.now in
    let slot = c.slot.result.now in
    let out : Handed = c.accepted.result ∷ [] in
    put_whole stands_for g.D.Disk.failed old _ (Propose from i b v) (Voted i b v) _ _ ((All, Accepted old.me i b v) ∷ []) out (record { me = refl; cluster = refl; releases = refl }) c.requires.running in_range
    (record { learner = refl; known = refl; queue = refl; attempts = λ a are. are; heard = refl }) refl c.in_ok-put_vote-in-Vote.ensures
    (c.push_reserved.ensures.items ∙ ap (λ (l : Handed). l ++ out) c.reserve.ensures.items)
    (ap (λ (x : Value). (All, Accepted old.me i b x) ∷ []) (sym c.in_ok-copy-in-Vote.ensures) ∙ ap (λ (x : To × Message). x ∷ []) (sym c.accepted.ensures))
    (propose_does old i slot c.slot.ensures (so_it_is_not c.args.self.now c.is_mute.result (λ s. IsMute s c.args.instance) c.is_mute.ensures c.if-is_mute.false) from b v verdict.Vote c.in-Vote.ensures)

pub returns-in_ok-copy-in-Again : goal.returns-in_ok-copy-in-Again
returns-in_ok-copy-in-Again g c from =
    let stands_for = g.D.Disk.stands_for in
    let old = c.args.self.now in
    let i = c.args.instance in
    let b = c.args.ballot in
    let v = c.args.value.now in
    let slot = c.slot.result.now in
    let out : Handed = c.accepted-in-Again.result ∷ [] in
    quiet_whole stands_for g.D.Disk.failed old (Propose from i b v) _ _ ((All, Accepted old.me i b v) ∷ []) out c.requires.running
    (c.push_reserved-in-Again.ensures.items ∙ ap (λ (l : Handed). l ++ out) c.reserve-in-Again.ensures.items)
    (ap (λ (x : Value). (All, Accepted old.me i b x) ∷ []) (sym c.in_ok-copy-in-Again.ensures) ∙ ap (λ (x : To × Message). x ∷ []) (sym c.accepted-in-Again.ensures))
    (propose_does old i slot c.slot.ensures (so_it_is_not c.args.self.now c.is_mute.result (λ s. IsMute s c.args.instance) c.is_mute.ensures c.if-is_mute.false) from b v verdict.Again (subst (λ (x : Value). JudgesProposal c.slot.result.now c.args.ballot x verdict.Again) c.as_bytes.ensures c.in-Again.ensures))

pub returns-in_ok-reserve-in-Nack : goal.returns-in_ok-reserve-in-Nack
returns-in_ok-reserve-in-Nack g c from =
    let stands_for = g.D.Disk.stands_for in
    let old = c.args.self.now in
    let i = c.args.instance in
    let b = c.args.ballot in
    let v = c.args.value.now in
    let slot = c.slot.result.now in
    let out : Handed = c.nack.result ∷ [] in
    quiet_whole stands_for g.D.Disk.failed old (Propose from i b v) _ _ ((One b.node, Nack old.me i b c.in-Nack.promised) ∷ []) out c.requires.running
    (c.push_reserved-in-Nack.ensures.items ∙ ap (λ (l : Handed). l ++ out) c.reserve-in-Nack.ensures.items) (ap (λ (x : To × Message). x ∷ []) (sym c.nack.ensures))
    (propose_does old i slot c.slot.ensures (so_it_is_not c.args.self.now c.is_mute.result (λ s. IsMute s c.args.instance) c.is_mute.ensures c.if-is_mute.false) from b v (verdict.Nack c.in-Nack.promised) c.in-Nack.ensures)

pub returns-in-Silent : goal.returns-in-Silent
returns-in-Silent g c from =
    let stands_for = g.D.Disk.stands_for in
    let old = c.args.self.now in
    let i = c.args.instance in
    let b = c.args.ballot in
    let v = c.args.value.now in
    let slot = c.slot.result.now in
    quiet_whole stands_for g.D.Disk.failed old (Propose from i b v) _ _ [] [] c.requires.running
    (sym (append-nil c.args.outbox.now.items)) refl
    (propose_does old i slot c.slot.ensures (so_it_is_not c.args.self.now c.is_mute.result (λ s. IsMute s c.args.instance) c.is_mute.ensures c.if-is_mute.false) from b v verdict.Silent (subst (λ (x : Value). JudgesProposal c.slot.result.now c.args.ballot x verdict.Silent) c.as_bytes.ensures c.in-Silent.ensures))

pub returns-in_err-reserve-in-Vote : goal.returns-in_err-reserve-in-Vote
returns-in_err-reserve-in-Vote g c from =
    delivery_wants g.D.Disk.stands_for g.D.Disk.failed c.args.self.now (Propose from c.args.instance c.args.ballot c.args.value.now) c.from_residual.result _ _ c.requires.running (proposal_takes c.args.self.now c.args.instance c.slot.result.now c.slot.ensures (so_it_is_not c.args.self.now c.is_mute.result (λ s. IsMute s c.args.instance) c.is_mute.ensures c.if-is_mute.false) c.args.ballot c.args.value.now verdict.Vote c.in-Vote.ensures (λ e. cc)) c.reserve.ensures.items c.from_residual.ensures.1

pub returns-in_err-copy-in-Vote : goal.returns-in_err-copy-in-Vote
returns-in_err-copy-in-Vote g c from =
    delivery_wants g.D.Disk.stands_for g.D.Disk.failed c.args.self.now (Propose from c.args.instance c.args.ballot c.args.value.now) c.from_residual-in_err-copy-in-Vote.result _ _ c.requires.running (proposal_takes c.args.self.now c.args.instance c.slot.result.now c.slot.ensures (so_it_is_not c.args.self.now c.is_mute.result (λ s. IsMute s c.args.instance) c.is_mute.ensures c.if-is_mute.false) c.args.ballot c.args.value.now verdict.Vote c.in-Vote.ensures (λ e. cc)) c.reserve.ensures.items c.from_residual-in_err-copy-in-Vote.ensures.1

pub returns-in_err-reserve-in-Again : goal.returns-in_err-reserve-in-Again
returns-in_err-reserve-in-Again g c from =
    delivery_wants g.D.Disk.stands_for g.D.Disk.failed c.args.self.now (Propose from c.args.instance c.args.ballot c.args.value.now) c.from_residual-in_err-reserve-in-Again.result _ _ c.requires.running (proposal_takes c.args.self.now c.args.instance c.slot.result.now c.slot.ensures (so_it_is_not c.args.self.now c.is_mute.result (λ s. IsMute s c.args.instance) c.is_mute.ensures c.if-is_mute.false) c.args.ballot c.args.value.now verdict.Again (subst (λ (x : Value). JudgesProposal c.slot.result.now c.args.ballot x verdict.Again) c.as_bytes.ensures c.in-Again.ensures) (λ e. cc)) c.reserve-in-Again.ensures.items c.from_residual-in_err-reserve-in-Again.ensures.1

pub returns-in_err-copy-in-Again : goal.returns-in_err-copy-in-Again
returns-in_err-copy-in-Again g c from =
    delivery_wants g.D.Disk.stands_for g.D.Disk.failed c.args.self.now (Propose from c.args.instance c.args.ballot c.args.value.now) c.from_residual-in_err-copy-in-Again.result _ _ c.requires.running (proposal_takes c.args.self.now c.args.instance c.slot.result.now c.slot.ensures (so_it_is_not c.args.self.now c.is_mute.result (λ s. IsMute s c.args.instance) c.is_mute.ensures c.if-is_mute.false) c.args.ballot c.args.value.now verdict.Again (subst (λ (x : Value). JudgesProposal c.slot.result.now c.args.ballot x verdict.Again) c.as_bytes.ensures c.in-Again.ensures) (λ e. cc)) c.reserve-in-Again.ensures.items c.from_residual-in_err-copy-in-Again.ensures.1

pub returns-in_err-reserve-in-Nack : goal.returns-in_err-reserve-in-Nack
returns-in_err-reserve-in-Nack g c from =
    delivery_wants g.D.Disk.stands_for g.D.Disk.failed c.args.self.now (Propose from c.args.instance c.args.ballot c.args.value.now) c.from_residual-in_err-reserve-in-Nack.result _ _ c.requires.running (proposal_takes c.args.self.now c.args.instance c.slot.result.now c.slot.ensures (so_it_is_not c.args.self.now c.is_mute.result (λ s. IsMute s c.args.instance) c.is_mute.ensures c.if-is_mute.false) c.args.ballot c.args.value.now (verdict.Nack c.in-Nack.promised) c.in-Nack.ensures (λ e. cc)) c.reserve-in-Nack.ensures.items c.from_residual-in_err-reserve-in-Nack.ensures.1
