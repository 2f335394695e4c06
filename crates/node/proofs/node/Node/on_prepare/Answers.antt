use Rattle.std.proofs.Common.{◌≡◌, ◌≢◌, true, inl, [], ◌++◌, length, refl, sym, ap, ◌∙◌, append-nil, arith}
use Rattle.wire.specs.declared.message.Message.TheVariants.{Prepare}
use Rattle.durable.specs.Entries.{promise_of}
use Rattle.node.specs.Deliveries.{span_out}
use Rattle.node.specs.Nodes.{IsMute}
use Rattle.node.proofs.Muting.{so_it_is, so_it_is_not}
use Rattle.node.proofs.Preparing.{prepare_takes, answers_take, rises_where, rises_takes, prepare_rises, prepare_stays}
use Rattle.node.proofs.Handling.{delivery_wants, put_unsaid, put_whole, quiet_whole}
use Rattle.node.proofs.Stepping.{Handed}
use Rattle.node.proofs.Adding.{when_ok}
use Rattle.node.proofs.node.Node.on_prepare.Goals as goal

-- a span of which an instance rises is put
pub put_promises-requires-clause-above : goal.put_promises-requires-clause-above
put_promises-requires-clause-above g c =
    rises_where c.args.self.now c.args.first c.args.ballot c.args.count c.in_ok-judgement.judgement c.in_ok-judgement.ensures.ok c.if-not-judgement.false

pub returns-then-is_mute : goal.returns-then-is_mute
returns-then-is_mute g c from =
    let old = c.args.self.now in
    let i = c.args.first in
    let b = c.args.ballot in
    let k = c.args.count in
    quiet_whole g.D.Disk.stands_for g.D.Disk.failed old (Prepare from i b k) _ _ [] [] c.requires.running
    (sym (append-nil c.args.outbox.now.items)) refl
    (λ s stands. inl (so_it_is old c.is_mute.result (λ s. IsMute s i) c.is_mute.ensures c.if-is_mute.true s stands, refl))

pub returns-in_err-judgement : goal.returns-in_err-judgement
returns-in_err-judgement g c from =
    let old = c.args.self.now in
    delivery_wants g.D.Disk.stands_for g.D.Disk.failed old (Prepare from c.args.first c.args.ballot c.args.count) c.from_residual.result _ _ c.requires.running
    (prepare_takes old c.args.first c.args.ballot c.args.count from (so_it_is_not old c.is_mute.result (λ s. IsMute s c.args.first) c.is_mute.ensures c.if-is_mute.false) c.in_err-judgement.ensures.err)
    refl c.from_residual.ensures.1

-- no room is missing for no answers
pub returns-in_err-reserve : goal.returns-in_err-reserve
returns-in_err-reserve g c from =
    let old = c.args.self.now in
    let told = c.in_ok-judgement.judgement in
    let some : told.answers.items ≢ [] = λ none.
    let empty = ap (λ (l : Handed). length l) none in
    omega (arith, empty, told.answers.ok.0, c.args.outbox.now.ok.1, c.len.ensures, c.in_err-reserve.ensures.full) in
    delivery_wants g.D.Disk.stands_for g.D.Disk.failed old (Prepare from c.args.first c.args.ballot c.args.count) c.from_residual-in_err-reserve.result _ _ c.requires.running
    (prepare_takes old c.args.first c.args.ballot c.args.count from (so_it_is_not old c.is_mute.result (λ s. IsMute s c.args.first) c.is_mute.ensures c.if-is_mute.false) (answers_take old c.args.first c.args.ballot c.args.count told c.in_ok-judgement.ensures.ok some))
    c.reserve.ensures.items c.from_residual-in_err-reserve.ensures.1

pub returns-then-not-judgement : goal.returns-then-not-judgement
returns-then-not-judgement g c from =
    let old = c.args.self.now in
    let i = c.args.first in
    let b = c.args.ballot in
    let k = c.args.count in
    let told = c.in_ok-judgement.judgement in
    let is = c.in_ok-judgement.ensures.ok in
    let out : Handed = told.answers.items in
    quiet_whole g.D.Disk.stands_for g.D.Disk.failed old (Prepare from i b k) _ _ (span_out old.me i b is.judged) out c.requires.running
    (when_ok c.append.result _ _ _ (c.append.ensures.succeeds (omega (arith, c.in_ok-reserve.ensures.ok, c.len.ensures))) c.append.ensures.items ∙ ap (λ (l : Handed). l ++ out) c.reserve.ensures.items)
    (sym is.answers)
    (prepare_stays old i b k told is from (so_it_is_not old c.is_mute.result (λ s. IsMute s c.args.first) c.is_mute.ensures c.if-is_mute.false) c.if-not-judgement.true)

pub returns-in_err-put_promises : goal.returns-in_err-put_promises
returns-in_err-put_promises g c from =
    let old = c.args.self.now in
    let i = c.args.first in
    let b = c.args.ballot in
    let k = c.args.count in
    let told = c.in_ok-judgement.judgement in
    let is = c.in_ok-judgement.ensures.ok in
    let rises : told.rises ≡ true = c.if-not-judgement.false in
    let failed = c.in_err-put_promises in
    let fault = c.from_residual-in_err-put_promises in
    put_unsaid g.D.Disk.stands_for g.D.Disk.failed old _ (Prepare from i b k) (promise_of i k b) failed.field-0.0 fault.result _ _ (record { me = refl; cluster = refl; releases = refl }) c.requires.running
    (record { learner = refl; known = refl; queue = refl; attempts = λ a are. are; heard = refl }) refl c.reserve.ensures.items failed.ensures fault.ensures.1
    (λ s stands. (_, prepare_rises old i b k told is from (so_it_is_not old c.is_mute.result (λ s. IsMute s c.args.first) c.is_mute.ensures c.if-is_mute.false) rises s stands, refl))
    (prepare_takes old i b k from (so_it_is_not old c.is_mute.result (λ s. IsMute s c.args.first) c.is_mute.ensures c.if-is_mute.false) (rises_takes old i b k told is rises))

pub returns : goal.returns
returns g c from in_range =
    let old = c.args.self.now in
    let i = c.args.first in
    let b = c.args.ballot in
    let k = c.args.count in
    let told = c.in_ok-judgement.judgement in
    let is = c.in_ok-judgement.ensures.ok in
    let out : Handed = told.answers.items in
    put_whole g.D.Disk.stands_for g.D.Disk.failed old _ (Prepare from i b k) (promise_of i k b) _ _ (span_out old.me i b is.judged) out (record { me = refl; cluster = refl; releases = refl }) c.requires.running in_range
    (record { learner = refl; known = refl; queue = refl; attempts = λ a are. are; heard = refl }) refl
    c.in_ok-put_promises.ensures
    (when_ok c.append-2.result _ _ _ (c.append-2.ensures.succeeds (omega (arith, c.in_ok-reserve.ensures.ok, c.len.ensures))) c.append-2.ensures.items ∙ ap (λ (l : Handed). l ++ out) c.reserve.ensures.items)
    (sym is.answers)
    (prepare_rises old i b k told is from (so_it_is_not old c.is_mute.result (λ s. IsMute s c.args.first) c.is_mute.ensures c.if-is_mute.false) c.if-not-judgement.false)
