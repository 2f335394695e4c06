use Rattle.std.proofs.Common.{Err, ℕ, Some, None, Ok, Option, [], ◌∷◌, ◌++◌, refl, sym, ap, subst, ◌∙◌, append-nil}
use Rattle.wire.specs.declared.message.Message.TheVariants.{Promise, Propose}
use Rattle.proposer.specs.Attempts.{Attempt}
use Rattle.proposer.specs.Best.{vote_told}
use Rattle.site_ids.specs.declared.value.Vote.{Vote}
use Rattle.proposer.specs.Standing.{Attempting, Promised}
use Rattle.proposer.specs.declared.proposer.Proposal.{Proposal}
use Rattle.node.specs.declared.fault.NodeFault.TheVariants.{OutOfMemory}
use Rattle.node.specs.declared.to.To.TheVariants.{All}
use Rattle.node.proofs.Promising.{attempts_stay, proposes_none, proposes_some, proposal_out, promise_whole}
use Rattle.node.proofs.Handling.{delivery_wants, wants}
use Rattle.node.proofs.Stepping.{Handed, is_up}
use Rattle.node.proofs.node.Node.on_promise.Goals as goal

pub returns-in-Ok-Some : goal.returns-in-Ok-Some
returns-in-Ok-Some g c in_range =
    let old = c.args.self.now in
    let q = c.args.from in
    let i = c.args.instance in
    let b = c.args.ballot in
    let prior : Option Vote = vote_told c.args.prior in
    let new = c.on_promise.new.self in
    let answer : Option Proposal = c.in-Ok-Some.field-0 in
    let taken : (attempts : ℕ → Option Attempt) → Attempting old.proposer attempts → Promised old.cluster attempts q i b prior (Ok answer) new = λ attempts are.
    subst (λ (n : ℕ). Promised n attempts q i b prior (Ok answer) new) old.proposer_cluster
    (c.in-Ok-Some.ensures.step attempts are) in
    let x = c.in-Ok-Some.proposal in
    let out : Handed = (All, Propose old.me x.instance x.ballot x.value) ∷ [] in
    promise_whole g.D.Disk.stands_for g.D.Disk.failed old _ q i b prior (Some x.value) _ _ out (record { me = refl; cluster = refl; releases = refl }) c.requires.running in_range refl refl refl refl (λ k. (c.on_promise.ensures.same k).heard) refl
    (proposes_some old.proposer new old.cluster q i b prior answer taken x c.in-Ok-Some.field-0-is)
    (c.push_reserved.ensures.items ∙ ap (λ (l : Handed). l ++ out) c.reserve.ensures.items)
    (proposal_out old.proposer new old.cluster q i b prior answer taken old.me x c.in-Ok-Some.field-0-is)

pub returns-in-Ok-None : goal.returns-in-Ok-None
returns-in-Ok-None g c in_range =
    let old = c.args.self.now in
    let q = c.args.from in
    let i = c.args.instance in
    let b = c.args.ballot in
    let prior : Option Vote = vote_told c.args.prior in
    let new = c.on_promise.new.self in
    let answer : Option Proposal = c.in-Ok-None.field-0 in
    let taken : (attempts : ℕ → Option Attempt) → Attempting old.proposer attempts → Promised old.cluster attempts q i b prior (Ok answer) new = λ attempts are.
    subst (λ (n : ℕ). Promised n attempts q i b prior (Ok answer) new) old.proposer_cluster
    (c.in-Ok-None.ensures.step attempts are) in
    promise_whole g.D.Disk.stands_for g.D.Disk.failed old _ q i b prior None _ _ [] (record { me = refl; cluster = refl; releases = refl }) c.requires.running in_range refl refl refl refl (λ k. (c.on_promise.ensures.same k).heard) refl
    (proposes_none old.proposer new old.cluster q i b prior answer taken c.in-Ok-None.field-0-is)
    (c.reserve.ensures.items ∙ sym (append-nil c.args.outbox.now.items))
    (λ attempts are. refl)

pub returns-in-Err : goal.returns-in-Err
returns-in-Err g c =
    let old = c.args.self.now in
    wants g.D.Disk.stands_for g.D.Disk.failed old _ (Promise c.args.from c.args.instance c.args.ballot (vote_told c.args.prior)) (Err OutOfMemory) _ _ (record { me = refl; cluster = refl; releases = refl })
    (λ s stands. (is_up old s stands.parts c.requires.running, tt)) c.reserve.ensures.items refl refl
    (λ s parts. record {
      on_record = parts.on_record;
      votes = parts.votes;
      known = parts.known;
      attempts = attempts_stay old.proposer.cluster s.attempts c.args.from c.args.instance c.args.ballot (vote_told c.args.prior) c.in-Err.field-0 c.on_promise.new.self (c.in-Err.ensures.step s.attempts parts.attempts);
      pending = parts.pending;
      heard = (λ k. (c.on_promise.ensures.same k).heard) ∙ parts.heard;
      reached = parts.reached;
    })

pub returns-in_err-reserve : goal.returns-in_err-reserve
returns-in_err-reserve g c =
    delivery_wants g.D.Disk.stands_for g.D.Disk.failed c.args.self.now (Promise c.args.from c.args.instance c.args.ballot (vote_told c.args.prior)) c.from_residual.result _ _ c.requires.running (λ s stands. tt) c.reserve.ensures.items c.from_residual.ensures.1
