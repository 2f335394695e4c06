use Rattle.std.proofs.Common.{◌≡◌, inl, inr, max, true, false, [], ◌∷◌, refl, sym, ap, ◌∙◌, append-nil}
use Rattle.wire.specs.declared.message.Message.TheVariants.{Accepted}
use Rattle.learner.specs.ToldVotes.{told_vote}
use Rattle.chosen_log.specs.Log.{value_at}
use Rattle.node.specs.Nodes.{Value}
use Rattle.node.specs.Deliveries.{with_vote}
use Rattle.node.specs.Effects.{quiet, learned}
use Rattle.node.proofs.Counting.{found, missing, more_votes, same_votes, completes}
use Rattle.node.proofs.LearnedParts.{told_elsewhere_with, counted_parts}
use Rattle.node.proofs.Queueing.{is_true, true_is}
use Rattle.node.proofs.Handling.{handled, quiet_whole, touched, wants}
use Rattle.node.proofs.Stepping.{is_up, same_store, stays_there}
use Rattle.node.proofs.node.Node.on_accepted.Goals as goal

pub returns-then-is_some : goal.returns-then-is_some
returns-then-is_some g c before =
    let old = c.args.self.now in
    let i = c.args.instance in
    let known = found c.get.result (value_at old.known.log i) c.get.ensures (sym c.is_some.ensures ∙ c.if-is_some.true) in
    quiet_whole g.D.Disk.stands_for g.D.Disk.failed old (Accepted c.args.from i c.args.ballot c.args.value.now) before before [] [] c.requires.running (sym (append-nil before)) refl
    (λ s stands. inr ((known.0, sym (stands.parts.known.values i) ∙ known.1), refl))

pub returns-in_err-learn : goal.returns-in_err-learn
returns-in_err-learn g c before =
    let old = c.args.self.now in
    wants g.D.Disk.stands_for g.D.Disk.failed old _ (Accepted c.args.from c.args.instance c.args.ballot c.args.value.now) _ before before c.learn.ensures.others
    (λ s stands. (is_up old s stands.parts c.requires.running, sym (stands.parts.known.values c.args.instance) ∙ missing c.get.result (value_at old.known.log c.args.instance) c.get.ensures (sym c.is_some.ensures ∙ c.if-is_some.false)))
    refl c.from_residual.ensures.1 c.learn.ensures.same.1 c.in_err-learn.ensures.refused

pub returns-then-completes : goal.returns-then-completes
returns-then-completes g c before in_range =
    let stands_for = g.D.Disk.stands_for in
    let old = c.args.self.now in
    let q = c.args.from in
    let i = c.args.instance in
    let b = c.args.ballot in
    let v : Value = c.args.value.now in
    let others = c.learn.ensures.others in
    let unknown = missing c.get.result (value_at old.known.log i) c.get.ensures (sym c.is_some.ensures ∙ c.if-is_some.false) in
    handled stands_for g.D.Disk.failed old _ (Accepted q i b v) before before [] (record { me = others.me; cluster = others.cluster; releases = others.releases }) c.requires.running in_range c.learn.ensures.same.1 (sym (append-nil before))
    (λ s stands.
    let parts = stands.parts in
    let t = touched (Accepted q i b v) s in
    let now = c.in_ok-learn.ensures.learned s parts in
    record {
      effect = quiet (learned (with_vote t (told_vote q i b v)) i v);
      does = inl (sym (parts.known.values i) ∙ unknown, inr ((completes old s parts q i b v c.completes.result c.completes.ensures).0 (is_true c.completes.result c.if-completes.true), refl));
      handed = refl;
      parts = counted_parts c.learn.new.self _ s (told_vote q i b v ∷ s.votes) i v (max s.reached i) (record { me = refl; cluster = refl; releases = refl }) now refl refl refl refl refl
          (ap (λ r. max r i) parts.reached) (told_elsewhere_with i (told_vote q i b v) s.votes c.learn.new.self.learner refl now.votes);
      stays = stays_there stands_for old _ s (learned (with_vote t (told_vote q i b v)) i v) (record { me = others.me; cluster = others.cluster; releases = others.releases }) (same_store old.store c.learn.new.self.store c.learn.ensures.same.1) refl refl;
    })

pub returns-in_err-on_accepted : goal.returns-in_err-on_accepted
returns-in_err-on_accepted g c before =
    let old = c.args.self.now in
    wants g.D.Disk.stands_for g.D.Disk.failed old _ (Accepted c.args.from c.args.instance c.args.ballot c.args.value.now) _ before before (record { me = refl; cluster = refl; releases = refl })
    (λ s stands. (is_up old s stands.parts c.requires.running, sym (stands.parts.known.values c.args.instance) ∙ missing c.get.result (value_at old.known.log c.args.instance) c.get.ensures (sym c.is_some.ensures ∙ c.if-is_some.false)))
    refl c.from_residual-in_err-on_accepted.ensures.1 refl
    (λ s parts. record {
      on_record = parts.on_record;
      votes = same_votes old s parts c.args.from c.args.instance c.args.ballot c.args.value.now c.on_accepted.new.self c.in_err-on_accepted.ensures.refused;
      known = parts.known;
      attempts = parts.attempts;
      pending = parts.pending;
      heard = parts.heard;
      reached = parts.reached;
    })

pub returns : goal.returns
returns g c before in_range =
    let stands_for = g.D.Disk.stands_for in
    let old = c.args.self.now in
    let q = c.args.from in
    let i = c.args.instance in
    let b = c.args.ballot in
    let v : Value = c.args.value.now in
    let unknown = missing c.get.result (value_at old.known.log i) c.get.ensures (sym c.is_some.ensures ∙ c.if-is_some.false) in
    handled stands_for g.D.Disk.failed old _ (Accepted q i b v) before before [] (record { me = refl; cluster = refl; releases = refl }) c.requires.running in_range refl (sym (append-nil before))
    (λ s stands.
    let parts = stands.parts in
    let t = touched (Accepted q i b v) s in
    record {
      effect = quiet (with_vote t (told_vote q i b v));
      does = inl (
        sym (parts.known.values i) ∙ unknown,
        inl (λ many. off (sym (true_is c.completes.result ((completes old s parts q i b v c.completes.result c.completes.ensures).1 many)) ∙ c.if-completes.false), refl),
      );
      handed = refl;
      parts = record {
        on_record = parts.on_record;
        votes = more_votes old s parts q i b v c.on_accepted.new.self c.in_ok-on_accepted.ensures.added;
        known = parts.known;
        attempts = parts.attempts;
        pending = parts.pending;
        heard = parts.heard;
        reached = ap (λ r. max r i) parts.reached;
      };
      stays = stays_there stands_for old _ s (with_vote t (told_vote q i b v)) (record { me = refl; cluster = refl; releases = refl }) (same_store old.store old.store refl) refl refl;
    })
  where
    off : true ≡ false → ⊥
    off e = cc
