use Rattle.std.proofs.Common.{◌≡◌, inl, inr, max, not, Bool, true, false, None, Some, [], refl, sym, ap, ◌∙◌, append-nil}
use Rattle.std.proofs.Math.Dec.{eqb}
use Rattle.std.proofs.lemmas.Bool.Decides.{Decides-eqb}
use Rattle.std.proofs.lemmas.Slice.Eq.{slice_eq-Decides}
use lib.Pointwise.{pointwise}
use Rattle.wire.specs.declared.message.Message.TheVariants.{Chosen}
use Rattle.chosen_log.specs.Log.{value_at}
use Rattle.node.specs.Nodes.{Value}
use Rattle.node.specs.Effects.{quiet, learned}
use Rattle.node.proofs.Handling.{handled, quiet_whole, touched, wants}
use Rattle.node.proofs.Stepping.{is_up, same_store, stays_there}
use Rattle.node.proofs.node.Node.on_chosen.Goals as goal

pub returns-in_err-learn : goal.returns-in_err-learn
returns-in_err-learn g c from before =
    let old = c.args.self.now in
    let unknown : None ≡ value_at old.known.log c.args.instance = c.in_default.ensures in
    wants g.D.Disk.stands_for g.D.Disk.failed old _ (Chosen from c.args.instance c.args.value.now) _ before before c.learn.ensures.others
    (λ s stands. (is_up old s stands.parts c.requires.running, sym (stands.parts.known.values c.args.instance) ∙ sym unknown))
    refl c.from_residual.ensures.1 c.learn.ensures.same.1 c.in_err-learn.ensures.refused

pub returns-in_default : goal.returns-in_default
returns-in_default g c from before in_range =
    let stands_for = g.D.Disk.stands_for in
    let old = c.args.self.now in
    let i = c.args.instance in
    let v : Value = c.args.value.now in
    let others = c.learn.ensures.others in
    let unknown : None ≡ value_at old.known.log i = c.in_default.ensures in
    handled stands_for g.D.Disk.failed old _ (Chosen from i v) before before [] (record { me = others.me; cluster = others.cluster; releases = others.releases }) c.requires.running in_range c.learn.ensures.same.1 (sym (append-nil before))
    (λ s stands.
    let parts = stands.parts in
    let t = touched (Chosen from i v) s in
    let now = c.in_ok-learn.ensures.learned s parts in
    record {
      effect = quiet (learned t i v);
      does = inl (sym (parts.known.values i) ∙ sym unknown, refl);
      handed = refl;
      parts = record {
        on_record = now.on_record;
        votes = now.votes;
        known = now.known;
        attempts = now.attempts;
        pending = now.pending;
        heard = now.heard;
        reached = ap (λ r. max r i) parts.reached;
      };
      stays = stays_there stands_for old _ s (learned t i v) (record { me = others.me; cluster = others.cluster; releases = others.releases }) (same_store old.store c.learn.new.self.store c.learn.ensures.same.1) refl refl;
    })

negated : (b r : Bool) → r ≡ not b → r ≡ false → b ≡ true
negated true r is off = refl
negated false r is off = absurd (clash (sym is ∙ off))
  where
    clash : true ≡ false → ⊥
    clash e = cc

pub returns : goal.returns
returns g c from before =
    let old = c.args.self.now in
    let i = c.args.instance in
    let v : Value = c.args.value.now in
    let w : Value = c.as_bytes-2.result.now in
    let equal : c.as_bytes.result.now ≡ w = (slice_eq-Decides Decides-eqb c.as_bytes.result.now w (pointwise eqb c.as_bytes.result.now w) refl).0 (negated (pointwise eqb c.as_bytes.result.now w) c.ne.result c.ne.ensures c.if-ne.false) in
    let same : c.in-Some.known.now ≡ v = sym c.as_bytes.ensures ∙ equal ∙ c.as_bytes-2.ensures in
    quiet_whole g.D.Disk.stands_for g.D.Disk.failed old (Chosen from i v) before before [] [] c.requires.running (sym (append-nil before)) refl
    (λ s stands. inr (sym (stands.parts.known.values i) ∙ sym c.in-Some.ensures ∙ ap (λ (x : Value). Some x) same, refl))
