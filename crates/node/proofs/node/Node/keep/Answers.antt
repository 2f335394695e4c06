use Rattle.std.proofs.Common.{inl, inr, ℕ, Option, Some, [], refl, sym, subst, ◌∙◌}
use Rattle.std.specs.Prelude.{MatchOption}
use Rattle.durable.specs.Entries.{Learned}
use Rattle.node.specs.Nodes.{Value, Node}
use Rattle.node.specs.Calls.{keep as keeping, IsUnkept, MayKeep}
use Rattle.node.specs.Effects.{quiet}
use Rattle.node.proofs.Stepping.{is_up, same_store, stays_there, whole, refused_stopped, wants_memory, put_alone, put_fails}
use Rattle.node.proofs.KnownValues.{is_none}
use Rattle.node.proofs.DeviceCounts.{counts_none, counts_memory, counts_ok, counts_done, counts_put}
use Rattle.node.proofs.node.Node.keep.Goals as goal

-- what a look at the record came to
abbrev Unkept : Node → ℕ → Option Value → Type 0
Unkept s i value = MatchOption value (¬ MayKeep s i) (λ v. IsUnkept s i v)

pub returns-then-is_stopped-clause-event : goal.returns-then-is_stopped-clause-event
returns-then-is_stopped-clause-event g c = refused_stopped g.D.Disk.stands_for c.args.self.now (keeping c.args.instance) [] tt (sym c.is_stopped.ensures ∙ c.if-is_stopped.true)

pub returns-in_err-value-clause-event : goal.returns-in_err-value-clause-event
returns-in_err-value-clause-event g c =
    let old = c.args.self.now in
    let runs = sym c.is_stopped.ensures ∙ c.if-is_stopped.false in
    wants_memory g.D.Disk.stands_for old _ (keeping c.args.instance) c.from_residual.result [] [] (record { me = refl; cluster = refl; releases = refl }) tt refl c.from_residual.ensures.1
    (λ s stands. (is_up old s stands.parts runs, c.in_err-value.ensures.wanted s stands)) (same_store old.store old.store refl) (λ s parts. parts)

-- there is nothing to keep
pub returns-in_default-clause-event : goal.returns-in_default-clause-event
returns-in_default-clause-event g c =
    let old = c.args.self.now in
    let i = c.args.instance in
    let runs = sym c.is_stopped.ensures ∙ c.if-is_stopped.false in
    whole g.D.Disk.stands_for old _ (keeping i) [] [] [] (record { me = refl; cluster = refl; releases = refl }) runs tt refl
    (λ s stands. record {
      effect = quiet s;
      does = inr (subst (Unkept s i) (is_none c.in_ok-value.field-0 c.in_default.not-Some) (c.in_ok-value.ensures.unkept s stands), refl);
      handed = refl;
      parts = stands.parts;
      stays = stays_there g.D.Disk.stands_for old _ s s (record { me = refl; cluster = refl; releases = refl }) (same_store old.store old.store refl) refl refl;
    })

pub put_learned-requires-clause-new : goal.put_learned-requires-clause-new
put_learned-requires-clause-new g c = rw c.in-Some.is at c.in_ok-value.ensures.new

pub put_learned-requires-clause-fits : goal.put_learned-requires-clause-fits
put_learned-requires-clause-fits g c = rw c.in-Some.is at c.in_ok-value.ensures.fits

pub returns-in_err-put_learned-clause-event : goal.returns-in_err-put_learned-clause-event
returns-in_err-put_learned-clause-event g c =
    let old = c.args.self.now in
    let i = c.args.instance in
    let v : Value = c.in-Some.value in
    let runs = sym c.is_stopped.ensures ∙ c.if-is_stopped.false in
    let told = c.from_residual-in_err-put_learned in
    put_fails g.D.Disk.stands_for g.D.Disk.failed old _ (Learned i v) (record { me = refl; cluster = refl; releases = refl }) runs (keeping i) c.in_err-put_learned.field-0.0 told.result [] [] tt
    (record { learner = refl; known = refl; queue = refl; attempts = λ a are. are; heard = refl }) refl refl c.in_err-put_learned.ensures told.ensures.1
    (λ s stands. (record { entry = Some (Learned i v); after = s; out = [] }, inl (record { value = v; unkept = subst (Unkept s i) c.in-Some.is (c.in_ok-value.ensures.unkept s stands); is = refl }), refl))
    (λ s stands. (is_up old s stands.parts runs, (v, subst (Unkept s i) c.in-Some.is (c.in_ok-value.ensures.unkept s stands))))

-- it goes on record
pub returns-clause-event : goal.returns-clause-event
returns-clause-event g c =
    let old = c.args.self.now in
    let i = c.args.instance in
    let v : Value = c.in-Some.value in
    let runs = sym c.is_stopped.ensures ∙ c.if-is_stopped.false in
    put_alone g.D.Disk.stands_for g.D.Disk.failed old _ (keeping i) (Learned i v) [] (record { me = refl; cluster = refl; releases = refl }) runs tt
    (record { learner = refl; known = refl; queue = refl; attempts = λ a are. are; heard = refl }) refl c.in_ok-put_learned.ensures
    (λ s stands. inl (record { value = v; unkept = subst (Unkept s i) c.in-Some.is (c.in_ok-value.ensures.unkept s stands); is = refl }))

pub returns-then-is_stopped-clause-counts : goal.returns-then-is_stopped-clause-counts
returns-then-is_stopped-clause-counts g c = counts_none _ _ _ (λ device. absurd (cc)) refl

pub returns-in_err-value-clause-counts : goal.returns-in_err-value-clause-counts
returns-in_err-value-clause-counts g c = counts_memory c.from_residual.result _ c.from_residual.ensures.1

pub returns-in_default-clause-counts : goal.returns-in_default-clause-counts
returns-in_default-clause-counts g c = counts_ok tt _ _ refl

pub returns-in_err-put_learned-clause-counts : goal.returns-in_err-put_learned-clause-counts
returns-in_err-put_learned-clause-counts g c =
    counts_put g.D.Disk.stands_for g.D.Disk.failed c.args.self.now.store _ _ _ c.from_residual-in_err-put_learned.result c.in_err-put_learned.ensures c.from_residual-in_err-put_learned.ensures.1

pub returns-clause-counts : goal.returns-clause-counts
returns-clause-counts g c = counts_done g.D.Disk.stands_for g.D.Disk.failed c.args.self.now.store _ _ tt c.in_ok-put_learned.ensures
