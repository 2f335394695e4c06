use Rattle.std.proofs.Common.{subst, sym, refl, ap, ◌≡◌, ◌∙◌, ℕ, suc, Bool, true, false, Option, Some, None, IsTrue}
use Rattle.std.specs.Prelude.{◌||◌}
use Rattle.durable.specs.Entries.{IsPromise}
use Rattle.node.specs.Nodes.{Node}
use Rattle.server_pace.specs.Pacing.{called, noticed, pace_after, IsFresh, IsTelling, IsTriedBy, IsYielding}
use Rattle.server_pace.specs.Turns.{call_behind, goes_first}
use Rattle.server_pace.specs.declared.due.Due.{Due}
use Rattle.server_pace.specs.declared.pace.Pace.{Pace}
use Rattle.server_pace.proofs.pace.Pace.due.Goals as goal

-- it is what `call` answered, of what was noticed first; that the questions moved on between changes nothing
-- else
pub returns-clause-due : goal.returns-clause-due
returns-clause-due g c = λ s h.
    let old = c.args.self.now in
    let now = c.args.now in
    let seen = c.of-seen.result in
    let tries = c.first_tried_by-tries.result in
    let block = c.next_block-block.result in
    let noted = c.notice-due.result in
    let telling = c.next_telling-telling.result in
    let due : Due = record noted { telling = telling } in
    let is = c.notice-due.ensures.due in
    let mid : Pace = c.notice-due.new.self in
    let was : mid ≡ noticed old now seen tries noted = c.notice-due.ensures.noticed in
    let asked = c.next_telling-telling.new.self.questions in
    let after : c.call.new.self ≡ record (pace_after old now seen tries due c.call.result) { questions = asked } =
    c.call.ensures.after
    ∙ ap (λ (p : Pace). called p now seen.known due c.call.result) c.next_telling-telling.ensures.same
    ∙ ap (λ (p : Pace). called (record p { questions = asked }) now seen.known due c.call.result) was in
    let same : c.call.new.self.questions ≡ asked = ap (λ (p : Pace). p.questions) after in
    let told : IsTelling old c.args.node.now.cluster s now seen (old.told || goes_first due) telling asked =
    subst (λ (p : Pace). IsTelling p c.args.node.now.cluster s now seen (p.told || goes_first due) telling asked) was
    (subst (λ w. IsTelling mid c.args.node.now.cluster s now seen w telling asked) c.tells_nobody-waits.ensures (c.next_telling-telling.ensures.told s h)) in
    record {
      seen = seen;
      tries = tries;
      block = block;
      telling = telling;
      due = due;
      is_seen = c.of-seen.ensures s h;
      is_tried = c.first_tried_by-tries.ensures s h;
      is_block = c.next_block-block.ensures;
      is_told = subst (λ q. IsTelling old c.args.node.now.cluster s now seen (old.told || goes_first due) telling q) (sym same) told;
      is_due = record { fresh = is.fresh; kept = is.kept; told = refl; question = is.question; tick = is.tick; answered = is.answered; goes_on = is.goes_on; waits = is.waits; yields = is.yields };
      is_called = c.call.ensures.called;
      after = subst (λ q. c.call.new.self ≡ record (pace_after old now seen tries due c.call.result) { questions = q }) (sym same) after;
    }

-- what is promised to none, nobody tries
nobody : (s : Node) (i : ℕ) (tries : Option ℕ) → IsPromise s.entries i None → IsTriedBy s i tries → tries ≡ None
nobody s i None free tried = refl
nobody s i (Some q) free tried = absurd (free tried.1.1.0.0 tried.1.0 tried.1.1.0.1 tried.1.1.0.2)

not_true : (b : Bool) → ¬ (IsTrue b) → b ≡ false
not_true true h = absurd (h refl)
not_true false h = refl

-- a fresh value is tried where it does not yield
pub returns-clause-fresh : goal.returns-clause-fresh
returns-clause-fresh g c = λ s h wants untried turn since stirred.
    let seen = c.of-seen.ensures s h in
    let fresh : IsFresh c.args.self.now.ticking c.of-seen.result.wanted c.args.self.now.stirred = (seen.wanted.1 wants, since, stirred) in
    let i = suc c.of-seen.result.known in
    let free : IsPromise s.entries i None = subst (λ k. IsPromise s.entries (suc k) None) (sym seen.known.2) (untried seen.known.0 seen.known.1) in
    let none = nobody s i c.first_tried_by-tries.result free (c.first_tried_by-tries.ensures s h) in
    let its_own : ¬ IsYielding c.args.self.now c.args.now c.first_tried_by-tries.result = subst (λ t. ¬ IsYielding c.args.self.now c.args.now t) (sym none) turn in
    let is = c.notice-due.ensures.due in
    let yields = not_true c.notice-due.result.yields (λ t. its_own (is.yields.0 t)) in
    let at_once : c.notice-due.result.fresh ≡ true = is.fresh.1 (fresh, yields) in
    c.call.ensures.called ∙ ap (λ b. call_behind (record c.notice-due.result { telling = c.next_telling-telling.result; fresh = b })) at_once
