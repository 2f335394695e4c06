use Rattle.std.proofs.Common.{ℕ, ◌+◌, Ok, Err, arith, refl, subst, ◌∙◌}
use Rattle.world.specs.declared.fault.WorldFault.TheVariants.{OutOfMemory, BadEvent}
use Rattle.world.specs.declared.run_stop.RunStop.{RunStop}
use Rattle.world.specs.Steps.{StepEnds, RunEnds}
use Rattle.world.proofs.Moving.{got_at}
use Rattle.world.proofs.Answering.{run_follows}
use Rattle.world.proofs.Following.{SoFar, one_more, below_of, past_of, none_yet, follow_ok, follow_wanted, follow_unpublished, follow_bad, all_followed, grows_none, grows_on, reaches}
use Rattle.world.proofs.world.World.run.Goals as goal

pub loop-event-init : goal.loop-event-init
loop-event-init c = record { whose = refl; ends = none_yet c.args.self.now c.args.events.now; grows = grows_none c.args.self.now.sent.items }

pub loop-event-smaller : goal.loop-event-smaller
loop-event-smaller c = let below = below_of _ _ c.in-Some.ensures.lookup.0 in omega (arith, below)

pub loop-event-preserved : goal.loop-event-preserved
loop-event-preserved c =
    let k = c.loop-event.taken in
    let events = c.args.events.now in
    let below = below_of _ _ c.in-Some.ensures.lookup.0 in
    record {
      whose = c.step.ensures.whose ∙ c.loop-event.invariant.whose;
      ends = subst (λ (j : ℕ). SoFar c.args.self.now c.step.new.self events j) (one_more k) (follow_ok c.args.self.now c.loop-event.self c.step.new.self events k c.in-Some.event.now (got_at events k c.in-Some.event.now below c.in-Some.ensures.lookup.1) below c.loop-event.invariant.whose c.loop-event.invariant.ends c.in-Ok.ensures.ends);
      grows = grows_on _ _ _ c.loop-event.invariant.grows c.step.ensures.grows;
    }

pub returns-in-Err-Wanted-clause-ends : goal.returns-in-Err-Wanted-clause-ends
returns-in-Err-Wanted-clause-ends c =
    let k = c.loop-event.taken in
    let events = c.args.events.now in
    let below = below_of _ _ c.in-Some.ensures.lookup.0 in
    follow_wanted c.args.self.now c.loop-event.self c.step.new.self events k c.in-Some.event.now (got_at events k c.in-Some.event.now below c.in-Some.ensures.lookup.1) below c.loop-event.invariant.whose c.loop-event.invariant.ends (subst (λ (h : RunStop). StepEnds c.loop-event.self c.step.new.self c.in-Some.event.now (Err h)) c.in-Err-Wanted.field-0-is c.in-Err-Wanted.ensures.ends)

pub returns-in-Err-Wanted-clause-reached : goal.returns-in-Err-Wanted-clause-reached
returns-in-Err-Wanted-clause-reached c =
    reaches c.args.self.now c.step.new.self c.args.events.now (Err (OutOfMemory c.loop-event.taken)) (c.step.ensures.whose ∙ c.loop-event.invariant.whose) (returns-in-Err-Wanted-clause-ends c)

pub returns-in-Err-Wanted-clause-whose : goal.returns-in-Err-Wanted-clause-whose
returns-in-Err-Wanted-clause-whose c = c.step.ensures.whose ∙ c.loop-event.invariant.whose

pub returns-in-Err-Unpublished-clause-ends : goal.returns-in-Err-Unpublished-clause-ends
returns-in-Err-Unpublished-clause-ends c =
    let k = c.loop-event.taken in
    let events = c.args.events.now in
    let below = below_of _ _ c.in-Some.ensures.lookup.0 in
    subst (λ (j : ℕ). RunEnds c.args.self.now c.step.new.self events (Err (OutOfMemory j))) (one_more k) (follow_unpublished c.args.self.now c.loop-event.self c.step.new.self events k c.in-Some.event.now (got_at events k c.in-Some.event.now below c.in-Some.ensures.lookup.1) below c.loop-event.invariant.whose c.loop-event.invariant.ends (subst (λ (h : RunStop). StepEnds c.loop-event.self c.step.new.self c.in-Some.event.now (Err h)) c.in-Err-Unpublished.field-0-is c.in-Err-Unpublished.ensures.ends))

pub returns-in-Err-Unpublished-clause-reached : goal.returns-in-Err-Unpublished-clause-reached
returns-in-Err-Unpublished-clause-reached c =
    reaches c.args.self.now c.step.new.self c.args.events.now (Err (OutOfMemory (c.loop-event.taken + 1))) (c.step.ensures.whose ∙ c.loop-event.invariant.whose) (returns-in-Err-Unpublished-clause-ends c)

pub returns-in-Err-Unpublished-clause-whose : goal.returns-in-Err-Unpublished-clause-whose
returns-in-Err-Unpublished-clause-whose c = c.step.ensures.whose ∙ c.loop-event.invariant.whose

pub returns-in-Err-Bad-clause-ends : goal.returns-in-Err-Bad-clause-ends
returns-in-Err-Bad-clause-ends c =
    let k = c.loop-event.taken in
    let events = c.args.events.now in
    let below = below_of _ _ c.in-Some.ensures.lookup.0 in
    follow_bad c.args.self.now c.loop-event.self c.step.new.self events k c.in-Some.event.now (got_at events k c.in-Some.event.now below c.in-Some.ensures.lookup.1) below c.loop-event.invariant.whose c.loop-event.invariant.ends (subst (λ (h : RunStop). StepEnds c.loop-event.self c.step.new.self c.in-Some.event.now (Err h)) c.in-Err-Bad.field-0-is c.in-Err-Bad.ensures.ends)

pub returns-in-Err-Bad-clause-reached : goal.returns-in-Err-Bad-clause-reached
returns-in-Err-Bad-clause-reached c =
    reaches c.args.self.now c.step.new.self c.args.events.now (Err (BadEvent c.loop-event.taken)) (c.step.ensures.whose ∙ c.loop-event.invariant.whose) (returns-in-Err-Bad-clause-ends c)

pub returns-in-Err-Bad-clause-whose : goal.returns-in-Err-Bad-clause-whose
returns-in-Err-Bad-clause-whose c = c.step.ensures.whose ∙ c.loop-event.invariant.whose

pub returns-clause-ends : goal.returns-clause-ends
returns-clause-ends c = all_followed c.args.self.now c.loop-event.self c.args.events.now c.loop-event.taken (past_of _ _ c.in_default.ensures.lookup.0) c.loop-event.invariant.ends

pub returns-clause-reached : goal.returns-clause-reached
returns-clause-reached c = reaches c.args.self.now c.loop-event.self c.args.events.now (Ok tt) c.loop-event.invariant.whose (returns-clause-ends c)

pub returns-clause-whose : goal.returns-clause-whose
returns-clause-whose c = c.loop-event.invariant.whose

pub returns-in-Err-Wanted-clause-grows : goal.returns-in-Err-Wanted-clause-grows
returns-in-Err-Wanted-clause-grows c = grows_on _ _ _ c.loop-event.invariant.grows c.step.ensures.grows

pub returns-in-Err-Unpublished-clause-grows : goal.returns-in-Err-Unpublished-clause-grows
returns-in-Err-Unpublished-clause-grows c = grows_on _ _ _ c.loop-event.invariant.grows c.step.ensures.grows

pub returns-in-Err-Bad-clause-grows : goal.returns-in-Err-Bad-clause-grows
returns-in-Err-Bad-clause-grows c = grows_on _ _ _ c.loop-event.invariant.grows c.step.ensures.grows

pub returns-in-Err-Wanted-clause-follows : goal.returns-in-Err-Wanted-clause-follows
returns-in-Err-Wanted-clause-follows c = run_follows c.args.self.now c.step.new.self c.args.events.now (Err (OutOfMemory c.loop-event.taken)) (returns-in-Err-Wanted-clause-whose c) (returns-in-Err-Wanted-clause-ends c)

pub returns-in-Err-Unpublished-clause-follows : goal.returns-in-Err-Unpublished-clause-follows
returns-in-Err-Unpublished-clause-follows c = run_follows c.args.self.now c.step.new.self c.args.events.now (Err (OutOfMemory (c.loop-event.taken + 1))) (returns-in-Err-Unpublished-clause-whose c) (returns-in-Err-Unpublished-clause-ends c)

pub returns-in-Err-Bad-clause-follows : goal.returns-in-Err-Bad-clause-follows
returns-in-Err-Bad-clause-follows c = run_follows c.args.self.now c.step.new.self c.args.events.now (Err (BadEvent c.loop-event.taken)) (returns-in-Err-Bad-clause-whose c) (returns-in-Err-Bad-clause-ends c)

pub returns-clause-follows : goal.returns-clause-follows
returns-clause-follows c = run_follows c.args.self.now c.loop-event.self c.args.events.now (Ok tt) (returns-clause-whose c) (returns-clause-ends c)
