-- What a world answers at two moments.
use Rattle.std.proofs.Common.{◌≡◌, ⊎_elim, ℕ, Result, Ok, Err, Some, List, [], ◌∷◌, ◌++◌, take, refl, sym, subst, ◌∙◌}
use Rattle.std.specs.Prelude.{slice_get}
use Rattle.command.specs.Effective.{effective}
use Rattle.release.specs.Page.{Page}
use Rattle.world.specs.declared.event.Event.{Event}
use Rattle.world.specs.declared.event.Event.TheVariants.{Restart}
use Rattle.world.specs.declared.fault.WorldFault.{WorldFault}
use Rattle.world.specs.declared.fault.WorldFault.TheVariants.{OutOfMemory, BadEvent}
use Rattle.world.specs.declared.world.World.{World as Code}
use Rattle.world.specs.Worlds.{Runs}
use Rattle.world.specs.Agreement.{Later}
use Rattle.world.specs.Decided.{AreDecided}
use Rattle.world.specs.Steps.{RunEnds, Follows}
use Rattle.world.specs.Answering.{FollowsItself, FollowsOn, AnswersAreOne}
use Rattle.world.proofs.Growing.{runs_on}
use Rattle.world.proofs.Taken.{taken_is_a_schedule, wanting_is_a_schedule}
use Rattle.world.proofs.Agreed.{decided_grows}
use Rattle.world.proofs.Published.{page_stays}
use Rattle.world.proofs.Asked.{has_release}

pub follows_itself : FollowsItself
follows_itself code = record { cluster = refl; leads = λ w stands. ([], w, refl, stands) }

pub follows_on : FollowsOn
follows_on old mid new first second = record {
  cluster = second.cluster ∙ first.cluster;
  leads = λ w stands.
      let a = first.leads w stands in
      let b = second.leads a.1 a.3 in
      (a.0 ++ b.0, b.1, runs_on old.cluster a.0 b.0 w a.1 b.1 a.2 (subst (λ (n : ℕ). Runs n a.1 b.0 b.1) first.cluster b.2), b.3);
}

-- a run goes on by the events that were taken, and a refused opening after them
pub run_follows : (old new : Code) (events : List Event) (result : Result (Unit {0}) WorldFault) → new.cluster ≡ old.cluster → RunEnds old new events result → Follows old new
run_follows old new events (Ok x) same ends = record {
  cluster = same;
  leads = λ w stands. let led = ends.leads w stands in (events, led.after, taken_is_a_schedule old.cluster w led.after events led.how.0, led.stands);
}
run_follows old new events (Err (OutOfMemory k)) same ends = record {
  cluster = same;
  leads = λ w stands.
      let led = ends.leads w stands in
      ⊎_elim
      (λ (runs : Runs old.cluster w (take k events) led.after). (take k events, led.after, runs, led.stands))
      (λ (x : (p : ℕ) × (slice_get events k ≡ Some (Restart p)) × Runs old.cluster w (take k events ++ Restart p ∷ []) led.after). (take k events ++ Restart x.0 ∷ [], led.after, x.2, led.stands))
      (wanting_is_a_schedule old.cluster k w led.after events led.how.0);
}
run_follows old new events (Err (BadEvent k)) same ends = record {
  cluster = same;
  leads = λ w stands. let led = ends.leads w stands in (take k events, led.after, taken_is_a_schedule old.cluster w led.after (take k events) led.how.0.takes, led.stands);
}

same_page : (page other : Page) → Some page ≡ Some other → page ≡ other
same_page page other is = cc

pub answers_are_one : AnswersAreOne
answers_are_one old new events reached follows earlier later n path page other first second =
    let w = reached.world in
    let on = follows.leads w reached.stands in
    let two : Later old.cluster w on.1 = record { events = events; more = on.0; first = reached.runs; second = on.2 } in
    let now : AreDecided old.cluster w.sent first.values = subst (λ l. AreDecided old.cluster l first.values) (sym reached.stands.sent) first.decided in
    let then_on : AreDecided old.cluster on.1.sent second.values =
    subst (λ (k : ℕ). AreDecided k on.1.sent second.values) follows.cluster (subst (λ l. AreDecided new.cluster l second.values) (sym on.3.sent) second.decided) in
    let begins = decided_grows old.cluster w on.1 two first.values second.values now then_on in
    let has = has_release (effective first.values) n path page first.answers in
    same_page page other (sym first.answers ∙ page_stays first.values second.values n path begins has.1 ∙ second.answers)
