-- So servers in rounds know the same, and answer alike.
use Rattle.std.proofs.Common.{◌≡◌, ◌⊎◌, inl, inr, ⊎_elim, ℕ, Bool, true, false, cond, Some, None, List, []}
use Rattle.std.proofs.Common.{◌++◌, refl, ap}
use Rattle.std.proofs.Common.{subst}
use Rattle.std.specs.Prelude.{nat_eq}
use Rattle.site_ids.proofs.MemberLemmas.{in_split}
use Rattle.node.specs.Nodes.{Value, Up, Node, opened}
use Rattle.world.specs.declared.event.Event.{Event}
use Rattle.world.specs.declared.event.Event.TheVariants.{Submit}
use Rattle.world.specs.Agreement.{Later}
use Rattle.world.specs.Batches.{CallsAreEvents, SealedIsARun}
use Rattle.world.specs.Decided.{Publishes, IsSubmitted}
use Rattle.world.specs.Worlds.{World, start}
use Rattle.world.proofs.Agreed.{decides_submitted, knows_decided, knows_same}
use Rattle.world.proofs.Growing.{runs_on}
use Rattle.world.proofs.Published.{answers_alike}
use Rattle.rounds.specs.Rounds.{Group, AreRounds}
use Rattle.rounds.specs.Agreeing.{IsGroupOf, IsLedTo, RoundsKnowSame, RoundsKnowSubmitted}
use Rattle.rounds.specs.Agreeing.{RoundsAnswerAlike, StartIsLedTo}
use Rattle.rounds.proofs.Scheduling.{rounds_go}

module _ (are_events : CallsAreEvents) (sealed : SealedIsARun) where
  -- two worlds of one run, of which the groups are
  record AreOfOne (n : ℕ) (g h : Group) : Type 0 where
    first : World
    then : World
    later : Later n first then
    stands : IsGroupOf n first g
    ends : IsGroupOf n then h

  of_one : (n d e k j : ℕ) (events : List Event) (f g h : Group) → IsLedTo n events f → AreRounds n d k f g
      → AreRounds n e j g h → AreOfOne n g h
  of_one n d e k j events f g h led one two =
      let a = rounds_go are_events sealed n d k f g events led.world led.runs led.stands one in
      let runs = runs_on n events a.more start led.world a.after led.runs a.runs in
      let b = rounds_go are_events sealed n e j g h (events ++ a.more) a.after runs a.stands two in
      record {
        first = a.after;
        then = b.after;
        later = record { events = events ++ a.more; more = b.more; first = runs; second = b.runs };
        stands = a.stands;
        ends = b.stands;
      }

  pub rounds_know_same : RoundsKnowSame
  rounds_know_same n d e k j events f g h led one two p q i v x here there first then =
      let o = of_one n d e k j events f g h led one two in
      knows_same n o.first o.then (inl o.later) p q i v x
      (subst (λ (s : Node). s.known i ≡ Some v) (o.stands.nodes p here) first)
      (subst (λ (s : Node). s.known i ≡ Some x) (o.ends.nodes q there) then)

  pub rounds_answer_alike : RoundsAnswerAlike
  rounds_answer_alike n d e k j events f g h led one two p q r xs ys here there first then path =
      let o = of_one n d e k j events f g h led one two in
      answers_alike n o.first o.then (inl o.later) p q r xs ys
      (subst (λ (s : Node). Publishes s xs r) (o.stands.nodes p here) first)
      (subst (λ (s : Node). Publishes s ys r) (o.ends.nodes q there) then) path

  pub rounds_know_submitted : RoundsKnowSubmitted
  rounds_know_submitted n d k events g h led rounds p i v here known =
      let a = rounds_go are_events sealed n d k g h events led.world led.runs led.stands rounds in
      let runs = runs_on n events a.more start led.world a.after led.runs a.runs in
      let decided = knows_decided n (events ++ a.more) a.after runs p i v
      (subst (λ (s : Node). s.known i ≡ Some v) (a.stands.nodes p here) known) in
      ⊎_elim
      (λ (none : v ≡ []). inl none)
      (λ (x : IsSubmitted (events ++ a.more) v).
      ⊎_elim
      (λ before. inr (x.0, before))
      (λ later. absurd (a.plain (Submit x.0 v) later))
      (in_split events a.more (Submit x.0 v) x.1))
      (decides_submitted n (events ++ a.more) a.after runs i v decided)

-- ---- a group that begins

no_pending : (b : Bool) → ◌≡◌ {A = List Value} (cond b [] []) []
no_pending true = refl
no_pending false = refl

pub start_is_led_to : StartIsLedTo
start_is_led_to n p times = record {
  world = start;
  runs = refl;
  stands = record {
    nodes = λ q here. ap (λ l. record (opened Up [] None) { pending = l }) (no_pending (nat_eq q p));
    sent = λ q bytes m here k spells. absurd k;
  };
}
