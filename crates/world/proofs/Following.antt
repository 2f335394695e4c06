-- A run, one step more.
use Rattle.std.proofs.Common.{◌≡◌, ◌≢◌, ◌⊎◌, inl, inr, ⊎_elim, ℕ, zero, suc, ◌+◌, ◌<◌, ◌≤◌, nat_lt, true, false, Result, Ok, Err, Some, List, [], ◌∷◌, ◌++◌, take, length, refl, sym, ap, subst, ◌∙◌, arith, append-nil, append_assoc}
use Rattle.std.specs.Prelude.{slice_get}
use Rattle.std.proofs.lemmas.Bool.Decides.{nat_tests}
use Rattle.site_ids.specs.Lists.{In}
use Rattle.site_ids.proofs.MemberLemmas.{in_push}
use Rattle.node.specs.Standing.{OnlyGrows}
use Rattle.world.specs.declared.event.Event.{Event}
use Rattle.world.specs.declared.event.Event.TheVariants.{Restart}
use Rattle.world.specs.declared.fault.WorldFault.{WorldFault}
use Rattle.world.specs.declared.fault.WorldFault.TheVariants.{OutOfMemory, BadEvent}
use Rattle.world.specs.declared.world.World.{World as Code}
use Rattle.world.specs.Worlds.{World, Runs, start}
use Rattle.world.specs.Taking.{node_of, Takes, TakesAll, IsBad, IsRefused, WantsMemory, MeetsBadEvent}
use Rattle.world.specs.Standing.{IsWorldOf, IsPublishedAt, IsUnpublishedAt}
use Rattle.world.specs.Machines.{Handed}
use Rattle.world.specs.Steps.{LeadsTo, StayPublished, KeepsPublished, ArePublished, PublishedAsFar, RunEnds, Reached, Reaches}
use Rattle.world.proofs.Moving.{either}
use Rattle.world.proofs.Growing.{runs_on}
use Rattle.world.proofs.Taken.{taken_is_a_schedule, wanting_is_a_schedule}

pub one_more : (k : ℕ) → suc k ≡ k + 1
one_more k = omega arith

pub below_of : (k n : ℕ) → true ≡ nat_lt k n → k < n
below_of k n is = grind (arith, nat_tests)

pub past_of : (k n : ℕ) → false ≡ nat_lt k n → n ≤ k
past_of k n is = grind (arith, nat_tests)

pub take_more : {X : Type 0} (xs : List X) (k : ℕ) (x : X) → slice_get xs k ≡ Some x → take (suc k) xs ≡ take k xs ++ x ∷ []
take_more [] k x got = cc
take_more (y ∷ ys) zero x got = cc
take_more (y ∷ ys) (suc k) x got = ap (λ l. y ∷ l) (take_more ys k x got)

pub take_whole : {X : Type 0} (xs : List X) (k : ℕ) → length xs ≤ k → take k xs ≡ xs
take_whole [] zero past = refl
take_whole [] (suc k) past = refl
take_whole (y ∷ ys) zero past = absurd (omega (arith, past))
take_whole (y ∷ ys) (suc k) past = ap (λ l. y ∷ l) (take_whole ys k (omega (arith, past)))

pub takes_on : (n : ℕ) (events more : List Event) (w mid after : World) → TakesAll n w events mid → TakesAll n mid more after → TakesAll n w (events ++ more) after
takes_on n [] more w mid after x y = subst (λ u. TakesAll n u more after) x y
takes_on n (e ∷ events) more w mid after x y = (x.0, x.1, takes_on n events more x.0 mid after x.2 y)

-- the first k events are taken, and their nodes have published, and each that had before
abbrev pub SoFar : Code → Code → List Event → ℕ → Type 0
SoFar old mid events k = LeadsTo old mid (λ w after. TakesAll old.cluster w (take k events) after × ArePublished mid after (take k events) × StayPublished old mid w after)

pub none_yet : (old : Code) (events : List Event) → SoFar old old events 0
none_yet old events = record { leads = λ w stands. record { after = w; how = (refl, λ e k. absurd k, λ q was. was); stands = stands } }

module _ (old mid new : Code) (events : List Event) (k : ℕ) (event : Event) (got : slice_get events k ≡ Some event) (below : k < length events) (same : mid.cluster ≡ old.cluster) (so_far : SoFar old mid events k) where
  abbrev Then : (World → World → Type 0) → Type 0
  Then How = LeadsTo mid new How

  taken_more : (w a b : World) → TakesAll old.cluster w (take k events) a → Takes mid.cluster a event b → TakesAll old.cluster w (take (suc k) events) b
  taken_more w a b x y =
      subst (λ l. TakesAll old.cluster w l b) (sym (take_more events k event got)) (takes_on old.cluster (take k events) (event ∷ []) w a b x (b, subst (λ (n : ℕ). Takes n a event b) same y, refl))

  within : (e : Event) → In (take (suc k) events) e → In (take k events) e ⊎ (event ≡ e)
  within e h = in_push (take k events) event e (subst (λ l. In l e) (take_more events k event got) h)

  pub follow_ok : Then (λ w after. Takes mid.cluster w event after × KeepsPublished mid new event w after × IsPublishedAt new after (node_of event)) → SoFar old new events (suc k)
  follow_ok step = record {
    leads = λ w stands.
        let a = so_far.leads w stands in
        let b = step.leads a.after a.stands in
        record {
          after = b.after;
          how = (
            taken_more w a.after b.after a.how.0 b.how.0,
            λ e h.
                ⊎_elim
                (λ (early : In (take k events) e).
                ⊎_elim
                (λ (is : node_of e ≡ node_of event). subst (λ (q : ℕ). IsPublishedAt new b.after q) (sym is) b.how.2)
                (λ (apart : node_of e ≢ node_of event). b.how.1 (node_of e) apart (a.how.1 e early))
                (either (node_of e) (node_of event)))
                (λ (is : event ≡ e). subst (λ (x : Event). IsPublishedAt new b.after (node_of x)) is b.how.2)
                (within e h),
            λ q was.
                ⊎_elim
                (λ (is : q ≡ node_of event). subst (λ (x : ℕ). IsPublishedAt new b.after x) (sym is) b.how.2)
                (λ (apart : q ≢ node_of event). b.how.1 q apart (a.how.2 q was))
                (either q (node_of event)),
          );
          stands = b.stands;
        };
  }

  pub follow_unpublished : Then (λ w after. Takes mid.cluster w event after × KeepsPublished mid new event w after × IsUnpublishedAt new after (node_of event))
      → LeadsTo old new (λ w after. (wants : WantsMemory old.cluster w events (suc k) after) × PublishedAsFar old.cluster events (suc k) wants.taken after new wants.ended)
  follow_unpublished step = record {
    leads = λ w stands.
        let a = so_far.leads w stands in
        let b = step.leads a.after a.stands in
        record {
          after = b.after;
          how = (
            record {
              counted = below;
              taken = b.after;
              takes = taken_more w a.after b.after a.how.0 b.how.0;
              ended = inr (node_of event, (k, event, refl, got, refl), b.how.2.up, refl);
            },
            (
              b.how.2,
              λ e h.
                  ⊎_elim
                  (λ (early : In (take k events) e).
                  ⊎_elim
                  (λ (is : node_of e ≡ node_of event). inl (k, event, refl, got, sym is))
                  (λ (apart : node_of e ≢ node_of event). inr (b.how.1 (node_of e) apart (a.how.1 e early)))
                  (either (node_of e) (node_of event)))
                  (λ (is : event ≡ e). inl (k, event, refl, got, ap node_of is))
                  (within e h),
            ),
          );
          stands = b.stands;
        };
  }

  pub follow_wanted : Then (λ w after. IsRefused mid.cluster w event after × StayPublished mid new w after)
      → LeadsTo old new (λ w after. (wants : WantsMemory old.cluster w events k after) × PublishedAsFar old.cluster events k wants.taken after new wants.ended)
  follow_wanted step = record {
    leads = λ w stands.
        let a = so_far.leads w stands in
        let b = step.leads a.after a.stands in
        record {
          after = b.after;
          how = (
            record { counted = omega (arith, below); taken = a.after; takes = a.how.0; ended = inl (event, got, subst (λ (n : ℕ). IsRefused n a.after event b.after) same b.how.0) },
            λ e h. b.how.1 (node_of e) (a.how.1 e h),
          );
          stands = b.stands;
        };
  }

  pub follow_bad : Then (λ w after. (IsBad mid.cluster w event × (after ≡ w)) × StayPublished mid new w after)
      → LeadsTo old new (λ w after. MeetsBadEvent old.cluster w events k after × ArePublished new after (take k events) × StayPublished old new w after)
  follow_bad step = record {
    leads = λ w stands.
        let a = so_far.leads w stands in
        let b = step.leads a.after a.stands in
        record {
          after = b.after;
          how = (
            record {
              event = event;
              takes = subst (λ u. TakesAll old.cluster w (take k events) u) (sym b.how.0.1) a.how.0;
              next = got;
              bad = subst (λ (u : World). IsBad old.cluster u event) (sym b.how.0.1) (subst (λ (n : ℕ). IsBad n a.after event) same b.how.0.0);
            },
            λ e h. b.how.1 (node_of e) (a.how.1 e h),
            λ q was. b.how.1 q (a.how.2 q was),
          );
          stands = b.stands;
        };
  }

-- all events are taken
pub all_followed : (old mid : Code) (events : List Event) (k : ℕ) → length events ≤ k → SoFar old mid events k → LeadsTo old mid (λ w after. TakesAll old.cluster w events after × ArePublished mid after events × StayPublished old mid w after)
all_followed old mid events k past so_far = subst (λ (l : List Event). LeadsTo old mid (λ w after. TakesAll old.cluster w l after × ArePublished mid after l × StayPublished old mid w after)) (take_whole events k past) so_far

-- ---- the messages

pub grows_none : (a : Handed) → OnlyGrows a a
grows_none a = ([], sym (append-nil a))

pub grows_on : (a b c : Handed) → OnlyGrows a b → OnlyGrows b c → OnlyGrows a c
grows_on a b c x y = (x.0 ++ y.0, y.1 ∙ ap (λ (l : Handed). l ++ y.0) x.1 ∙ append_assoc a x.0 y.0)

-- ---- since the start

reached_by : (old new : Code) (earlier more : List Event) (w after : World) → new.cluster ≡ old.cluster → Runs old.cluster start earlier w → Runs old.cluster w more after → IsWorldOf new after → Reached new (earlier ++ more)
reached_by old new earlier more w after same first second stands = record {
  world = after;
  runs = subst (λ (n : ℕ). Runs n start (earlier ++ more) after) (sym same) (runs_on old.cluster earlier more start w after first second);
  stands = stands;
}

pub reaches : (old new : Code) (events : List Event) (result : Result (Unit {0}) WorldFault) → new.cluster ≡ old.cluster → RunEnds old new events result → (earlier : List Event) → Reached old earlier → Reaches new earlier events result
reaches old new events (Ok x) same ends earlier reached =
    let led = ends.leads reached.world reached.stands in
    reached_by old new earlier events reached.world led.after same reached.runs (taken_is_a_schedule old.cluster reached.world led.after events led.how.0) led.stands
reaches old new events (Err (OutOfMemory k)) same ends earlier reached =
    let led = ends.leads reached.world reached.stands in
    ⊎_elim
    (λ (runs : Runs old.cluster reached.world (take k events) led.after). inl (reached_by old new earlier (take k events) reached.world led.after same reached.runs runs led.stands))
    (λ (x : (p : ℕ) × (slice_get events k ≡ Some (Restart p)) × Runs old.cluster reached.world (take k events ++ Restart p ∷ []) led.after).
    inr (x.0, x.1, reached_by old new earlier (take k events ++ Restart x.0 ∷ []) reached.world led.after same reached.runs x.2 led.stands))
    (wanting_is_a_schedule old.cluster k reached.world led.after events led.how.0)
reaches old new events (Err (BadEvent k)) same ends earlier reached =
    let led = ends.leads reached.world reached.stands in
    reached_by old new earlier (take k events) reached.world led.after same reached.runs (taken_is_a_schedule old.cluster reached.world led.after (take k events) led.how.0.takes) led.stands
