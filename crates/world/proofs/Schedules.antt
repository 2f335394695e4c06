-- The worked schedules are taken, and lead where they should: computed.
use Rattle.std.proofs.Common.{◌≡◌, inl, ℕ, zero, suc, ◌≤◌, Some, None, Ok, List, [], ◌∷◌, refl, sym, subst, ◌∙◌, Option, ⊎_elim, arith, codes}
use Rattle.std.specs.Prelude.{slice_get}
use Rattle.std.specs.Str.{is_utf8, chars}
use lib.Utf8.{encode}
use Rattle.site_ids.specs.Ids.{BallotOf}
use Rattle.site_ids.specs.Lists.{In}
use Rattle.site_ids.proofs.MemberLemmas.{in_get}
use Rattle.wire.specs.declared.message.Message.{Message}
use Rattle.wire.specs.declared.message.Message.TheVariants.{Accepted, Promise, Nack}
use Rattle.command.specs.Action.{Order, release}
use Rattle.command.specs.Effective.{effective}
use Rattle.command.specs.Reading.{value_reading}
use Rattle.command.specs.Releases.{release_count}
use Rattle.command.specs.Written.{value_of}
use Rattle.durable.specs.Entries.{Promised, PromisedSpan, Voted}
use Rattle.node.specs.declared.to.To.TheVariants.{One}
use Rattle.node.specs.Nodes.{Value, Up}
use Rattle.world.specs.declared.event.Event.{Event}
use Rattle.world.specs.declared.event.Event.TheVariants.{Submit, Tick, Ask, Deliver, Arm, Crash, Restart}
use Rattle.world.specs.Decided.{Decides, Publishes}
use Rattle.world.specs.Worked.{at, duel, DuelIsTaken, VoteIsKept, VoteIsLost, gap, gap_closes, GapIsWaitedFor, OpeningsAreTaken, last_of_three, LastOfThreeIsKnown, crash_of_three, CrashOfThreeIsTaken, higher_span, HigherSpanIsTaken}
use Rattle.world.specs.Agreement.{SomeSchedulePublishes}
use Rattle.world.proofs.Taken.{taken_is_a_schedule}
use Rattle.world.proofs.Told.{IsSo, the_told, majority}
use Rattle.world.proofs.Tables.{NodeBy, opened_by, world_by, started}
use Rattle.world.proofs.DoingVotes.{on_prepare}
use Rattle.world.proofs.Computing.{Step, as_is, failing, keeping, all_as_is, events_of, run, the, Ran}

-- ---- values

abbrev a_release : ℕ → Value
a_release editor = value_of (record { editor = editor; number = 1 }) (codes "release\n")

abbrev a_route : ℕ → Value
a_route editor = value_of (record { editor = editor; number = 1 }) (codes "put route / t d\n")

-- ---- a release decided and published

-- node 2's device fails as it votes, and a crash leaves the vote
abbrev to_publish : List Step
to_publish =
    as_is (Submit 1 (a_release 1)) ∷ as_is (Tick 1) ∷ as_is (Deliver 1 0) ∷ as_is (Deliver 2 0) ∷ as_is (Deliver 1 1) ∷ as_is (Deliver 1 2) ∷ as_is (Deliver 1 3) ∷ failing (Deliver 2 3)
    ∷ keeping (Crash 2 1) ∷ as_is (Restart 2) ∷ as_is (Deliver 2 3) ∷ as_is (Deliver 3 4) ∷ as_is (Deliver 3 5) ∷ []

ran_to_publish : Ran 3 started to_publish
unfolding is_utf8 chars encode
ran_to_publish = the (run 3 started to_publish) tt

abbrev its_order : Order
its_order = record { ticket = record { editor = 1; number = 1 }; action = release }

reads_so : value_reading (a_release 1) ≡ Ok its_order
unfolding is_utf8 chars encode
reads_so = refl

one_of_one : release_count (effective (a_release 1 ∷ [])) ≡ 1
unfolding is_utf8 chars encode
one_of_one = refl

no_other : (v : Value) → ◌≡◌ {A = Option Value} None (Some v) → ⊥
no_other v e = cc

knows_release : (k : ℕ) (x : Value) → slice_get (a_release 1 ∷ []) k ≡ Some x → ((world_by ran_to_publish.0).node 3).known (suc k) ≡ Some x
unfolding ran_to_publish is_utf8 chars encode
knows_release zero x is = is
knows_release (suc k) x is = absurd (no_other x is)

-- two messages report the votes of two nodes, which are a majority
decided_by : (n : ℕ) (sent : List Message) (b : BallotOf) (v : Value) (j k p q : ℕ) → slice_get sent j ≡ Some (Accepted p 1 b v) → slice_get sent k ≡ Some (Accepted q 1 b v) → IsSo (majority n (p ∷ q ∷ []))
    → Decides n sent 1 v
decided_by n sent b v j k p q one two many = record {
  ballot = b;
  voters = p ∷ q ∷ [];
  majority = the_told (majority n (p ∷ q ∷ [])) many;
  voted = λ x h. ⊎_elim
      (λ (e : p ≡ x). subst (λ y. In sent (Accepted y 1 b v)) e (in_get sent j (Accepted p 1 b v) one))
      (λ h. ⊎_elim (λ (e : q ≡ x). subst (λ y. In sent (Accepted y 1 b v)) e (in_get sent k (Accepted q 1 b v) two)) (λ z. absurd z) h)
      h;
}

pub some_schedule_publishes : SomeSchedulePublishes
unfolding ran_to_publish is_utf8 chars encode
some_schedule_publishes = record {
  value = a_release 1;
  order = its_order;
  events = events_of to_publish;
  w = world_by ran_to_publish.0;
  is_release = reads_so;
  releases = refl;
  submitted = (1, inl refl);
  crashes = (2, 1, in_get (events_of to_publish) 8 (Crash 2 1) refl);
  runs = taken_is_a_schedule 3 (world_by started) (world_by ran_to_publish.0) (events_of to_publish) ran_to_publish.1;
  takes = ran_to_publish.1;
  decides = decided_by 3 ran_to_publish.0.sent (at 1 1) (a_release 1) 4 5 1 2 refl refl tt;
  publishes = record { begins = knows_release; some = omega arith; has = omega (arith, one_of_one) };
}

-- ---- a duel

abbrev in_duel : List Step
in_duel = all_as_is (duel (a_release 1) (a_release 2))

ran_duel : Ran 3 started in_duel
unfolding is_utf8 chars encode
ran_duel = the (run 3 started in_duel) tt

pub duel_is_taken : DuelIsTaken
unfolding ran_duel is_utf8 chars encode
duel_is_taken = record {
  a = a_release 1;
  b = a_release 2;
  apart = λ e. (cc);
  w = world_by ran_duel.0;
  takes = ran_duel.1;
  said = refl;
  decided = decided_by 3 ran_duel.0.sent (at 1 2) (a_release 2) 11 12 2 3 refl refl tt;
  known_by_1 = refl;
  known_by_2 = refl;
  waits = refl;
}

-- ---- a vote lost, or not

-- the device fails as node 2 votes, and the crash leaves the vote or takes it
abbrev in_flight : Value → ℕ → (Event → Step) → List Step
in_flight a choice crashing =
    as_is (Submit 1 a) ∷ as_is (Tick 1) ∷ as_is (Deliver 1 0) ∷ as_is (Deliver 2 0) ∷ as_is (Deliver 1 1) ∷ as_is (Deliver 1 2) ∷ as_is (Arm 2 3) ∷ failing (Deliver 2 3) ∷ crashing (Crash 2 choice)
    ∷ as_is (Restart 2) ∷ as_is (Tick 3) ∷ as_is (Deliver 2 4) ∷ as_is (Deliver 3 4) ∷ as_is (Deliver 3 5) ∷ as_is (Deliver 3 6) ∷ []

ran_kept : Ran 3 started (in_flight (a_release 1) 1 keeping)
unfolding is_utf8 chars encode
ran_kept = the (run 3 started (in_flight (a_release 1) 1 keeping)) tt

pub vote_is_kept : VoteIsKept
unfolding ran_kept is_utf8 chars encode
vote_is_kept = record { a = a_release 1; some = λ e. (cc); w = world_by ran_kept.0; takes = ran_kept.1; said = refl }

ran_lost : Ran 3 started (in_flight (a_release 1) 7 as_is)
unfolding is_utf8 chars encode
ran_lost = the (run 3 started (in_flight (a_release 1) 7 as_is)) tt

pub vote_is_lost : VoteIsLost
unfolding ran_lost is_utf8 chars encode
vote_is_lost = record { a = a_release 1; some = λ e. (cc); w = world_by ran_lost.0; takes = ran_lost.1; said = refl }

-- ---- a release over a gap

abbrev in_gap : List Step
in_gap = all_as_is (gap (a_route 1) (a_route 2) (a_release 3))

ran_gap : Ran 3 started in_gap
unfolding is_utf8 chars encode
ran_gap = the (run 3 started in_gap) tt

gap_closed : Ran 3 ran_gap.0 (all_as_is gap_closes)
unfolding ran_gap is_utf8 chars encode
gap_closed = the (run 3 ran_gap.0 (all_as_is gap_closes)) tt

none_of_one : release_count (effective (a_route 1 ∷ [])) ≡ 0
unfolding is_utf8 chars encode
none_of_one = refl

none_of_none : release_count (effective []) ≡ 0
none_of_none = refl

one_of_three : release_count (effective (a_route 1 ∷ a_route 2 ∷ a_release 3 ∷ [])) ≡ 1
unfolding is_utf8 chars encode
one_of_three = refl

knows_first : ((world_by ran_gap.0).node 3).known 1 ≡ Some (a_route 1)
unfolding ran_gap is_utf8 chars encode
knows_first = refl

knows_no_second : ((world_by ran_gap.0).node 3).known 2 ≡ None
unfolding ran_gap is_utf8 chars encode
knows_no_second = refl

not_yet : (fed : List Value) (r : ℕ) → ¬ Publishes ((world_by ran_gap.0).node 3) fed r
not_yet [] r h = let some : 1 ≤ r = h.some in let few : r ≤ release_count (effective []) = h.has in omega (arith, some, few, none_of_none)
not_yet (x ∷ []) r h =
    let same : x ≡ a_route 1 = inside (a_route 1) x (sym knows_first ∙ h.begins 0 x refl) in
    let some : 1 ≤ r = h.some in
    let few : r ≤ release_count (effective (a_route 1 ∷ [])) = subst (λ (y : Value). r ≤ release_count (effective (y ∷ []))) same h.has in
    omega (arith, some, few, none_of_one)
  where
    inside : (u v : Value) → Some u ≡ Some v → v ≡ u
    inside u v e = cc
not_yet (x ∷ y ∷ fed) r h = no_other y (sym knows_no_second ∙ h.begins 1 y refl)

knows_all : (k : ℕ) (x : Value) → slice_get (a_route 1 ∷ a_route 2 ∷ a_release 3 ∷ []) k ≡ Some x → ((world_by gap_closed.0).node 3).known (suc k) ≡ Some x
unfolding ran_gap gap_closed is_utf8 chars encode
knows_all zero x is = is
knows_all (suc zero) x is = is
knows_all (suc (suc zero)) x is = is
knows_all (suc (suc (suc k))) x is = absurd (no_other x is)

pub gap_is_waited_for : GapIsWaitedFor
unfolding ran_gap is_utf8 chars encode
gap_is_waited_for = record {
  a = a_route 1;
  b = a_route 2;
  c = a_release 3;
  w = world_by ran_gap.0;
  takes = ran_gap.1;
  first = knows_first;
  third = refl;
  unpublished = not_yet;
  later = world_by gap_closed.0;
  closes = gap_closed.1;
  published = record { begins = knows_all; some = omega arith; has = omega (arith, one_of_three) };
}

-- ---- openings

abbrev in_openings : Value → List Step
in_openings a =
    as_is (Submit 1 a) ∷ as_is (Tick 1) ∷ as_is (Deliver 1 0) ∷ as_is (Deliver 2 0) ∷ as_is (Deliver 1 1) ∷ as_is (Deliver 1 2) ∷ as_is (Deliver 1 3) ∷ as_is (Restart 1) ∷ as_is (Tick 3)
    ∷ as_is (Deliver 1 5) ∷ as_is (Deliver 3 5) ∷ as_is (Deliver 3 3) ∷ as_is (Deliver 1 8) ∷ as_is (Deliver 3 6) ∷ as_is (Deliver 3 7) ∷ as_is (Arm 2 0) ∷ failing (Deliver 2 9)
    ∷ keeping (Restart 2) ∷ as_is (Deliver 2 9) ∷ as_is (Deliver 3 9) ∷ as_is (Deliver 3 10) ∷ as_is (Deliver 3 11) ∷ as_is (Ask 1) ∷ as_is (Deliver 3 12) ∷ as_is (Deliver 1 13) ∷ []

ran_openings : Ran 3 started (in_openings (a_release 1))
unfolding is_utf8 chars encode
ran_openings = the (run 3 started (in_openings (a_release 1))) tt

pub openings_are_taken : OpeningsAreTaken
unfolding ran_openings is_utf8 chars encode
openings_are_taken = record { a = a_release 1; some = λ e. (cc); w = world_by ran_openings.0; takes = ran_openings.1; said = refl; heard = refl; known = refl }

-- ---- three attempts at once

abbrev in_last : List Step
in_last = all_as_is (last_of_three (a_release 1) (a_release 2) (a_release 3))

ran_last : Ran 3 started in_last
unfolding is_utf8 chars encode
ran_last = the (run 3 started in_last) tt

pub last_of_three_is_known : LastOfThreeIsKnown
unfolding ran_last is_utf8 chars encode
last_of_three_is_known = record { a = a_release 1; b = a_release 2; c = a_release 3; w = world_by ran_last.0; takes = ran_last.1; said = refl; third = refl; second = refl }

abbrev in_crash : List Step
in_crash = all_as_is (crash_of_three (a_release 1) (a_release 2) (a_release 3) (a_release 4) (a_release 5))

ran_crash : Ran 3 started in_crash
unfolding is_utf8 chars encode
ran_crash = the (run 3 started in_crash) tt

pub crash_of_three_is_taken : CrashOfThreeIsTaken
unfolding ran_crash is_utf8 chars encode
crash_of_three_is_taken = record {
  a = a_release 1;
  b = a_release 2;
  c = a_release 3;
  d = a_release 4;
  e = a_release 5;
  apart = λ e. (cc);
  w = world_by ran_crash.0;
  takes = ran_crash.1;
  said = refl;
}

-- ---- a higher span

abbrev in_higher : List Step
in_higher = all_as_is (higher_span (a_release 1) (a_release 2) (a_release 3) (a_release 4) (a_release 5))

ran_higher : Ran 3 started in_higher
unfolding is_utf8 chars encode
ran_higher = the (run 3 started in_higher) tt

pub higher_span_is_taken : HigherSpanIsTaken
unfolding ran_higher is_utf8 chars encode
higher_span_is_taken = record {
  a = a_release 1;
  b = a_release 2;
  c = a_release 3;
  d = a_release 4;
  e = a_release 5;
  w = world_by ran_higher.0;
  takes = ran_higher.1;
  said = refl;
  recorded = refl;
}

-- ---- a span over slots of three kinds

-- instance 5 promised (1, 1), instance 6 promised (3, 2), instance 7 promised (2, 1) and voted there
abbrev before : NodeBy
before = record (opened_by Up [] None) { entries = Promised 5 (at 1 1) ∷ Promised 6 (at 3 2) ∷ Promised 7 (at 2 1) ∷ Voted 7 (at 2 1) [] ∷ [] }

-- one entry of the whole span, a promise at 5, a refusal at 6, and nothing at 7
one_entry : (on_prepare 2 before 5 (at 2 1) 3).entry ≡ Some (PromisedSpan 5 3 (at 2 1))
one_entry = refl

two_answers : (on_prepare 2 before 5 (at 2 1) 3).out ≡ (One 1, Promise 2 5 (at 2 1) None) ∷ (One 1, Nack 2 6 (at 2 1) (at 3 2)) ∷ []
two_answers = refl

-- a span of one is one instance's entry
short_entry : (on_prepare 2 before 5 (at 2 1) 1).entry ≡ Some (Promised 5 (at 2 1))
short_entry = refl

-- and if nothing rises there is none
no_entry : (on_prepare 2 before 6 (at 2 1) 2).entry ≡ None
no_entry = refl
