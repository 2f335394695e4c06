-- The worked plans are taken: computed.
use Rattle.std.proofs.Common.{◌≡◌, inl, ℕ, Option, Some, None, [], ◌∷◌, refl, codes, arith}
use Rattle.proposer.specs.Attempts.{Attempt}
use Rattle.node.specs.Nodes.{IsFirstUnknown}
use Rattle.std.specs.Str.{is_utf8, chars}
use lib.Utf8.{encode}
use Rattle.command.specs.Written.{value_of}
use Rattle.node.specs.Nodes.{Value}
use Rattle.world.specs.declared.event.Event.TheVariants.{Submit, Tick, Deliver}
use Rattle.world.proofs.Tables.{world_by, started}
use Rattle.world.proofs.Computing.{all_as_is, run, the, Ran}
use Rattle.world.specs.Quiet.{one_attempt, overbid_first}
use Rattle.world.specs.QuietWorked.{two_votes, VotesAreTakenUp, RefusalIsHeard, NineAreEnough, StartIsQuiet}

abbrev a_release : ℕ → Value
a_release editor = value_of (record { editor = editor; number = 1 }) (codes "release\n")

voted_twice : Ran 3 started (all_as_is (two_votes (a_release 1) (a_release 2)))
unfolding is_utf8 chars encode
voted_twice = the (run 3 started (all_as_is (two_votes (a_release 1) (a_release 2)))) tt

first_learned : Ran 3 voted_twice.0 (all_as_is (one_attempt 3 2 6 0))
unfolding voted_twice is_utf8 chars encode
first_learned = the (run 3 voted_twice.0 (all_as_is (one_attempt 3 2 6 0))) tt

second_learned : Ran 3 first_learned.0 (all_as_is (one_attempt 3 2 12 0))
unfolding first_learned voted_twice is_utf8 chars encode
second_learned = the (run 3 first_learned.0 (all_as_is (one_attempt 3 2 12 0))) tt

pub votes_are_taken_up : VotesAreTakenUp
unfolding second_learned first_learned voted_twice is_utf8 chars encode
votes_are_taken_up = record {
  a = a_release 1;
  b = a_release 2;
  apart = λ e. (cc);
  before = world_by voted_twice.0;
  first = world_by first_learned.0;
  second = world_by second_learned.0;
  takes = voted_twice.1;
  plan = first_learned.1;
  next_plan = second_learned.1;
  known = refl;
  own = refl;
}

promised_above : Ran 3 started (all_as_is (Submit 1 (a_release 1) ∷ Tick 2 ∷ Deliver 1 0 ∷ Deliver 2 0 ∷ []))
unfolding is_utf8 chars encode
promised_above = the (run 3 started (all_as_is (Submit 1 (a_release 1) ∷ Tick 2 ∷ Deliver 1 0 ∷ Deliver 2 0 ∷ []))) tt

heard_of_it : Ran 3 promised_above.0 (all_as_is (overbid_first 1 1 3 0 (one_attempt 3 1 5 0)))
unfolding promised_above is_utf8 chars encode
heard_of_it = the (run 3 promised_above.0 (all_as_is (overbid_first 1 1 3 0 (one_attempt 3 1 5 0)))) tt

pub refusal_is_heard : RefusalIsHeard
unfolding heard_of_it promised_above is_utf8 chars encode
refusal_is_heard = record {
  a = a_release 1;
  before = world_by promised_above.0;
  after = world_by heard_of_it.0;
  takes = promised_above.1;
  plan = heard_of_it.1;
  known = refl;
}

nine : Ran 9 started (all_as_is (Submit 9 (a_release 1) ∷ []))
unfolding is_utf8 chars encode
nine = the (run 9 started (all_as_is (Submit 9 (a_release 1) ∷ []))) tt

nine_planned : Ran 9 nine.0 (all_as_is (one_attempt 9 9 0 0))
unfolding nine is_utf8 chars encode
nine_planned = the (run 9 nine.0 (all_as_is (one_attempt 9 9 0 0))) tt

pub nine_are_enough : NineAreEnough
unfolding nine_planned nine is_utf8 chars encode
nine_are_enough = record {
  a = a_release 1;
  before = world_by nine.0;
  after = world_by nine_planned.0;
  takes = nine.1;
  plan = nine_planned.1;
  known = refl;
}

-- ---- the start

first_of_all : IsFirstUnknown (λ i. None) 1
first_of_all = record { instance = (omega arith, omega arith); unknown = refl; before = λ j is less. absurd (let low = is.0 in omega (arith, low, less)) }

no_attempt : (a : Attempt) → ◌≡◌ {A = Option Attempt} None (Some a) → ⊥
no_attempt a e = cc

pub start_is_quiet : StartIsQuiet
start_is_quiet n p node = (
  record {
    each = λ q is. record { running = refl; unarmed = refl; rounds = omega arith };
    instance = 1;
    unknown = first_of_all;
    not_mute = λ mute. omega (arith, mute);
    none_mute = λ q is mute. omega (arith, mute);
    heard = omega arith;
  },
  record {
    instance = 1;
    unknown = first_of_all;
    elsewhere = [];
    open_elsewhere = record { rising = tt; each = λ x k. absurd k; whole = λ j a apart is. absurd (no_attempt a is) };
    is = inl (λ q e c is k raised. absurd k, refl);
  },
)
