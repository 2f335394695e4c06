-- The worked schedules of what is kept are taken: computed.
use Rattle.std.proofs.Common.{ℕ, refl, codes}
use Rattle.std.specs.Prelude.{true, false}
use Rattle.std.specs.Str.{is_utf8, chars}
use lib.Utf8.{encode}
use Rattle.command.specs.Written.{value_of}
use Rattle.node.specs.Nodes.{Value}
use Rattle.world.specs.Kept.{catches_up, starts_again, votes_late, KeptIsShown, UnkeptIsLost, VotesForAnother}
use Rattle.world.proofs.Tables.{world_by, started}
use Rattle.world.proofs.Computing.{all_as_is, run, the, Ran}

abbrev value : ℕ → Value
value k = value_of (record { editor = k; number = 1 }) (codes "release\n")

kept_ran : Ran 3 started (all_as_is (catches_up true value))
unfolding is_utf8 chars encode
kept_ran = the (run 3 started (all_as_is (catches_up true value))) tt

kept_anew : Ran 3 kept_ran.0 (all_as_is (starts_again 6))
unfolding kept_ran is_utf8 chars encode
kept_anew = the (run 3 kept_ran.0 (all_as_is (starts_again 6))) tt

pub kept_is_shown : KeptIsShown
unfolding kept_ran kept_anew is_utf8 chars encode
kept_is_shown = record {
  v = value;
  w = world_by kept_ran.0;
  takes = kept_ran.1;
  on_record = refl;
  after = world_by kept_anew.0;
  starts = kept_anew.1;
  known_2 = (refl, refl, refl);
  known_3 = (refl, refl, refl);
}

lost_ran : Ran 3 started (all_as_is (catches_up false value))
unfolding is_utf8 chars encode
lost_ran = the (run 3 started (all_as_is (catches_up false value))) tt

lost_anew : Ran 3 lost_ran.0 (all_as_is (starts_again 3))
unfolding lost_ran is_utf8 chars encode
lost_anew = the (run 3 lost_ran.0 (all_as_is (starts_again 3))) tt

pub unkept_is_lost : UnkeptIsLost
unfolding lost_ran lost_anew is_utf8 chars encode
unkept_is_lost = record {
  v = value;
  w = world_by lost_ran.0;
  takes = lost_ran.1;
  knew = (refl, refl, refl);
  after = world_by lost_anew.0;
  starts = lost_anew.1;
  unknown_2 = (refl, refl, refl);
  unknown_3 = (refl, refl, refl);
}

late_ran : Ran 3 started (all_as_is (votes_late value))
unfolding is_utf8 chars encode
late_ran = the (run 3 started (all_as_is (votes_late value))) tt

pub votes_for_another : VotesForAnother
unfolding late_ran is_utf8 chars encode
votes_for_another = record {
  v = value;
  w = world_by late_ran.0;
  takes = late_ran.1;
  on_record = refl;
  known = refl;
}
