-- The worked schedule of a replaced node is taken: computed.
use Rattle.std.proofs.Common.{◌≡◌, ℕ, List, [], ◌∷◌, ◌++◌, refl, subst, ⊎_elim, codes}
use Rattle.std.specs.Prelude.{slice_get, Some}
use Rattle.std.specs.Str.{is_utf8, chars}
use lib.Utf8.{encode}
use Rattle.command.specs.Written.{value_of}
use Rattle.site_ids.specs.Ids.{BallotOf}
use Rattle.site_ids.specs.Lists.{In}
use Rattle.site_ids.proofs.MemberLemmas.{in_get}
use Rattle.wire.specs.declared.message.Message.{Message}
use Rattle.wire.specs.declared.message.Message.TheVariants.{Accepted}
use Rattle.node.specs.Nodes.{Value}
use Rattle.world.specs.Decided.{Decides}
use Rattle.world.specs.Replaced.{by_2, before_loss, mute_below, heard_above, opened_anew, ReplacedVotes}
use Rattle.world.proofs.Told.{IsSo, the_told, majority}
use Rattle.world.proofs.Tables.{world_by, started}
use Rattle.world.proofs.Computing.{Step, all_as_is, run, the, Ran}

-- two messages report the votes of two nodes, which are a majority
decided_by : (n : ℕ) (sent : List Message) (i : ℕ) (b : BallotOf) (v : Value) (j k p q : ℕ) → slice_get sent j ≡ Some (Accepted p i b v) → slice_get sent k ≡ Some (Accepted q i b v) → IsSo (majority n (p ∷ q ∷ []))
    → Decides n sent i v
decided_by n sent i b v j k p q one two many = record {
  ballot = b;
  voters = p ∷ q ∷ [];
  majority = the_told (majority n (p ∷ q ∷ [])) many;
  voted = λ x h. ⊎_elim
      (λ (e : p ≡ x). subst (λ y. In sent (Accepted y i b v)) e (in_get sent j (Accepted p i b v) one))
      (λ h. ⊎_elim (λ (e : q ≡ x). subst (λ y. In sent (Accepted y i b v)) e (in_get sent k (Accepted q i b v) two)) (λ z. absurd z) h)
      h;
}

abbrev value : ℕ → Value
value k = value_of (record { editor = k; number = 1 }) (codes "release\n")

abbrev steps : List Step
steps = all_as_is (before_loss value ++ (mute_below value ++ heard_above value))

ran : Ran 3 started steps
unfolding is_utf8 chars encode
ran = the (run 3 started steps) tt

ran_anew : Ran 3 ran.0 (all_as_is opened_anew)
unfolding ran is_utf8 chars encode
ran_anew = the (run 3 ran.0 (all_as_is opened_anew)) tt

pub replaced_votes : ReplacedVotes
unfolding ran ran_anew is_utf8 chars encode
replaced_votes = record {
  v = value;
  w = world_by ran.0;
  takes = ran.1;
  said = refl;
  on_record = refl;
  decided = decided_by 3 ran.0.sent 66 (by_2 4) (value 66) 17 18 1 2 refl refl tt;
  later = world_by ran_anew.0;
  opens = ran_anew.1;
  tells = refl;
  known = refl;
}
