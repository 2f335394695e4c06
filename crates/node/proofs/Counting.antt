-- A vote that is delivered, by what the code did.
use Rattle.std.proofs.Common.{◌≡◌, ℕ, Bool, true, false, Option, Some, None, ◌∷◌, sym, subst}
use Rattle.std.specs.Prelude.{◌↔◌, IsTrue}
use Rattle.std.specs.Borrow.{Bor}
use Rattle.std.specs.Option.{is_some, option_copied}
use Rattle.site_ids.specs.Ids.{BallotOf}
use Rattle.site_ids.specs.Lists.{In}
use Rattle.learner.specs.ToldVotes.{ToldVote, told_vote, HasMajority}
use Rattle.learner.specs.Votes.{IsTold, IsToldWith}
use Rattle.learner.specs.declared.learner.Learner.{Learner}
use Rattle.node.specs.declared.node.Node.{Node as Running}
use Rattle.node.specs.Nodes.{Value, Node}
use Rattle.node.specs.Standing.{HasParts}
use Rattle.node.proofs.LearnedParts.{majority_by, told_or_one}

-- a value that was found is known, and one that wasn't isn't
pub found : (o : Option (Bor Value)) (x : Option Value) → option_copied o ≡ x → is_some o ≡ true → (v : Value) × (x ≡ Some v)
found None x e some = absurd (cc)
found (Some r) x e some = (r.now, sym e)

pub missing : (o : Option (Bor Value)) (x : Option Value) → option_copied o ≡ x → is_some o ≡ false → x ≡ None
missing None x e none = sym e
missing (Some r) x e none = absurd (cc)

both : {P Q R : Type 0} → P ↔ Q → Q ↔ R → P ↔ R
both a b = (λ p. b.0 (a.0 p), λ r. a.1 (b.1 r))

module _ {D : Type 0} (old : Running D) (s : Node) (parts : HasParts old s) (q i : ℕ) (b : BallotOf) (v : Value) where
  -- the votes reported, and one more
  pub more_votes : (new : Learner) → ((t : ToldVote) → IsTold new t ↔ IsToldWith old.learner (told_vote q i b v) t) → (t : ToldVote) → IsTold new t ↔ In (told_vote q i b v ∷ s.votes) t
  more_votes new added t = both (added t) (told_or_one old.learner (told_vote q i b v) s.votes parts.votes t)

  pub same_votes : (new : Learner) → ((t : ToldVote) → IsTold new t ↔ IsTold old.learner t) → (t : ToldVote) → IsTold new t ↔ In s.votes t
  same_votes new same t = both (same t) (parts.votes t)

  -- whether it makes a majority
  pub completes : (r : Bool) → IsTrue r ↔ HasMajority old.learner.cluster (IsToldWith old.learner (told_vote q i b v)) i b v → IsTrue r ↔ HasMajority old.cluster (In (told_vote q i b v ∷ s.votes)) i b v
  completes r tells =
      let each = told_or_one old.learner (told_vote q i b v) s.votes parts.votes in
      let same : HasMajority old.learner.cluster (IsToldWith old.learner (told_vote q i b v)) i b v ↔ HasMajority old.learner.cluster (In (told_vote q i b v ∷ s.votes)) i b v = (
        majority_by old.learner.cluster (IsToldWith old.learner (told_vote q i b v)) (In (told_vote q i b v ∷ s.votes)) i b v (λ t. (each t).0),
        majority_by old.learner.cluster (In (told_vote q i b v ∷ s.votes)) (IsToldWith old.learner (told_vote q i b v)) i b v (λ t. (each t).1),
      ) in
      both tells (subst (λ (n : ℕ). HasMajority old.learner.cluster (IsToldWith old.learner (told_vote q i b v)) i b v ↔ HasMajority n (In (told_vote q i b v ∷ s.votes)) i b v) old.learner_cluster same)
