-- Votes reported, and a value that becomes known.
use Rattle.std.proofs.Common.{◌≡◌, ◌≢◌, inl, inr, ⊎_elim, ℕ, Bool, true, false, cond, not, Option, Some, None, List, [], ◌∷◌, refl, sym, ap, subst, ◌∙◌, arith}
use Rattle.std.specs.Prelude.{◌↔◌, filter, nat_eq}
use Rattle.std.proofs.lemmas.Bool.Decides.{nat_tests}
use Rattle.site_ids.specs.Ids.{BallotOf}
use Rattle.site_ids.specs.Lists.{In, put_at}
use Rattle.learner.specs.ToldVotes.{ToldVote, told_vote, HasMajority}
use Rattle.learner.specs.Votes.{IsTold, IsToldWith}
use Rattle.learner.specs.declared.learner.Learner.{Learner}
use Rattle.proposer.specs.Standing.{Attempting, Changes}
use Rattle.proposer.specs.declared.proposer.Proposer.{Proposer}
use Rattle.node.specs.declared.queue.Queue.{Queue}
use Rattle.node.specs.declared.node.Node.{Node as Running}
use Rattle.node.specs.Nodes.{Value, Node}
use Rattle.node.specs.Tickets.{has_same_ticket}
use Rattle.node.specs.Effects.{learned}
use Rattle.node.specs.Knowing.{AreKnown}
use Rattle.node.specs.Waiting.{AreWaiting}
use Rattle.node.specs.Standing.{HasParts, KeepsOthers}
use Rattle.node.proofs.Stepping.{same_record, same_store}

-- ---- filtered votes

abbrev pub elsewhere : ℕ → List ToldVote → List ToldVote
elsewhere i votes = filter (λ t. not (nat_eq t.instance i)) votes

in_filter : (f : ToldVote → Bool) (xs : List ToldVote) (x : ToldVote) → In (filter f xs) x ↔ (In xs x × (f x ≡ true))
in_filter f [] x = (λ h. absurd h, λ h. h.0)
in_filter f (y ∷ xs) x =
    let rest : In (filter f xs) x ↔ (In xs x × (f x ≡ true)) = in_filter f xs x in
    elim (f y) as (λ b. f y ≡ b → In (cond b (y ∷ filter f xs) (filter f xs)) x ↔ (In (y ∷ xs) x × (f x ≡ true))) [
      | true ↦ λ is. (
        λ h. ⊎_elim (λ (e : y ≡ x). (inl e, sym (ap f e) ∙ is)) (λ k. let r = rest.0 k in (inr r.0, r.1)) h,
        λ h. ⊎_elim (λ (e : y ≡ x). inl e) (λ k. inr (rest.1 (k, h.1))) h.0,
      )
      | false ↦ λ is. (
        λ h. let r = rest.0 h in (inr r.0, r.1),
        λ h. ⊎_elim (λ (e : y ≡ x). absurd (clash (sym h.1 ∙ sym (ap f e) ∙ is))) (λ k. rest.1 (k, h.1)) h.0,
      )
    ] refl
  where
    clash : true ≡ false → ⊥
    clash e = cc

apart_is : (j i : ℕ) → not (nat_eq j i) ≡ true → j ≢ i
apart_is j i is = grind (arith, nat_tests)

is_apart : (j i : ℕ) → j ≢ i → not (nat_eq j i) ≡ true
is_apart j i is = grind (arith, nat_tests)

told_elsewhere : (i : ℕ) (votes : List ToldVote) (old new : Learner) → ((t : ToldVote) → IsTold old t ↔ In votes t) → ((t : ToldVote) → IsTold new t ↔ (IsTold old t × (t.instance ≢ i)))
    → (t : ToldVote) → IsTold new t ↔ In (elsewhere i votes) t
told_elsewhere i votes old new are dropped t =
    let filtered = in_filter (λ x. not (nat_eq x.instance i)) votes t in (
      λ h. let r = (dropped t).0 h in filtered.1 ((are t).0 r.0, is_apart t.instance i r.1),
      λ h. let r = filtered.0 h in (dropped t).1 ((are t).1 r.0, apart_is t.instance i r.1),
    )

-- one vote more at the instance doesn't count there
pub told_elsewhere_with : (i : ℕ) (one : ToldVote) (votes : List ToldVote) (told : Learner) → one.instance ≡ i → ((t : ToldVote) → IsTold told t ↔ In (elsewhere i votes) t) → (t : ToldVote) → IsTold told t ↔ In (elsewhere i (one ∷ votes)) t
told_elsewhere_with i one votes told at are t = subst (λ b. IsTold told t ↔ In (cond (not b) (one ∷ elsewhere i votes) (elsewhere i votes)) t) (sym (same one.instance i at)) (are t)
  where
    same : (j i : ℕ) → j ≡ i → nat_eq j i ≡ true
    same j i e = grind (arith, nat_tests)

-- ---- majorities, by whichever set of the same votes

pub majority_by : (n : ℕ) (P Q : ToldVote → Type 0) (i : ℕ) (b : BallotOf) (v : Value) → ((t : ToldVote) → P t → Q t) → HasMajority n P i b v → HasMajority n Q i b v
majority_by n P Q i b v each many = (many.0, many.1, λ p k. each (told_vote p i b v) (many.2 p k))

pub told_or_one : (told : Learner) (one : ToldVote) (votes : List ToldVote) → ((t : ToldVote) → IsTold told t ↔ In votes t) → (t : ToldVote) → IsToldWith told one t ↔ In (one ∷ votes) t
told_or_one told one votes are t = (
  λ h. ⊎_elim (λ (k : IsTold told t). inr ((are t).0 k)) (λ (e : t ≡ one). inl (sym e)) h,
  λ h. ⊎_elim (λ (e : one ≡ t). inr (sym e)) (λ (k : In votes t). inl ((are t).1 k)) h,
)

-- ---- a value becomes known

module _ {D : Type 0} where
  -- what was changed of the parts, as a value became known
  pub record Learns (old new : Running D) (i : ℕ) (v : Value) : Type 0 where
    pub store : new.store ≡ old.store
    pub reached : new.reached ≡ old.reached
    pub known : (published : List Value) (known : ℕ → Option Value) → AreKnown old.known published known → AreKnown new.known published (put_at known i (Some v))
    pub votes : (t : ToldVote) → IsTold new.learner t ↔ (IsTold old.learner t × (t.instance ≢ i))
    pub proposer : Changes old.proposer new.proposer (λ attempts. put_at attempts i None)
    pub pending : (values : List Value) → AreWaiting old.queue.items.items values → AreWaiting new.queue.items.items (filter (λ u. not (has_same_ticket u v)) values)

  pub learned_parts : (old new : Running D) (s : Node) (i : ℕ) (v : Value) → KeepsOthers old new → Learns old new i v → HasParts old s → HasParts new (learned s i v)
  learned_parts old new s i v others learns parts = record {
    on_record = same_record old new s (learned s i v) others (same_store old.store new.store learns.store) refl refl refl parts.on_record;
    votes = told_elsewhere i s.votes old.learner new.learner parts.votes learns.votes;
    known = subst (λ vs. AreKnown new.known vs (put_at s.known i (Some v))) (sym others.releases) (learns.known old.releases s.known parts.known);
    attempts = learns.proposer.attempts s.attempts parts.attempts;
    pending = learns.pending s.pending parts.pending;
    heard = (λ k. (learns.proposer.only k).heard) ∙ parts.heard;
    reached = learns.reached ∙ parts.reached;
  }

  -- ---- a vote, and a chosen value, that were delivered

  -- a value became known, and then its instance was counted
  pub counted_parts : (code counted : Running D) (s : Node) (votes : List ToldVote) (i : ℕ) (v : Value) (reached : ℕ) → KeepsOthers code counted → HasParts code (learned s i v) → counted.store ≡ code.store → counted.learner ≡ code.learner
      → counted.known ≡ code.known → counted.queue ≡ code.queue → counted.proposer ≡ code.proposer → counted.reached ≡ reached → ((t : ToldVote) → IsTold code.learner t ↔ In (elsewhere i votes) t)
      → HasParts counted (learned (record s { votes = votes; reached = reached }) i v)
  counted_parts code counted s votes i v reached others parts store learner known queue proposer is told = record {
    on_record = same_record code counted (learned s i v) (learned (record s { votes = votes; reached = reached }) i v) others (same_store code.store counted.store store) refl refl refl parts.on_record;
    votes = λ t. subst (λ (l : Learner). IsTold l t ↔ In (elsewhere i votes) t) (sym learner) (told t);
    known = rw (known, others.releases) parts.known;
    attempts = subst (λ (p : Proposer). Attempting p (put_at s.attempts i None)) (sym proposer) parts.attempts;
    pending = subst (λ (q : Queue). AreWaiting q.items.items (learned s i v).pending) (sym queue) parts.pending;
    heard = ap (λ (p : Proposer). p.heard) proposer ∙ parts.heard;
    reached = is;
  }
