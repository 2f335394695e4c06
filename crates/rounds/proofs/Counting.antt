-- Votes in any order: when all nodes voted, the value is known.
use Rattle.std.proofs.Common.{◌≡◌, ◌≢◌, ◌⊎◌, inl, inr, ⊎_elim, ℕ, suc, ◌≤◌, max, Bool, true, false, cond, not}
use Rattle.std.proofs.Common.{Option, Some, None, List, [], ◌∷◌, length, filter, refl, sym, ap, subst, ◌∙◌}
use Rattle.std.proofs.Common.{arith}
use Rattle.std.specs.Prelude.{nat_eq, ⊤}
use Rattle.std.proofs.lemmas.Bool.Decides.{nat_tests}
use Rattle.site_ids.specs.Ids.{BallotOf, IsNode}
use Rattle.site_ids.specs.Lists.{In}
use Rattle.site_ids.proofs.MapLemmas.{put_here, put_other}
use Rattle.site_ids.proofs.MajorityLemmas.{all_are_many}
use Rattle.wire.specs.declared.message.Message.{Message}
use Rattle.wire.specs.declared.message.Message.TheVariants.{Prepare, Promise, Propose, Accepted, Nack, Ask}
use Rattle.wire.specs.declared.message.Message.TheVariants.{Chosen}
use Rattle.wire.specs.Messages.{kind_of}
use Rattle.wire.specs.Decoding.{Spells}
use Rattle.learner.specs.ToldVotes.{ToldVote, told_vote, HasMajority}
use Rattle.node.specs.declared.to.To.{To}
use Rattle.node.specs.declared.to.To.TheVariants.{One}
use Rattle.node.specs.Nodes.{Value, Node, IsKnown, IsUnknown, IsMute}
use Rattle.node.specs.Effects.{Effect, quiet, says, learned}
use Rattle.node.specs.Calls.{Call, deliver}
use Rattle.node.specs.Deliveries.{with_vote, Counted, OnAccepted, OnPrepare, OnPropose, ByKind}
use Rattle.node.specs.Endings.{Whole, EndsWhole}
use Rattle.node.proofs.Knowing.{known_stays}
use Rattle.site_drive.specs.declared.last_call.LastCall.{LastCall}
use Rattle.site_drive.specs.Drives.{EndsTurns}
use Rattle.site_drive.specs.Batches.{TakesEach}
use Rattle.rounds.proofs.Elsewhere.{IsAside, IsElsewhere, aside_apart}
use Rattle.rounds.proofs.Delivering.{Keeps, AreAllowed, brought}
use Rattle.rounds.proofs.Calling.{all_called}
use Rattle.rounds.proofs.Promising.{all_or}

pub in_filtered : {X : Type 0} (f : X → Bool) (xs : List X) (x : X) → In xs x → f x ≡ true
    → In (filter f xs) x
in_filtered f [] x k holds = absurd k
in_filtered f (y ∷ xs) x k holds = by (f y) refl (λ later. in_filtered f xs x later holds) k
  where
    clash : false ≡ true → ⊥
    clash e = cc

    by : (t : Bool) → f y ≡ t → (In xs x → In (filter f xs) x) → In (y ∷ xs) x
        → In (cond t (y ∷ filter f xs) (filter f xs)) x
    by true is rest h = ⊎_elim (λ e. inl e) (λ later. inr (rest later)) h
    by false is rest h = ⊎_elim (λ (e : y ≡ x). absurd (clash (sym is ∙ ap f e ∙ holds)))
        (λ later. rest later) h

pub out_of_filter : {X : Type 0} (f : X → Bool) (xs : List X) (x : X) → In (filter f xs) x → In xs x
out_of_filter f [] x k = absurd k
out_of_filter f (y ∷ xs) x k = by (f y) (λ later. out_of_filter f xs x later) k
  where
    by : (t : Bool) → (In (filter f xs) x → In xs x) → In (cond t (y ∷ filter f xs) (filter f xs)) x
        → In (y ∷ xs) x
    by true rest h = ⊎_elim (λ e. inl e) (λ later. inr (rest later)) h
    by false rest h = inr (rest h)

pub not_equal : (a b : ℕ) → a ≢ b → not (nat_eq a b) ≡ true
not_equal a b apart = grind (arith, nat_tests, apart)

no_value : (v : Value) → ◌≡◌ {A = Option Value} None (Some v) → ⊥
no_value v e = cc

abbrev any_call : Call → Type 0
any_call call = ⊤

module _ (n q : ℕ) (values : List Value) (b : BallotOf) (v : Value) where
  abbrev i : ℕ
  i = suc (length values)

  abbrev vote : ℕ → ToldVote
  vote r = told_vote r i b v

  -- the same value is known at the instance, or none, and the same votes for the value are counted
  record IsSame (s t : Node) : Type 0 where
    pub known : t.known i ≡ s.known i
    pub votes : (r : ℕ) → In s.votes (vote r) → In t.votes (vote r)
    pub back : (r : ℕ) → In t.votes (vote r) → In s.votes (vote r)

  same_as : (s : Node) (effect : Effect) (t : Node) → effect.after ≡ t → t.known i ≡ s.known i
      → t.votes ≡ s.votes → IsSame s effect.after
  same_as s effect t is known votes = record {
    known = ap (λ (x : Node). x.known i) is ∙ known;
    votes = λ r k. subst (λ l. In l (vote r)) (sym (ap (λ (x : Node). x.votes) is ∙ votes)) k;
    back = λ r k. subst (λ l. In l (vote r)) (ap (λ (x : Node). x.votes) is ∙ votes) k;
  }

  same_after : (s t : Node) (effect : Effect) → effect.after ≡ t → IsSame s t → IsSame s effect.after
  same_after s t effect is same = subst (IsSame s) (sym is) same

  other_vote : (s : Node) (t : ToldVote) → t.instance ≢ i → IsSame s (with_vote s t)
  other_vote s t apart = record {
    known = refl;
    votes = λ r k. inr k;
    back = λ r k. ⊎_elim (λ (e : t ≡ vote r). absurd (apart (ap (λ (x : ToldVote). x.instance) e))) (λ m. m)
        k;
  }

  other_learned : (s : Node) (j : ℕ) (u : Value) → j ≢ i → IsSame s (learned s j u)
  other_learned s j u apart = record {
    known = put_other s.known j (Some u) i (λ e. apart (sym e));
    votes = λ r k. in_filtered (λ (t : ToldVote). not (nat_eq t.instance j)) s.votes (vote r) k
        (not_equal i j (λ e. apart (sym e)));
    back = λ r k. out_of_filter (λ (t : ToldVote). not (nat_eq t.instance j)) s.votes (vote r) k;
  }

  same_on : (s t u : Node) → IsSame s t → IsSame t u → IsSame s u
  same_on s t u x y = record {
    known = y.known ∙ x.known;
    votes = λ r k. y.votes r (x.votes r k);
    back
        = λ r k. x.back r (y.back r k);
  }

  -- a message that brings no value and no vote of the instance
  abbrev pub IsBlank : Message → Type 0
  IsBlank m = IsElsewhere i m ⊎ ((kind_of m ≡ 1) ⊎ (kind_of m ≡ 3))

  blank_apart : (k j : ℕ) → k ≢ 1 → k ≢ 3 → k ≢ 5 → k ≢ 6 → IsAside i k j ⊎ ((k ≡ 1) ⊎ (k ≡ 3)) → j ≢ i
  blank_apart k j a c d e h = ⊎_elim (λ x. aside_apart i k j d e x)
      (λ y. ⊎_elim (λ x. absurd (a x)) (λ x. absurd (c x)) y) h

  on_blank : (p : ℕ) (s : Node) (m : Message) (effect : Effect) → IsBlank m → ByKind n p s m effect
      → IsSame s effect.after
  on_blank p s (Prepare r j c k) effect blank how =
      ⊎_elim
      (λ (x : IsMute s j × (effect ≡ quiet s)). same_as s effect s (ap (λ (y : Effect). y.after) x.1) refl
      refl)
      (λ (x : (¬ IsMute s j) × OnPrepare p s j c k effect). same_as s effect s
      (ap (λ (y : Effect). y.after) x.1.is) refl refl)
      how
  on_blank p s (Promise r j c prior) effect blank how = same_as s effect
      (record s { attempts = how.attempts }) (ap (λ (y : Effect). y.after) how.is) refl refl
  on_blank p s (Propose r j c u) effect blank how =
      ⊎_elim
      (λ (x : IsMute s j × (effect ≡ quiet s)). same_as s effect s (ap (λ (y : Effect). y.after) x.1) refl
      refl)
      (λ (x : (¬ IsMute s j) × OnPropose p s j c u effect). same_as s effect s
      (ap (λ (y : Effect). y.after) x.1.is) refl refl)
      how
  on_blank p s (Accepted r j c u) effect blank how =
      let t = told_vote r j c u in
      let apart = blank_apart 4 j (λ e. omega (arith, e)) (λ e. omega (arith, e)) (λ e. omega (arith, e))
      (λ e. omega (arith, e)) blank in
      ⊎_elim
      (λ (x : IsUnknown s j × Counted n (with_vote s t) j c u effect).
      ⊎_elim
      (λ (few : (¬ HasMajority n (In (with_vote s t).votes) j c u) × (effect ≡ quiet (with_vote s t))).
      same_after s (with_vote s t) effect (ap (λ (y : Effect). y.after) few.1) (other_vote s t apart))
      (λ (many : HasMajority n (In (with_vote s t).votes) j c u
      × (effect ≡ quiet (learned (with_vote s t) j u))).
      same_after s (learned (with_vote s t) j u) effect (ap (λ (y : Effect). y.after) many.1)
      (same_on s (with_vote s t) (learned (with_vote s t) j u) (other_vote s t apart)
      (other_learned (with_vote s t) j u apart)))
      x.1)
      (λ (x : IsKnown s j × (effect ≡ quiet s)). same_as s effect s (ap (λ (y : Effect). y.after) x.1) refl
      refl)
      how
  on_blank p s (Nack r j c d) effect blank how = same_as s effect (record s { heard = max s.heard d.round })
      (ap (λ (y : Effect). y.after) how) refl refl
  on_blank p s (Ask r j) effect blank how =
      ⊎_elim
      (λ (x : (u : Value) × (s.known j ≡ Some u) × (effect ≡ says s (One r) (Chosen p j u))). same_as s effect
      s (ap (λ (y : Effect). y.after) x.2) refl refl)
      (λ (x : IsUnknown s j × (effect ≡ quiet s)). same_as s effect s (ap (λ (y : Effect). y.after) x.1) refl
      refl)
      how
  on_blank p s (Chosen r j u) effect blank how =
      let apart = blank_apart 7 j (λ e. omega (arith, e)) (λ e. omega (arith, e)) (λ e. omega (arith, e))
      (λ e. omega (arith, e)) blank in
      ⊎_elim
      (λ (x : IsUnknown s j × (effect ≡ quiet (learned s j u))). same_after s (learned s j u) effect
      (ap (λ (y : Effect). y.after) x.1) (other_learned s j u apart))
      (λ (x : (s.known j ≡ Some u) × (effect ≡ quiet s)). same_as s effect s
      (ap (λ (y : Effect). y.after) x.1) refl refl)
      how

  -- ---- a batch with votes

  -- the instance is unknown, or the value is known there
  abbrev pub IsUnknownOr : Node → Type 0
  IsUnknownOr s = (s.known i ≡ None) ⊎ (s.known i ≡ Some v)

  -- the value is known, or node r's vote is among those counted, which are too few
  abbrev Counts : ℕ → Node → Type 0
  Counts r s = (s.known i ≡ Some v) ⊎ ((s.known i ≡ None) × In s.votes (vote r)
      × (¬ HasMajority n (In s.votes) i b v))

  abbrev pub IsVoteOrBlank : Message → Type 0
  IsVoteOrBlank m = IsBlank m ⊎ ((r : ℕ) × (m ≡ Accepted r i b v))

  -- a vote is counted, and the votes counted before still are
  record IsCounted (r : ℕ) (s t : Node) : Type 0 where
    pub unknown_or : IsUnknownOr t
    pub counts : Counts r t
    pub grows : (x : ℕ) → Counts x s → Counts x t

  counted_by : (r : ℕ) (s : Node) (effect : Effect) → IsUnknownOr s → OnAccepted n s r i b v effect
      → IsCounted r s effect.after
  counted_by r s effect known how =
      ⊎_elim
      (λ (x : IsUnknown s i × Counted n (with_vote s (vote r)) i b v effect).
      ⊎_elim
      (λ (few : (¬ HasMajority n (In (with_vote s (vote r)).votes) i b v)
      × (effect ≡ quiet (with_vote s (vote r)))).
      subst (IsCounted r s) (sym (ap (λ (y : Effect). y.after) few.1)) (record {
        unknown_or = inl x.0;
        counts = inr (x.0, inl refl, few.0);
        grows = λ z h. ⊎_elim (λ (e : s.known i ≡ Some v). absurd (no_value v (sym x.0 ∙ e)))
            (λ (y : (s.known i ≡ None) × In s.votes (vote z) × (¬ HasMajority n (In s.votes) i b v)). inr
            (x.0, inr y.1, few.0)) h;
      }))
      (λ (many : HasMajority n (In (with_vote s (vote r)).votes) i b v
      × (effect ≡ quiet (learned (with_vote s (vote r)) i v))).
      let now : (learned (with_vote s (vote r)) i v).known i ≡ Some v = put_here s.known i (Some v) i refl in
      subst (IsCounted r s) (sym (ap (λ (y : Effect). y.after) many.1))
      (record { unknown_or = inr now; counts = inl now; grows = λ z h. inl now }))
      x.1)
      (λ (x : IsKnown s i × (effect ≡ quiet s)).
      let now : s.known i ≡ Some v = ⊎_elim (λ (e : s.known i ≡ None). absurd
      (no_value x.0.0 (sym e ∙ x.0.1))) (λ e. e) known in
      subst (IsCounted r s) (sym (ap (λ (y : Effect). y.after) x.1))
      (record { unknown_or = inr now; counts = inl now; grows = λ z h. inl now }))
      how

  counted_on : (r : ℕ) (s t : Node) (out : List (To × Message)) → IsUnknownOr s
      → EndsWhole n q s (deliver (Accepted r i b v)) out t → IsCounted r s t
  counted_on r s t out known ends =
      let c = counted_by r (record s { reached = max s.reached i }) ends.effect known ends.does in
      subst (IsCounted r s) (sym ends.node)
      (record { unknown_or = c.unknown_or; counts = c.counts; grows = c.grows })

  blank_on : (s t : Node) (out : List (To × Message)) (m : Message) → IsBlank m
      → EndsWhole n q s (deliver m) out t → IsSame s t
  blank_on s t out m blank ends =
      let same = on_blank q (record s { reached = _ }) m ends.effect blank ends.does in
      subst (IsSame s) (sym ends.node) (record { known = same.known; votes = same.votes; back = same.back })

  abbrev Holds : Node → List (To × Message) → Type 0
  Holds s l = IsUnknownOr s

  holds_on : Keeps n q IsVoteOrBlank Holds
  holds_on s t before out m h is allowed ends =
      ⊎_elim
      (λ (blank : IsBlank m). let same = blank_on s t out m blank ends in ⊎_elim (λ e. inl (same.known ∙ e))
      (λ e. inr (same.known ∙ e)) h)
      (λ (x : (r : ℕ) × (m ≡ Accepted r i b v)). (counted_on x.0 s t out h
      (subst (λ y. EndsWhole n q s (deliver y) out t) x.1 ends)).unknown_or)
      allowed

  counts_on : (r : ℕ) → Keeps n q IsVoteOrBlank (λ s l. Holds s l × Counts r s)
  counts_on r s t before out m h is allowed ends = (
    holds_on s t before out m h.0 is allowed ends,
    ⊎_elim
        (λ (blank : IsBlank m).
        let same = blank_on s t out m blank ends in
        ⊎_elim
        (λ e. inl (same.known ∙ e))
        (λ (y : (s.known i ≡ None) × In s.votes (vote r) × (¬ HasMajority n (In s.votes) i b v)). inr (
          same.known ∙ y.0,
          same.votes r y.1,
          λ many. y.2
              (many.0, many.1, λ x k. same.back x (many.2 x k)),
        ))
        h.1)
        (λ (x : (z : ℕ) × (m ≡ Accepted z i b v)). (counted_on x.0 s t out h.0
        (subst (λ y. EndsWhole n q s (deliver y) out t) x.1 ends)).grows r h.1)
        allowed,
  )

  -- all nodes voted
  pub votes_known : 1 ≤ n → (came : List (List ℕ)) (s t : Node) (malformed : ℕ) (out : List (To × Message))
      → ((r : ℕ) → IsNode n r → (d : List ℕ) × In came d × Spells n d (Accepted r i b v))
      → AreAllowed n q IsVoteOrBlank came
      → TakesEach n q came malformed out s t → s.known i ≡ None → t.known i ≡ Some v
  votes_known some came s t malformed out each allowed taken unknown =
      let all = all_are_many n some in
      let counted : (r : ℕ) → IsNode n r → Counts r t = λ r node.
      let d = each r node in
      brought n q IsVoteOrBlank Holds (λ u l. Counts r u) holds_on (counts_on r) d.0 (Accepted r i b v) d.2
      (λ u w before more h ends. (counted_on r u w more h ends).counts)
      came s t malformed [] out d.1 allowed taken (inl unknown) in
      ⊎_elim
      (λ (e : t.known i ≡ Some v). e)
      (λ (y : (t.known i ≡ None) × In t.votes (vote 1) × (¬ HasMajority n (In t.votes) i b v)).
      ⊎_elim
      (λ (told : (r : ℕ) → In all.0 r → In t.votes (vote r)). absurd (y.2 (all.0, all.1, told)))
      (λ (e : t.known i ≡ Some v). e)
      (all_or (λ r. In t.votes (vote r)) (t.known i ≡ Some v) all.0
      (λ r k. ⊎_elim (λ (e : t.known i ≡ Some v). inr e)
      (λ (z : (t.known i ≡ None) × In t.votes (vote r) × (¬ HasMajority n (In t.votes) i b v)). inl z.1)
      (counted r (all.1.nodes r k)))))
      (counted 1 (omega arith, some))

  -- and it stays known over the calls
  pub calls_known : (last : LastCall) (s t : Node) (out : List (To × Message)) → EndsTurns last n q s out t
      → s.known i ≡ Some v → t.known i ≡ Some v
  calls_known last s t out ends known =
      all_called n q (λ u l. u.known i ≡ Some v) any_call
      (λ u w before more call may h e. known_stays n q u w call Whole more e i v h)
      last s t [] out (λ call is. tt) ends known
