-- A proposal that nobody overbids is voted for, whatever else comes.
use Rattle.std.proofs.Common.{◌≡◌, ◌⊎◌, inl, ⊎_elim, ℕ, max, ◌+◌, ◌≤◌, Bool, true, false, cond}
use Rattle.std.proofs.Common.{Option}
use Rattle.std.proofs.Common.{Some, None, List, [], ◌∷◌, ◌++◌, refl, sym, ap, subst, ◌∙◌, arith}
use Rattle.std.specs.Prelude.{nat_eq}
use Rattle.std.proofs.lemmas.Bool.Decides.{nat_tests}
use Rattle.site_ids.specs.Ids.{BallotOf, Below, NotAbove}
use Rattle.site_ids.specs.Lists.{In}
use Rattle.site_ids.specs.Spans.{IsInSpan}
use Rattle.site_ids.specs.declared.value.Vote.{Vote}
use Rattle.site_ids.proofs.MemberLemmas.{in_left, in_right, in_push}
use Rattle.wire.specs.declared.message.Message.{Message}
use Rattle.wire.specs.declared.message.Message.TheVariants.{Prepare, Promise, Propose, Accepted, Nack, Ask}
use Rattle.wire.specs.declared.message.Message.TheVariants.{Chosen}
use Rattle.wire.specs.Decoding.{Spells}
use Rattle.acceptor.specs.declared.slot.Slot.{Slot}
use Rattle.acceptor.specs.Judging.{IsVotedAt, IsVotedFor}
use Rattle.acceptor.specs.Steps.{Answer, promise, accepted, nack, no_answer, proposal, Steps}
use Rattle.durable.specs.Entries.{Entry, Promised, PromisedSpan, Voted, Raises, IsPromise, IsSlot, last_vote}
use Rattle.durable.specs.Entries.{promise_of, floor_of, with_entry}
use Rattle.durable.proofs.Push.{floor_of-push}
use Rattle.learner.specs.ToldVotes.{told_vote, HasMajority}
use Rattle.node.specs.declared.to.To.{To}
use Rattle.node.specs.declared.to.To.TheVariants.{One, All}
use Rattle.node.specs.Nodes.{Value, Node, IsKnown, IsUnknown, IsMute}
use Rattle.node.specs.Effects.{Effect, quiet, says, learned}
use Rattle.node.specs.Calls.{deliver}
use Rattle.node.specs.Deliveries.{Judged, OnPrepare, OnPropose, RecordsAny, Records, Counted}
use Rattle.node.specs.Deliveries.{with_vote}
use Rattle.node.specs.Deliveries.{ByKind, reached_by, propose_out}
use Rattle.node.specs.Endings.{EndsWhole}
use Rattle.node.proofs.OnRecord.{last_vote-in}
use Rattle.site_drive.specs.Batches.{TakesEach}
use Rattle.world.proofs.Order.{below_not_above}
use Rattle.world.proofs.QuietAnswers.{heeds}
use Rattle.rounds.specs.Proposing.{Requests}
use Rattle.rounds.proofs.Delivering.{Keeps, AreAllowed, brought}

no_entry : (e : Entry) → ◌≡◌ {A = Option Entry} None (Some e) → ⊥
no_entry e x = cc

inside_entry : (a b : Entry) → Some a ≡ Some b → a ≡ b
inside_entry a b e = cc

-- ---- what a message puts on record

-- a prepare puts a promise, and a proposal a vote
abbrev pub IsPutBy : Message → Entry → Type 0
IsPutBy (Prepare q j c k) e = e ≡ promise_of j k c
IsPutBy (Promise q j c prior) e = ⊥
IsPutBy (Propose q j c u) e = e ≡ Voted j c u
IsPutBy (Accepted q j c u) e = ⊥
IsPutBy (Nack q j c d) e = ⊥
IsPutBy (Ask q j) e = ⊥
IsPutBy (Chosen q j u) e = ⊥

nothing : (effect : Effect) (t : Node) (out : List (To × Message)) (e : Entry)
    → effect ≡ record { entry = None; after = t; out = out } → effect.entry ≡ Some e → ⊥
nothing effect t out e is put = no_entry e (sym (ap (λ (x : Effect). x.entry) is) ∙ put)

pub put_by : (n p : ℕ) (s : Node) (m : Message) (effect : Effect) (e : Entry) → ByKind n p s m effect
    → effect.entry ≡ Some e → IsPutBy m e
put_by n p s (Prepare q j c k) effect e how put =
    ⊎_elim
    (λ (x : IsMute s j × (effect ≡ quiet s)). absurd (nothing effect s [] e x.1 put))
    (λ (x : (¬ IsMute s j) × OnPrepare p s j c k effect). by x.1.entry x.1.judged x.1.records
    (sym (ap (λ (y : Effect). y.entry) x.1.is) ∙ put))
    how
  where
    by : (o : Option Entry) (xs : List Judged) → RecordsAny xs (promise_of j k c) o → o ≡ Some e → e
        ≡ promise_of j k c
    by None xs records is = absurd (no_entry e is)
    by (Some x) xs records is = sym (inside_entry x e is) ∙ records.1
put_by n p s (Promise q j c prior) effect e how put = nothing effect _ _ e how.is put
put_by n p s (Propose q j c u) effect e how put =
    ⊎_elim
    (λ (x : IsMute s j × (effect ≡ quiet s)). absurd (nothing effect s [] e x.1 put))
    (λ (x : (¬ IsMute s j) × OnPropose p s j c u effect). by x.1.entry x.1.slot x.1.after x.1.records
    (sym (ap (λ (y : Effect). y.entry) x.1.is) ∙ put))
    how
  where
    by : (o : Option Entry) (slot after : Slot) → Records slot after (Voted j c u) o → o ≡ Some e
        → e ≡ Voted j c u
    by None slot after records is = absurd (no_entry e is)
    by (Some x) slot after records is = sym (inside_entry x e is) ∙ records.1
put_by n p s (Accepted q j c u) effect e how put =
    let t = told_vote q j c u in
    ⊎_elim
    (λ (x : IsUnknown s j × Counted n (with_vote s t) j c u effect).
    ⊎_elim
    (λ (y : (¬ HasMajority n (In (with_vote s t).votes) j c u) × (effect ≡ quiet (with_vote s t))).
    nothing effect (with_vote s t) [] e y.1 put)
    (λ (y : HasMajority n (In (with_vote s t).votes) j c u
    × (effect ≡ quiet (learned (with_vote s t) j u))). nothing effect (learned (with_vote s t) j u) [] e y.1
    put)
    x.1)
    (λ (x : IsKnown s j × (effect ≡ quiet s)). nothing effect s [] e x.1 put)
    how
put_by n p s (Nack q j c d) effect e how put = nothing effect _ [] e how put
put_by n p s (Ask q j) effect e how put =
    ⊎_elim
    (λ (x : (u : Value) × (s.known j ≡ Some u) × (effect ≡ says s (One q) (Chosen p j u))). nothing effect s _
    e x.2 put)
    (λ (x : IsUnknown s j × (effect ≡ quiet s)). nothing effect s [] e x.1 put)
    how
put_by n p s (Chosen q j u) effect e how put =
    ⊎_elim
    (λ (x : IsUnknown s j × (effect ≡ quiet (learned s j u))). nothing effect (learned s j u) [] e x.1 put)
    (λ (x : (s.known j ≡ Some u) × (effect ≡ quiet s)). nothing effect s [] e x.1 put)
    how

single : (k : ℕ) → nat_eq k 1 ≡ true → k ≡ 1
single k is = grind (arith, nat_tests)

span_of_one : (j k i : ℕ) → nat_eq k 1 ≡ true → j ≡ i → IsInSpan j k i
span_of_one j k i one is = let k1 = single k one in (omega (arith, is), omega (arith, is, k1))

promise_requests : (q j k i : ℕ) (c d : BallotOf) → Raises (promise_of j k c) i d
    → Requests (Prepare q j c k) i d
promise_requests q j k i c d = by (nat_eq k 1) refl
  where
    by : (t : Bool) → nat_eq k 1 ≡ t → Raises (cond t (Promised j c) (PromisedSpan j k c)) i d
        → IsInSpan j k i × (c ≡ d)
    by true is r = (span_of_one j k i is r.0, r.1)
    by false is r = r

promise_no_vote : (j k i : ℕ) (c b : BallotOf) (u : Value) → promise_of j k c ≡ Voted i b u → ⊥
promise_no_vote j k i c b u = by (nat_eq k 1)
  where
    by : (t : Bool) → cond t (Promised j c) (PromisedSpan j k c) ≡ Voted i b u → ⊥
    by true e = cc
    by false e = cc

promise_no_floor : (j k : ℕ) (c : BallotOf) → floor_of (promise_of j k c ∷ []) ≡ 0
promise_no_floor j k c = by (nat_eq k 1)
  where
    by : (t : Bool) → floor_of (cond t (Promised j c) (PromisedSpan j k c) ∷ []) ≡ 0
    by true = refl
    by false = refl

pub put_requests : (m : Message) (e : Entry) (i : ℕ) (d : BallotOf) → IsPutBy m e → Raises e i d
    → Requests m i d
put_requests (Prepare q j c k) e i d put r = promise_requests q j k i c d (subst (λ x. Raises x i d) put r)
put_requests (Promise q j c prior) e i d put r = absurd put
put_requests (Propose q j c u) e i d put r = subst (λ x. Raises x i d) put r
put_requests (Accepted q j c u) e i d put r = absurd put
put_requests (Nack q j c x) e i d put r = absurd put
put_requests (Ask q j) e i d put r = absurd put
put_requests (Chosen q j u) e i d put r = absurd put

pub put_no_floor : (m : Message) (e : Entry) → IsPutBy m e → floor_of (e ∷ []) ≡ 0
put_no_floor (Prepare q j c k) e put = ap (λ x. floor_of (x ∷ [])) put ∙ promise_no_floor j k c
put_no_floor (Promise q j c prior) e put = absurd put
put_no_floor (Propose q j c u) e put = ap (λ x. floor_of (x ∷ [])) put
put_no_floor (Accepted q j c u) e put = absurd put
put_no_floor (Nack q j c x) e put = absurd put
put_no_floor (Ask q j) e put = absurd put
put_no_floor (Chosen q j u) e put = absurd put

-- the proposal that a vote is for
abbrev proposal_of : ℕ → Entry → Message
proposal_of q (Voted j c u) = Propose q j c u
proposal_of q e = Ask q 0

put_votes : (m : Message) (i : ℕ) (b : BallotOf) (u : Value) → IsPutBy m (Voted i b u)
    → (q : ℕ) × (m ≡ Propose q i b u)
put_votes (Prepare q j c k) i b u put = absurd (promise_no_vote j k i c b u (sym put))
put_votes (Promise q j c prior) i b u put = absurd put
put_votes (Propose q j c x) i b u put = (q, ap (proposal_of q) (sym put))
put_votes (Accepted q j c x) i b u put = absurd put
put_votes (Nack q j c x) i b u put = absurd put
put_votes (Ask q j) i b u put = absurd put
put_votes (Chosen q j x) i b u put = absurd put

-- ---- a server that is bound

module _ (n q i : ℕ) (b : BallotOf) (v : Value) where
  -- a request at the instance is at no higher ballot, and a proposal at this ballot is of the value
  pub record IsLow (m : Message) : Type 0 where
    pub below : (c : BallotOf) → Requests m i c → NotAbove c b
    pub same : (r : ℕ) (u : Value) → m ≡ Propose r i b u → u ≡ v

  -- the record has no higher ballot there, and at this ballot only votes for the value
  pub record IsBound (es : List Entry) : Type 0 where
    pub below : (e : Entry) (c : BallotOf) → In es e → Raises e i c → NotAbove c b
    pub votes : (u : Value) → In es (Voted i b u) → u ≡ v
    pub not_mute : ¬ (i ≤ floor_of es)

  bound_with : (es : List Entry) (m : Message) (e : Entry) → IsBound es → IsLow m → IsPutBy m e
      → IsBound (es ++ e ∷ [])
  bound_with es m e bound low put = record {
    below = λ x c k r. ⊎_elim (λ old. bound.below x c old r)
        (λ (new : e ≡ x). low.below c (put_requests m e i c put (subst (λ y. Raises y i c) (sym new) r)))
        (in_push es e x k);
    votes = λ u k. ⊎_elim (λ old. bound.votes u old)
        (λ (new : e ≡ Voted i b u). let made = put_votes m i b u (subst (IsPutBy m) new put) in
        low.same made.0 u made.1) (in_push es e (Voted i b u) k);
    not_mute = λ mute. bound.not_mute
        (let f = floor_of-push es e (put_no_floor m e put) in omega (arith, f, mute));
  }

  abbrev Bound : Node → List (To × Message) → Type 0
  Bound s l = IsBound s.entries

  pub bound_on : Keeps n q IsLow Bound
  bound_on s t before out m bound is low ends = by ends.effect.entry refl
    where
      by : (o : Option Entry) → ends.effect.entry ≡ o → IsBound t.entries
      by None none = subst IsBound (sym (ap (λ (x : Node). x.entries) ends.node
          ∙ ap (λ y. with_entry s.entries y) none)) bound
      by (Some e) put = subst IsBound (sym (ap (λ (x : Node). x.entries) ends.node
          ∙ ap (λ y. with_entry s.entries y) put)) (bound_with s.entries m e bound low
          (put_by n q (record s { reached = reached_by s.reached m }) m ends.effect e ends.does put))

  -- ---- its vote

  pub not_refused : (es : List Entry) (slot : Slot) (c : BallotOf) → IsBound es → IsSlot es i slot
      → slot.promised ≡ Some c → Below b c → ⊥
  not_refused es slot c bound is promised below =
      let p = subst (IsPromise es i) promised is.promise in
      below_not_above b c below (bound.below p.0.0 c p.0.1 p.0.2)

  voted_for : (es : List Entry) (x : Option Vote) → IsBound es → x ≡ last_vote i es → IsVotedAt x b
      → IsVotedFor x b v
  voted_for es None bound is at = absurd at
  voted_for es (Some w) bound is at = (
    at,
    bound.votes w.value (subst (λ c. In es (Voted i c w.value)) at (last_vote-in i es w (sym is))),
  )

  accepts : (es : List Entry) (slot after : Slot) (answer : Answer) → IsBound es → IsSlot es i slot
      → Steps slot (proposal b v) after answer → answer ≡ accepted
  accepts es slot after (promise prior) bound is step = absurd step
  accepts es slot after accepted bound is step = refl
  accepts es slot after (nack c) bound is step = absurd
      (not_refused es slot c bound is step.0.0 step.0.1)
  accepts es slot after no_answer bound is step = absurd (step.2
      (voted_for es slot.vote bound is.vote step.1))

  votes_now : (r : ℕ) (s t : Node) (out : List (To × Message)) → IsBound s.entries
      → EndsWhole n q s (deliver (Propose r i b v)) out t → out ≡ (All, Accepted q i b v) ∷ []
  votes_now r s t out bound ends =
      let there : Node = record s { reached = max s.reached i } in
      let how : OnPropose q there i b v ends.effect = heeds there i (OnPropose q there i b v ends.effect)
      ends.effect bound.not_mute ends.does in
      let yes = accepts s.entries how.slot how.after how.answer bound how.on_record how.step in
      ends.handed_out ∙ ap (λ (x : Effect). x.out) how.is ∙ ap (λ x. propose_out q i b v x) yes

  -- over all that waits
  pub voted : (r : ℕ) (d0 : List ℕ) → Spells n d0 (Propose r i b v) → (came : List (List ℕ)) (s t : Node)
      (malformed : ℕ) (out : List (To × Message)) → In came d0 → AreAllowed n q IsLow came
      → TakesEach n q came malformed out s t → IsBound s.entries → In out (All, Accepted q i b v)
  voted r d0 spells came s t malformed out here allowed takes bound =
      brought n q IsLow Bound (λ u l. In l (All, Accepted q i b v)) bound_on
      (λ u w before more m h is ok ends. (
        bound_on u w before more m h.0 is ok ends,
        in_left before more (All, Accepted q i b v) h.1,
      ))
      d0 (Propose r i b v) spells
      (λ u w before more h ends. in_right before more (All, Accepted q i b v)
      (subst (λ l. In l (All, Accepted q i b v)) (sym (votes_now r u w more h ends)) (inl refl)))
      came s t malformed [] out here allowed takes bound
