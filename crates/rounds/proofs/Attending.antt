-- A prepare that nobody overbids is promised, whatever else comes. What a step puts on record changes no
-- floor, and raises only what it was asked for.
use Rattle.std.proofs.Common.{◌≡◌, ◌≢◌, ◌⊎◌, inl, ⊎_elim, ℕ, suc, max, ◌+◌, ◌<◌, ◌≤◌, Option, Some, None}
use Rattle.std.proofs.Common.{List}
use Rattle.std.proofs.Common.{[], ◌∷◌, ◌++◌, length, refl, sym, ap, subst, ◌∙◌, arith}
use Rattle.std.specs.Prelude.{⊤}
use Rattle.site_ids.specs.Ids.{BallotOf, NotAbove}
use Rattle.site_ids.specs.Lists.{In}
use Rattle.site_ids.specs.Spans.{IsInSpan, last_of}
use Rattle.site_ids.specs.declared.value.Vote.{Vote}
use Rattle.site_ids.proofs.MemberLemmas.{in_left, in_right, in_push}
use Rattle.wire.specs.declared.message.Message.{Message}
use Rattle.wire.specs.declared.message.Message.TheVariants.{Prepare, Promise}
use Rattle.wire.specs.Decoding.{Spells}
use Rattle.acceptor.specs.declared.slot.Slot.{Slot}
use Rattle.acceptor.specs.Judging.{IsVotedAt}
use Rattle.acceptor.specs.Steps.{Answer, promise, accepted, nack, no_answer, prepare, Steps}
use Rattle.durable.specs.Entries.{Entry, Round, Voted, Learned, IsSlot, Raises, last_vote, floor_of}
use Rattle.durable.specs.Entries.{with_entry}
use Rattle.durable.proofs.Push.{floor_of-push}
use Rattle.node.specs.declared.to.To.{To}
use Rattle.node.specs.declared.to.To.TheVariants.{One}
use Rattle.node.specs.Nodes.{Value, Node}
use Rattle.node.specs.Effects.{Effect, quiet}
use Rattle.node.specs.Calls.{Call, submit, tick, widen, ask, tell, deliver, keep, Does, Ticks, AsksInstead}
use Rattle.node.specs.Calls.{Begins}
use Rattle.node.specs.Calls.{MayWiden, KeepsOne, MayKeep, fresh_ballot}
use Rattle.node.specs.Deliveries.{Judged, AreJudged, OnPrepare, span_out, prepare_out, reached_by}
use Rattle.node.specs.Endings.{EndsWhole}
use Rattle.node.proofs.OnRecord.{last_vote-in}
use Rattle.site_drive.specs.Batches.{TakesEach}
use Rattle.world.proofs.QuietAnswers.{heeds}
use Rattle.rounds.specs.Rounds.{Server, Steps as ServerSteps}
use Rattle.site_drive.specs.declared.last_call.LastCall.{LastCall}
use Rattle.site_drive.specs.declared.last_call.LastCall.TheVariants as last
use Rattle.rounds.specs.Proposing.{Requests}
use Rattle.rounds.proofs.Calling.{IsOf, all_called}
use Rattle.rounds.proofs.Delivering.{Keeps, AreAllowed, all_taken, brought}
use Rattle.rounds.proofs.Voting.{IsPutBy, IsLow, IsBound, bound_on, not_refused, put_by, put_no_floor}
use Rattle.rounds.proofs.Voting.{put_requests}

no_entry : (e : Entry) → ◌≡◌ {A = Option Entry} None (Some e) → ⊥
no_entry e x = cc

inside_entry : (a b : Entry) → Some a ≡ Some b → a ≡ b
inside_entry a b e = cc

-- ---- what a call puts on record

-- what it puts is such
abbrev PutsSuch : (Entry → Type 0) → Effect → Type 0
PutsSuch Such effect = (e : Entry) → effect.entry ≡ Some e → Such e

puts_none : (Such : Entry → Type 0) (effect : Effect) (t : Node) (out : List (To × Message))
    → effect ≡ record { entry = None; after = t; out = out } → PutsSuch Such effect
puts_none Such effect t out is e put = absurd (no_entry e (sym (ap (λ (x : Effect). x.entry) is) ∙ put))

puts_one : (Such : Entry → Type 0) (effect : Effect) (x : Entry) (t : Node) (out : List (To × Message))
    → Such x
    → effect ≡ record { entry = Some x; after = t; out = out } → PutsSuch Such effect
puts_one Such effect x t out such is e put = subst Such
    (inside_entry x e (sym (ap (λ (z : Effect). z.entry) is) ∙ put)) such

module _ (Such : Entry → Type 0) (round : (r : ℕ) → Such (Round r)) (kept : (i : ℕ) (v : Value)
    → Such (Learned i v))
  where
    -- if rounds and learned values are such, and what the message puts, where it is a delivery
    call_puts : (n p : ℕ) (s : Node) (call : Call) (effect : Effect)
        → ((m : Message) (e : Entry) → call ≡ deliver m → IsPutBy m e → Such e) → Does n p s call effect
        → PutsSuch Such effect
    call_puts n p s (submit v) effect by does = ⊎_elim (λ x. puts_none Such effect _ _ x.2)
        (λ x. puts_none Such effect _ _ x.3) does
    call_puts n p s tick effect by does =
        ⊎_elim
        (λ (x : Ticks p s effect). puts_one Such effect (Round (fresh_ballot p s).round) _ _
        (round (fresh_ballot p s).round) x.is)
        (λ (x : AsksInstead p s effect). puts_none Such effect s _ x.asks.is)
        does
    call_puts n p s widen effect by does =
        ⊎_elim
        (λ (x : Begins p s effect). puts_one Such effect (Round (fresh_ballot p s).round) _ _
        (round (fresh_ballot p s).round) x.is)
        (λ (x : (¬ MayWiden s) × (effect ≡ quiet s)). puts_none Such effect s [] x.1)
        does
    call_puts n p s ask effect by does = puts_none Such effect s _ does.is
    call_puts n p s (tell to i) effect by does = puts_none Such effect s _ does
    call_puts n p s (deliver m) effect by does = λ e put. by m e refl
        (put_by n p (record s { reached = reached_by s.reached m }) m effect e does put)
    call_puts n p s (keep i) effect by does =
        ⊎_elim
        (λ (x : KeepsOne s i effect). puts_one Such effect (Learned i x.value) s [] (kept i x.value) x.is)
        (λ (x : (¬ MayKeep s i) × (effect ≡ quiet s)). puts_none Such effect s [] x.1)
        does

-- ---- floors

abbrev IsNoFloor : Entry → Type 0
IsNoFloor e = floor_of (e ∷ []) ≡ 0

same_floor : (es : List Entry) (o : Option Entry) → ((e : Entry) → o ≡ Some e → floor_of (e ∷ []) ≡ 0)
    → floor_of (with_entry es o) ≡ floor_of es
same_floor es None none = refl
same_floor es (Some e) none = floor_of-push es e (none e refl)

pub floor_on : (n p : ℕ) (s t : Node) (call : Call) (out : List (To × Message)) → EndsWhole n p s call out t
    → floor_of t.entries ≡ floor_of s.entries
floor_on n p s t call out ends = ap (λ (x : Node). floor_of x.entries) ends.node
    ∙ same_floor s.entries ends.effect.entry (call_puts IsNoFloor (λ r. refl) (λ i v. refl) n p s call
    ends.effect
    (λ m e is put. put_no_floor m e put) ends.does)

abbrev any_message : Message → Type 0
any_message m = ⊤

abbrev any_call : Call → Type 0
any_call call = ⊤

pub step_floor : (n q : ℕ) (x y : Server) (letters : List (To × List ℕ)) → ServerSteps n q x y letters
    → floor_of y.node.entries ≡ floor_of x.node.entries
step_floor n q x y letters st =
    let w = st.batch.works in
    let floor = floor_of x.node.entries in
    let taken : floor_of w.mid.entries ≡ floor = all_taken n q any_message (λ s l. floor_of s.entries ≡ floor)
    (λ s t before out m h is may ends. floor_on n q s t (deliver m) out ends ∙ h)
    x.waits x.node w.mid st.malformed [] w.first (λ d m k spells. tt) w.takes refl in
    all_called n q (λ s l. floor_of s.entries ≡ floor) any_call
    (λ s t before out call may h ends. floor_on n q s t call out ends ∙ h)
    st.last w.mid y.node [] w.then (λ call is. tt) w.ends taken

-- ---- promises and votes

module _ (n q i : ℕ) (b : BallotOf) where
  -- an entry raises no higher ballot at the instance
  abbrev IsBelow : Entry → Type 0
  IsBelow e = (c : BallotOf) → Raises e i c → NotAbove c b

  abbrev AreBelow : Node → List (To × Message) → Type 0
  AreBelow s l = (e : Entry) (c : BallotOf) → In s.entries e → Raises e i c → NotAbove c b

  below_with : (es : List Entry) (o : Option Entry)
      → ((e : Entry) (c : BallotOf) → In es e → Raises e i c → NotAbove c b)
      → ((e : Entry) → o ≡ Some e → IsBelow e) → (e : Entry) (c : BallotOf) → In (with_entry es o) e
      → Raises e i c → NotAbove c b
  below_with es None old new e c k r = old e c k r
  below_with es (Some x) old new e c k r = ⊎_elim (λ h. old e c h r)
      (λ (same : x ≡ e). new x refl c (subst (λ y. Raises y i c) (sym same) r)) (in_push es x e k)

  below_on : (s t : Node) (before out : List (To × Message)) (call : Call)
      → ((m : Message) (c : BallotOf) → call ≡ deliver m → Requests m i c → NotAbove c b) → AreBelow s before
      → EndsWhole n q s call out t → AreBelow t (before ++ out)
  below_on s t before out call asks old ends e c k r =
      below_with s.entries ends.effect.entry old
      (call_puts IsBelow (λ r c none. absurd none) (λ i v c none. absurd none) n q s call ends.effect
      (λ m e is put c r. asks m c is (put_requests m e i c put r)) ends.does) e c
      (subst (λ (u : Node). In u.entries e) ends.node k) r

  no_delivery : (l : LastCall) (call : Call) (m : Message) → IsOf l call → call ≡ deliver m → ⊥
  no_delivery l call m is same = by l (subst (IsOf l) same is)
    where
      by : (l : LastCall) → IsOf l (deliver m) → ⊥
      by last.TickOrAsk h = h
      by last.Widen h = h
      by last.Ask h = h
      by (last.Tell r f) h = h
      by (last.Keep j k) h = h
      by last.Nothing h = h

  -- a step raises no higher ballot, if nothing that waits asks for one
  pub step_below : (x y : Server) (letters : List (To × List ℕ)) → ServerSteps n q x y letters
      → ((e : Entry) (c : BallotOf) → In x.node.entries e → Raises e i c → NotAbove c b)
      → ((bytes : List ℕ) (m : Message) (c : BallotOf) → In x.waits bytes → Spells n bytes m → Requests m i c
      → NotAbove c b)
      → (e : Entry) (c : BallotOf) → In y.node.entries e → Raises e i c → NotAbove c b
  step_below x y letters st old asks =
      let w = st.batch.works in
      let taken : AreBelow w.mid w.first = all_taken n q (λ m. (c : BallotOf) → Requests m i c → NotAbove c b)
      AreBelow
      (λ s t before out m h is may ends. below_on s t before out (deliver m)
      (λ k c same r. may c (subst (λ z. Requests z i c) (inside_deliver k m same) r)) h ends)
      x.waits x.node w.mid st.malformed [] w.first (λ d m k spells c r. asks d m c k spells r) w.takes old in
      all_called n q AreBelow (λ call. (m : Message) → call ≡ deliver m → ⊥)
      (λ s t before out call may h ends. below_on s t before out call (λ m c same r. absurd (may m same)) h
      ends)
      st.last w.mid y.node w.first w.then (λ call is m same. no_delivery st.last call m is same) w.ends taken
    where
      inside_deliver : (k m : Message) → deliver m ≡ deliver k → k ≡ m
      inside_deliver k m same = let e : m ≡ k = cc in sym e

-- ---- a promise

no_two : (u : Value) → u ≡ [] → u ≡ 0 ∷ [] → ⊥
no_two u a b = cc

module _ (n q i : ℕ) (b : BallotOf) where
  -- A request at the instance is at no higher ballot, and nothing is proposed at this one
  pub record IsPlain (m : Message) : Type 0 where
    pub first : IsLow n q i b [] m
    pub second : IsLow n q i b (0 ∷ []) m

  -- the record has no higher ballot there, and no vote at this one, which would be for two values
  pub record IsFree (floor : ℕ) (s : Node) : Type 0 where
    pub first : IsBound n q i b [] s.entries
    pub second : IsBound n q i b (0 ∷ []) s.entries
    pub floor_is : floor_of s.entries ≡ floor

  unvoted : (floor : ℕ) (s : Node) (x : Option Vote) → IsFree floor s → x ≡ last_vote i s.entries
      → IsVotedAt x b → ⊥
  unvoted floor s None free is at = absurd at
  unvoted floor s (Some w) free is at =
      let k = subst (λ c. In s.entries (Voted i c w.value)) at (last_vote-in i s.entries w (sym is)) in
      no_two w.value (free.first.votes w.value k) (free.second.votes w.value k)

  answers : (floor : ℕ) (s : Node) (slot after : Slot) (answer : Answer) → IsFree floor s
      → IsSlot s.entries i slot → Steps slot (prepare b) after answer
      → (prior : Option Vote) × (answer ≡ promise prior)
  answers floor s slot after (promise prior) free is step = (prior, refl)
  answers floor s slot after accepted free is step = absurd step
  answers floor s slot after (nack c) free is step = absurd (not_refused n q i b [] s.entries slot c
      free.first is
      step.0.0 step.0.1)
  answers floor s slot after no_answer free is step = absurd (unvoted floor s slot.vote free is.vote step.1)

  equal_or : (j k : ℕ) → (j ≡ k) ⊎ (j ≢ k)
  equal_or j k = grind arith

  higher : (j k : ℕ) → j ≤ k → j ≢ k → suc j ≤ k
  higher j k low apart = grind arith

  -- one of the answers to a span
  span_promises : (floor : ℕ) (s : Node) (j : ℕ) (xs : List Judged) → IsFree floor s
      → AreJudged s.entries b j xs
      → j ≤ i → i < j + length xs → (prior : Option Vote) × In (span_out q j b xs) (
        One b.node,
        Promise q i b
            prior,
      )
  span_promises floor s j [] free each low high = absurd (omega (arith, low, high))
  span_promises floor s j (x ∷ xs) free each low high =
      ⊎_elim
      (λ (e : j ≡ i).
      let is = subst (λ k. IsSlot s.entries k x.slot) e each.0 in
      let answer = answers floor s x.slot x.after x.answer free is each.1 in
      let here : In (prepare_out q i b x.answer) (One b.node, Promise q i b answer.0)
      = subst (λ y. In (prepare_out q i b y) (One b.node, Promise q i b answer.0)) (sym answer.1) (inl refl)
      in (
        answer.0,
        in_left (prepare_out q j b x.answer) (span_out q (suc j) b xs) (One b.node, Promise q i b answer.0)
            (subst (λ k. In (prepare_out q k b x.answer) (One b.node, Promise q i b answer.0)) (sym e) here),
      ))
      (λ (apart : j ≢ i).
      let rest = span_promises floor s (suc j) xs free each.2 (higher j i low apart)
      (omega (arith, high)) in (
        rest.0,
        in_right (prepare_out q j b x.answer) (span_out q (suc j) b xs)
            (One b.node, Promise q i b rest.0) rest.1,
      ))
      (equal_or j i)

  promises_now : (floor r j k : ℕ) (s t : Node) (out : List (To × Message)) → IsFree floor s → ¬ (j ≤ floor)
      → IsInSpan j k i → EndsWhole n q s (deliver (Prepare r j b k)) out t
      → (prior : Option Vote) × In out (One b.node, Promise q i b prior)
  promises_now floor r j k s t out free not_mute span ends =
      let there : Node = record s { reached = max s.reached (last_of j k) } in
      let how : OnPrepare q there j b k ends.effect = heeds there j (OnPrepare q there j b k ends.effect)
      ends.effect (λ mute. not_mute (let f = free.floor_is in omega (arith, f, mute))) ends.does in
      let long = how.counted in
      let high = span.1 in
      let said = span_promises floor s j how.judged free how.each span.0 (omega (arith, long, high)) in (
        said.0,
        subst (λ l. In l (One b.node, Promise q i b said.0))
            (sym (ends.handed_out ∙ ap (λ (x : Effect). x.out) how.is)) said.1,
      )

  free_on : (floor : ℕ) → Keeps n q IsPlain (λ s l. IsFree floor s)
  free_on floor s t before out m free is plain ends = record {
    first = bound_on n q i b [] s t before out m free.first is plain.first ends;
    second = bound_on n q i b (0 ∷ []) s t before out m free.second is plain.second ends;
    floor_is = floor_on n q s t (deliver m) out ends ∙ free.floor_is;
  }

  -- over all that waits
  pub promised : (floor r j k : ℕ) (d0 : List ℕ) → Spells n d0 (Prepare r j b k) → ¬ (j ≤ floor)
      → IsInSpan j k i
      → (came : List (List ℕ)) (s t : Node) (malformed : ℕ) (out : List (To × Message)) → In came d0
      → AreAllowed n q IsPlain came → TakesEach n q came malformed out s t → IsFree floor s
      → (prior : Option Vote) × In out (One b.node, Promise q i b prior)
  promised floor r j k d0 spells not_mute span came s t malformed out here allowed takes free =
      brought n q IsPlain (λ u l. IsFree floor u)
      (λ u l. (prior : Option Vote) × In l (One b.node, Promise q i b prior)) (free_on floor)
      (λ u w before more m h is ok ends. (
        free_on floor u w before more m h.0 is ok ends,
        (h.1.0, in_left before more (One b.node, Promise q i b h.1.0) h.1.1),
      ))
      d0 (Prepare r j b k) spells
      (λ u w before more h ends. let said = promises_now floor r j k u w more h not_mute span ends in
      (said.0, in_right before more (One b.node, Promise q i b said.0) said.1))
      came s t malformed [] out here allowed takes free
