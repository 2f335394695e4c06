-- What is asked of a server that is not mute there is on its record afterwards, or a higher ballot is.
use Rattle.std.proofs.Common.{◌≡◌, ◌≢◌, ◌⊎◌, inl, inr, ⊎_elim, ℕ, suc, max, ◌+◌, ◌<◌, ◌≤◌, Bool, true, false}
use Rattle.std.proofs.Common.{cond}
use Rattle.std.proofs.Common.{Option, Some, None, List, [], ◌∷◌, ◌++◌, length, refl, sym, ap, subst, ◌∙◌}
use Rattle.std.proofs.Common.{arith}
use Rattle.std.specs.Prelude.{nat_eq, ⊤}
use Rattle.std.proofs.lemmas.Bool.Decides.{nat_tests}
use Rattle.site_ids.specs.Ids.{BallotOf, NotAbove}
use Rattle.site_ids.specs.Lists.{In}
use Rattle.site_ids.specs.Spans.{IsInSpan, last_of}
use Rattle.site_ids.specs.declared.value.Vote.{Vote}
use Rattle.site_ids.proofs.MemberLemmas.{in_left, in_last}
use Rattle.wire.specs.declared.message.Message.{Message}
use Rattle.wire.specs.declared.message.Message.TheVariants.{Prepare, Promise, Propose, Accepted, Nack, Ask}
use Rattle.wire.specs.declared.message.Message.TheVariants.{Chosen}
use Rattle.wire.specs.Decoding.{Spells}
use Rattle.wire.specs.Messages.{instance_of}
use Rattle.acceptor.specs.declared.slot.Slot.{Slot}
use Rattle.acceptor.specs.Judging.{IsVotedAt, IsVotedFor}
use Rattle.acceptor.specs.Steps.{Answer, promise, accepted, nack, no_answer, prepare, proposal, Steps}
use Rattle.durable.specs.Entries.{Entry, Promised, PromisedSpan, Voted, Raises, IsPromise, IsSlot, last_vote}
use Rattle.durable.specs.Entries.{promise_of, floor_of, with_entry}
use Rattle.node.specs.declared.to.To.{To}
use Rattle.node.specs.Nodes.{Value, Node}
use Rattle.node.specs.Effects.{Effect}
use Rattle.node.specs.Calls.{Call, deliver}
use Rattle.node.specs.Deliveries.{Judged, AreJudged, RecordsAny, Records, OnPrepare, OnPropose}
use Rattle.node.specs.Endings.{EndsWhole}
use Rattle.node.proofs.OnRecord.{last_vote-in}
use Rattle.world.proofs.Order.{below_is_not_above, not_above_itself}
use Rattle.world.proofs.QuietAnswers.{heeds}
use Rattle.rounds.specs.Rounds.{Server, Steps as ServerSteps}
use Rattle.rounds.specs.Proposing.{Requests, RequestsAreHeeded}
use Rattle.rounds.proofs.Attending.{floor_on}
use Rattle.rounds.proofs.Calling.{all_called}
use Rattle.rounds.proofs.Delivering.{brought}

single : (k : ℕ) → nat_eq k 1 ≡ true → k ≡ 1
single k is = grind (arith, nat_tests)

equal_or : (j k : ℕ) → (j ≡ k) ⊎ (j ≢ k)
equal_or j k = grind arith

higher : (j k : ℕ) → j ≤ k → j ≢ k → suc j ≤ k
higher j k low apart = grind arith

-- the entry of a promise raises its ballot at each of its instances
promise_raises : (j k i : ℕ) (b : BallotOf) → IsInSpan j k i → Raises (promise_of j k b) i b
promise_raises j k i b span = by (nat_eq k 1) refl
  where
    by : (t : Bool) → nat_eq k 1 ≡ t → Raises (cond t (Promised j b) (PromisedSpan j k b)) i b
    by true is = let one = single k is in let low = span.0 in let high = span.1 in
        (omega (arith, one, low, high), refl)
    by false is = (span, refl)

-- an entry that is there stays
pub entries_stay : (n p : ℕ) (s t : Node) (call : Call) (out : List (To × Message)) (e : Entry)
    → EndsWhole n p s call out t → In s.entries e → In t.entries e
entries_stay n p s t call out e ends k = subst (λ (u : Node). In u.entries e) (sym ends.node)
    (by ends.effect.entry)
  where
    by : (o : Option Entry) → In (with_entry s.entries o) e
    by None = k
    by (Some x) = in_left s.entries (x ∷ []) e k

module _ (n q i : ℕ) (b : BallotOf) where
  -- this ballot is on record at the instance, or a higher one
  abbrev pub HasIt : List Entry → Type 0
  HasIt es = (e : Entry) × (c : BallotOf) × In es e × Raises e i c × NotAbove b c

  by_promise : (es : List Entry) (slot : Slot) (c : BallotOf) → IsSlot es i slot → slot.promised ≡ Some c
      → NotAbove b c → HasIt es
  by_promise es slot c is promised high =
      let p = subst (IsPromise es i) promised is.promise in
      (p.0.0, c, p.0.1, p.0.2, high)

  with_more : (es : List Entry) (x : Entry) → HasIt es → HasIt (es ++ x ∷ [])
  with_more es x h = (h.0, h.1, in_left es (x ∷ []) h.0 h.2, h.3, h.4)

  itself : NotAbove b b
  itself = not_above_itself b

  -- a prepare that changes nothing finds it there
  of_prepare : (es : List Entry) (slot after : Slot) (answer : Answer) → IsSlot es i slot
      → Steps slot (prepare b) after answer → (after ≡ slot) → HasIt es
  of_prepare es slot after (promise prior) is step same =
      ⊎_elim
      (λ x. by_promise es slot b is (ap (λ (s : Slot). s.promised) (sym same ∙ x.1)) itself)
      (λ x. by_promise es slot b is x.0 itself)
      step.1
  of_prepare es slot after accepted is step same = absurd step
  of_prepare es slot after (nack c) is step same = by_promise es slot c is step.0.0
      (below_is_not_above b c step.0.1)
  of_prepare es slot after no_answer is step same = by_promise es slot b is step.0 itself

  -- of a span
  judged_at : (es : List Entry) (j : ℕ) (xs : List Judged) → AreJudged es b j xs → j ≤ i → i < j + length xs
      → (x : Judged) × In xs x × IsSlot es i x.slot × Steps x.slot (prepare b) x.after x.answer
  judged_at es j [] each low high = absurd (omega (arith, low, high))
  judged_at es j (x ∷ xs) each low high =
      ⊎_elim
      (λ (e : j ≡ i). (x, inl refl, subst (λ k. IsSlot es k x.slot) e each.0, each.1))
      (λ (apart : j ≢ i).
      let rest = judged_at es (suc j) xs each.2 (higher j i low apart) (omega (arith, high)) in
      (rest.0, inr rest.1, rest.2, rest.3))
      (equal_or j i)

  on_prepare : (j k : ℕ) (s : Node) (effect : Effect) → IsInSpan j k i → OnPrepare q s j b k effect
      → HasIt (with_entry s.entries effect.entry)
  on_prepare j k s effect span how =
      let long = how.counted in
      let low = span.0 in
      let high = span.1 in
      let x = judged_at s.entries j how.judged how.each low (omega (arith, long, high)) in
      subst (λ o. HasIt (with_entry s.entries o)) (sym (ap (λ (y : Effect). y.entry) how.is))
      (by how.entry how.records x)
    where
      by : (o : Option Entry) → RecordsAny how.judged (promise_of j k b) o
          → ((x : Judged) × In how.judged x × IsSlot s.entries i x.slot
          × Steps x.slot (prepare b) x.after x.answer)
          → HasIt (with_entry s.entries o)
      by None records x = of_prepare s.entries x.0.slot x.0.after x.0.answer x.2 x.3 (records x.0 x.1)
      by (Some e) records x = (
        e,
        b,
        in_last s.entries e,
        subst (λ y. Raises y i b) (sym records.1) (promise_raises j k i b span),
        itself,
      )

  voted_it : (es : List Entry) (x : Option Vote) → x ≡ last_vote i es → IsVotedAt x b → HasIt es
  voted_it es None is at = absurd at
  voted_it es (Some w) is at = (
    Voted i w.ballot w.value,
    w.ballot,
    last_vote-in i es w (sym is),
    (refl, refl),
    subst (NotAbove b) (sym at) itself,
  )

  at_ballot : (v : Value) (x : Option Vote) → IsVotedFor x b v → IsVotedAt x b
  at_ballot v None h = absurd h
  at_ballot v (Some w) h = h.0

  on_propose : (v : Value) (s : Node) (effect : Effect) → OnPropose q s i b v effect
      → HasIt (with_entry s.entries effect.entry)
  on_propose v s effect how = subst (λ o. HasIt (with_entry s.entries o))
      (sym (ap (λ (y : Effect). y.entry) how.is)) (by how.entry how.records how.answer how.step)
    where
      by : (o : Option Entry) → Records how.slot how.after (Voted i b v) o → (reply : Answer)
          → Steps how.slot (proposal b v) how.after reply → HasIt (with_entry s.entries o)
      by (Some e) records reply step = (
        e,
        b,
        in_last s.entries e,
        subst (λ y. Raises y i b) (sym records.1) (refl, refl),
        itself,
      )
      by None records (promise prior) step = absurd step
      by None records accepted step =
          ⊎_elim
          (λ x. by_promise s.entries how.slot b how.on_record
          (ap (λ (y : Slot). y.promised) (sym records ∙ x.1)) itself)
          (λ x. voted_it s.entries how.slot.vote how.on_record.vote (at_ballot v how.slot.vote x.0))
          step.1
      by None records (nack c) step = by_promise s.entries how.slot c how.on_record step.0.0
          (below_is_not_above b c step.0.1)
      by None records no_answer step = voted_it s.entries how.slot.vote how.on_record.vote step.1

  -- ---- a request

  heeded_now : (m : Message) (s t : Node) (out : List (To × Message)) → Requests m i b
      → ¬ (instance_of m ≤ floor_of s.entries) → EndsWhole n q s (deliver m) out t → HasIt t.entries
  heeded_now (Prepare r j c k) s t out asks not_mute ends =
      let there : Node = record s { reached = max s.reached (last_of j k) } in
      let how : OnPrepare q there j c k ends.effect = heeds there j (OnPrepare q there j c k ends.effect)
      ends.effect not_mute ends.does in
      subst (λ (u : Node). HasIt u.entries) (sym ends.node)
      (on_prepare j k there ends.effect asks.0
      (subst (λ x. OnPrepare q there j x k ends.effect) asks.1 how))
  heeded_now (Promise r j c prior) s t out asks not_mute ends = absurd asks
  heeded_now (Propose r j c v) s t out asks not_mute ends =
      let there : Node = record s { reached = max s.reached j } in
      let how : OnPropose q there j c v ends.effect = heeds there j (OnPropose q there j c v ends.effect)
      ends.effect not_mute ends.does in
      subst (λ (u : Node). HasIt u.entries) (sym ends.node)
      (on_propose v there ends.effect
      (subst (λ k. OnPropose q there k b v ends.effect) asks.0
      (subst (λ x. OnPropose q there j x v ends.effect) asks.1 how)))
  heeded_now (Accepted r j c v) s t out asks not_mute ends = absurd asks
  heeded_now (Nack r j c e) s t out asks not_mute ends = absurd asks
  heeded_now (Ask r j) s t out asks not_mute ends = absurd asks
  heeded_now (Chosen r j v) s t out asks not_mute ends = absurd asks

  abbrev any_message : Message → Type 0
  any_message m = ⊤

  abbrev any_call : Call → Type 0
  any_call call = ⊤

  has_on : (s t : Node) (call : Call) (out : List (To × Message)) → EndsWhole n q s call out t
      → HasIt s.entries
      → HasIt t.entries
  has_on s t call out ends h = (h.0, h.1, entries_stay n q s t call out h.0 ends h.2, h.3, h.4)

  heeded : (x y : Server) (letters : List (To × List ℕ)) → ServerSteps n q x y letters → (bytes : List ℕ)
      (m : Message) → In x.waits bytes → Spells n bytes m → Requests m i b
      → ¬ (instance_of m ≤ floor_of x.node.entries) → HasIt y.node.entries
  heeded x y letters st bytes m here spells asks not_mute =
      let w = st.batch.works in
      let floor = floor_of x.node.entries in
      let taken : HasIt w.mid.entries = brought n q any_message (λ s l. floor_of s.entries ≡ floor)
      (λ s l. HasIt s.entries)
      (λ s t before out k h is may ends. floor_on n q s t (deliver k) out ends ∙ h)
      (λ s t before out k h is may ends. (
        floor_on n q s t (deliver k) out ends ∙ h.0,
        has_on s t (deliver k) out ends h.1,
      ))
      bytes m spells
      (λ s t before out h ends. heeded_now m s t out asks
      (λ mute. not_mute (subst (λ f. instance_of m ≤ f) h mute)) ends)
      x.waits x.node w.mid st.malformed [] w.first here (λ d k t s. tt) w.takes refl in
      all_called n q (λ s l. HasIt s.entries) any_call
      (λ s t before out call may h ends. has_on s t call out ends h)
      st.last w.mid y.node w.first w.then (λ call is. tt) w.ends taken

pub requests_are_heeded : RequestsAreHeeded
requests_are_heeded n d i b g h round q here bytes m waits spells asks not_mute = heeded n q i b (g q) (h q)
    (round.letters q) (round.steps q here) bytes m waits spells asks not_mute
