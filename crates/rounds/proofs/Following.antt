-- What a call puts on record may follow what is there.
use Rattle.std.proofs.Common.{◌≡◌, ◌≢◌, ◌⊎◌, ⊎_elim, ℕ, suc, ◌+◌, ◌<◌, ◌≤◌, Bool, true, false}
use Rattle.std.proofs.Common.{cond, max, Option, Some, None, List, [], ◌∷◌, length, refl, sym, ap, subst, ◌∙◌}
use Rattle.std.proofs.Common.{arith}
use Rattle.std.specs.Prelude.{nat_eq}
use Rattle.std.proofs.lemmas.Bool.Decides.{nat_tests}
use Rattle.site_ids.specs.Ids.{BallotOf, IsInstance, IsBallot, NotAbove}
use Rattle.site_ids.specs.Lists.{In}
use Rattle.site_ids.specs.Spans.{IsSpan}
use Rattle.site_ids.specs.declared.value.Vote.{Vote}
use Rattle.wire.specs.declared.message.Message.{Message}
use Rattle.wire.specs.declared.message.Message.TheVariants.{Prepare, Promise, Propose, Accepted, Nack, Ask}
use Rattle.wire.specs.declared.message.Message.TheVariants.{Chosen}
use Rattle.wire.specs.Messages.{IsMessage}
use Rattle.acceptor.specs.declared.slot.Slot.{Slot}
use Rattle.acceptor.specs.Judging.{IsFreeBelow, IsFreeAt, IsVotedAt}
use Rattle.acceptor.specs.Steps.{Answer, promise, accepted, nack, no_answer, prepare, proposal, Steps}
use Rattle.durable.specs.Entries.{Entry, Round, Promised, PromisedSpan, Voted, Learned, Raises, IsPromise}
use Rattle.durable.specs.Entries.{last_round, promise_of}
use Rattle.durable.specs.Histories.{MayFollow, IsAbove}
use Rattle.node.specs.Nodes.{Value, Node, IsKnown, IsUnknown, IsMute}
use Rattle.node.specs.Effects.{Effect, quiet, says, learned}
use Rattle.node.specs.Calls.{Call, submit, tick, widen, ask, tell, deliver, keep, Does, HasRound}
use Rattle.node.specs.Calls.{fresh_ballot}
use Rattle.node.specs.Calls.{Ticks, AsksInstead, Begins, MayWiden, KeepsOne, MayKeep, queued}
use Rattle.node.specs.Tickets.{IsCommand, IsHeld}
use Rattle.node.specs.declared.to.To.{To}
use Rattle.node.specs.declared.to.To.TheVariants.{One}
use Rattle.site_ids.specs.declared.TheConstants.{MAX_PENDING}
use Rattle.node.specs.Deliveries.{Judged, AreJudged, RecordsAny, Records, OnPrepare, OnPropose, UnlessMute}
use Rattle.node.specs.Deliveries.{ByKind, reached_by, with_vote, promise_out, Counted}
use Rattle.node.specs.Ranges.{HasRanges, IsCallInRange}
use Rattle.learner.specs.ToldVotes.{told_vote, HasMajority}
use Rattle.world.proofs.Order.{below_trans, not_above_trans}

no_entry : (e : Entry) → ◌≡◌ {A = Option Entry} None (Some e) → ⊥
no_entry e x = cc

inside_entry : (a b : Entry) → Some a ≡ Some b → a ≡ b
inside_entry a b e = cc

-- an entry that is put may follow those on record, and what is in flight stays so
pub record Follows (n : ℕ) (s : Node) (effect : Effect) : Type 0 where
  pub may : (e : Entry) → effect.entry ≡ Some e → MayFollow n s.entries e
  pub flight : effect.after.in_flight ≡ s.in_flight

none_follows : (n : ℕ) (s : Node) (effect : Effect) (t : Node) (out : List (To × Message))
    → effect ≡ record { entry = None; after = t; out = out } → t.in_flight ≡ s.in_flight → Follows n s effect
none_follows n s effect t out is same = record {
  may = λ e put. absurd (no_entry e (sym (ap (λ (x : Effect). x.entry) is) ∙ put));
  flight = ap (λ (x : Effect). x.after.in_flight) is ∙ same;
}

one_follows : (n : ℕ) (s : Node) (effect : Effect) (x : Entry) (t : Node) (out : List (To × Message))
    → effect ≡ record { entry = Some x; after = t; out = out } → t.in_flight ≡ s.in_flight
    → MayFollow n s.entries x → Follows n s effect
one_follows n s effect x t out is same may = record {
  may = λ e put. subst (MayFollow n s.entries) (inside_entry x e (sym (ap (λ (y : Effect). y.entry) is)
      ∙ put))
      may;
  flight = ap (λ (y : Effect). y.after.in_flight) is ∙ same;
}

-- ---- ballots

-- a ballot above the promise is above each that was raised there
above_all : (es : List Entry) (i : ℕ) (o : Option BallotOf) (b : BallotOf) → IsPromise es i o
    → IsFreeBelow o b
    → IsAbove es i b
above_all es i None b none free e c k r = absurd (none e c k r)
above_all es i (Some top) b is free e c k r = below_trans c top b (is.1 e c k r) free

none_above : (es : List Entry) (i : ℕ) (o : Option BallotOf) (b : BallotOf) → IsPromise es i o → IsFreeAt o b
    → (e : Entry) (c : BallotOf) → In es e → Raises e i c → NotAbove c b
none_above es i None b none free e c k r = absurd (none e c k r)
none_above es i (Some top) b is free e c k r = not_above_trans c top b (is.1 e c k r) free

-- a prepare that changes the slot is above its promise
freed : (s after : Slot) (b : BallotOf) (answer : Answer) → Steps s (prepare b) after answer → after ≢ s
    → IsFreeBelow s.promised b
freed s after b (promise prior) step apart = ⊎_elim (λ x. x.0) (λ x. absurd (apart x.2)) step.1
freed s after b accepted step apart = absurd step
freed s after b (nack c) step apart = absurd (apart step.1)
freed s after b no_answer step apart = absurd (apart step.2)

-- a proposal that changes the slot is below no promise, and its ballot is not that of the last vote
voted_so : (s after : Slot) (b : BallotOf) (v : Value) (answer : Answer) → Steps s (proposal b v) after answer
    → after ≢ s → IsFreeAt s.promised b × ¬ IsVotedAt s.vote b
voted_so s after b v (promise prior) step apart = absurd step
voted_so s after b v accepted step apart = ⊎_elim (λ x. (step.0, x.0)) (λ x. absurd (apart x.1)) step.1
voted_so s after b v (nack c) step apart = absurd (apart step.1)
voted_so s after b v no_answer step apart = absurd (apart step.3)

other_ballot : (o : Option Vote) (b : BallotOf) (vote : Vote) → ¬ IsVotedAt o b → o ≡ Some vote
    → vote.ballot ≢ b
other_ballot o b vote none is same = none (subst (λ x. IsVotedAt x b) (sym is) same)

-- ---- a prepare

-- if an instance of a span changes, the ballot is above all that was raised there
changed_at : (es : List Entry) (b : BallotOf) (i : ℕ) (xs : List Judged) (x : Judged) → AreJudged es b i xs
    → In xs x → x.after ≢ x.slot → (j : ℕ) × (i ≤ j) × (j < i + length xs) × IsAbove es j b
changed_at es b i [] x each k apart = absurd k
changed_at es b i (y ∷ xs) x each k apart =
    ⊎_elim
    (λ (same : y ≡ x).
    let other : y.after ≢ y.slot = subst (λ (z : Judged). z.after ≢ z.slot) (sym same) apart in (
      i,
      omega arith,
      omega arith,
      above_all es i y.slot.promised b each.0.promise (freed y.slot y.after b y.answer each.1 other),
    ))
    (λ later.
    let r = changed_at es b (suc i) xs x each.2 later apart in
    let low = r.1 in
    let high = r.2 in
    (r.0, omega (arith, low), omega (arith, high), r.3))
    k

single : (k : ℕ) → nat_eq k 1 ≡ true → k ≡ 1
single k is = grind (arith, nat_tests)

several : (k : ℕ) → 1 ≤ k → nat_eq k 1 ≡ false → 2 ≤ k
several k some is = grind (arith, nat_tests)

promise_follows : (n : ℕ) (es : List Entry) (i k : ℕ) (b : BallotOf) → IsInstance i → IsSpan i k
    → IsBallot n b
    → (j : ℕ) → i ≤ j → j < i + k → IsAbove es j b → MayFollow n es (promise_of i k b)
promise_follows n es i k b instance span ballot j low high above = by (nat_eq k 1) refl
  where
    by : (t : Bool) → nat_eq k 1 ≡ t → MayFollow n es (cond t (Promised i b) (PromisedSpan i k b))
    by true is =
        let one = single k is in
        let same : j ≡ i = omega (arith, low, high, one) in
        record { in_range = (instance, ballot); advances = subst (λ m. IsAbove es m b) same above }
    by false is = record {
      in_range = (several k span.0 is, span, ballot);
      advances = (j, (low, high), above);
    }

on_prepare : (n p : ℕ) (s : Node) (q i : ℕ) (b : BallotOf) (k : ℕ) (effect : Effect)
    → IsMessage n (Prepare q i b k) → OnPrepare p s i b k effect → Follows n s effect
on_prepare n p s q i b k effect is how = record {
  may = λ e put. by e how.entry how.records (sym (ap (λ (x : Effect). x.entry) how.is) ∙ put);
  flight = ap (λ (x : Effect). x.after.in_flight) how.is;
}
  where
    by : (e : Entry) (o : Option Entry) → RecordsAny how.judged (promise_of i k b) o → o ≡ Some e
        → MayFollow n s.entries e
    by e None records none = absurd (no_entry e none)
    by e (Some x) records some =
        let at = changed_at s.entries b i how.judged records.0.0 how.each records.0.1 records.0.2 in
        let high = at.2 in
        let long = how.counted in
        subst (MayFollow n s.entries) (sym records.1 ∙ inside_entry x e some)
        (promise_follows n s.entries i k b is.instance is.fits is.ballots at.0 at.1 (omega (
          arith,
          high,
          long,
        ))
        at.3)

-- ---- a proposal

on_propose : (n p : ℕ) (s : Node) (q i : ℕ) (b : BallotOf) (v : Value) (effect : Effect)
    → IsMessage n (Propose q i b v) → OnPropose p s i b v effect → Follows n s effect
on_propose n p s q i b v effect is how = record {
  may = λ e put. by e how.entry how.records (sym (ap (λ (x : Effect). x.entry) how.is) ∙ put);
  flight = ap (λ (x : Effect). x.after.in_flight) how.is;
}
  where
    by : (e : Entry) (o : Option Entry) → Records how.slot how.after (Voted i b v) o → o ≡ Some e
        → MayFollow n s.entries e
    by e None records none = absurd (no_entry e none)
    by e (Some x) records some =
        let so = voted_so how.slot how.after b v how.answer how.step records.0 in
        subst (MayFollow n s.entries) (sym records.1 ∙ inside_entry x e some) (record {
          in_range = (is.instance, is.ballots, is.fits);
          advances = (
            none_above s.entries i how.slot.promised b how.on_record.promise so.0,
            λ vote last. other_ballot how.slot.vote b vote so.1 (how.on_record.vote ∙ last),
          );
        })

-- ---- deliveries

unless_mute : (n : ℕ) (s : Node) (i : ℕ) (Answers : Type 0) (effect : Effect) → (Answers → Follows n s effect)
    → UnlessMute s i Answers effect → Follows n s effect
unless_mute n s i Answers effect so how = ⊎_elim
    (λ (x : IsMute s i × (effect ≡ quiet s)). none_follows n s effect s [] x.1 refl)
    (λ (x : (¬ IsMute s i) × Answers). so x.1) how

on_message : (n p : ℕ) (s : Node) (m : Message) (effect : Effect) → IsMessage n m → ByKind n p s m effect
    → Follows n s effect
on_message n p s (Prepare q i b k) effect is how = unless_mute n s i (OnPrepare p s i b k effect) effect
    (λ x. on_prepare n p s q i b k effect is x) how
on_message n p s (Promise q i b prior) effect is how = none_follows n s effect
    (record s { attempts = how.attempts }) (promise_out p i b how.proposed) how.is refl
on_message n p s (Propose q i b v) effect is how = unless_mute n s i (OnPropose p s i b v effect) effect
    (λ x. on_propose n p s q i b v effect is x) how
on_message n p s (Accepted q i b v) effect is how =
    let t = told_vote q i b v in
    ⊎_elim
    (λ (x : IsUnknown s i × Counted n (with_vote s t) i b v effect).
    ⊎_elim
    (λ (y : (¬ HasMajority n (In (with_vote s t).votes) i b v) × (effect ≡ quiet (with_vote s t))).
    none_follows n s effect (with_vote s t) [] y.1 refl)
    (λ (y : HasMajority n (In (with_vote s t).votes) i b v
    × (effect ≡ quiet (learned (with_vote s t) i v))).
    none_follows n s effect (learned (with_vote s t) i v) [] y.1 refl)
    x.1)
    (λ (x : IsKnown s i × (effect ≡ quiet s)). none_follows n s effect s [] x.1 refl)
    how
on_message n p s (Nack q i b c) effect is how = none_follows n s effect
    (record s { heard = max s.heard c.round }) [] how refl
on_message n p s (Ask q i) effect is how =
    ⊎_elim
    (λ (x : (v : Value) × (s.known i ≡ Some v) × (effect ≡ says s (One q) (Chosen p i v))).
    none_follows n s effect s ((One q, Chosen p i x.0) ∷ []) x.2 refl)
    (λ (x : IsUnknown s i × (effect ≡ quiet s)). none_follows n s effect s [] x.1 refl)
    how
on_message n p s (Chosen q i v) effect is how =
    ⊎_elim
    (λ (x : IsUnknown s i × (effect ≡ quiet (learned s i v))). none_follows n s effect (learned s i v) [] x.1
    refl)
    (λ (x : (s.known i ≡ Some v) × (effect ≡ quiet s)). none_follows n s effect s [] x.1 refl)
    how

-- ---- all calls

round_follows : (n p : ℕ) (s : Node) → HasRound s → MayFollow n s.entries (Round (fresh_ballot p s).round)
round_follows n p s round = record {
  in_range = (some (last_round s.entries) s.heard, round);
  advances = over (last_round s.entries) s.heard;
}
  where
    some : (a b : ℕ) → 0 < suc (max a b)
    some a b = omega arith

    over : (a b : ℕ) → a < suc (max a b)
    over a b = omega arith

pub call_follows : (n p : ℕ) (s : Node) (call : Call) (effect : Effect) → HasRanges n s → IsCallInRange n call
    → Does n p s call effect → Follows n s effect
call_follows n p s (submit v) effect ranges is does =
    ⊎_elim
    (λ (x : IsCommand v × IsHeld s v × (effect ≡ quiet s)). none_follows n s effect s [] x.2 refl)
    (λ (x : IsCommand v × (¬ IsHeld s v) × (length s.pending < MAX_PENDING) × (effect ≡ quiet (queued s v))).
    none_follows n s effect (queued s v) [] x.3 refl)
    does
call_follows n p s tick effect ranges is does =
    ⊎_elim
    (λ (x : Ticks p s effect). one_follows n s effect (Round (fresh_ballot p s).round) _ _ x.is refl
    (round_follows n p s x.round))
    (λ (x : AsksInstead p s effect). none_follows n s effect s _ x.asks.is refl)
    does
call_follows n p s widen effect ranges is does =
    ⊎_elim
    (λ (x : Begins p s effect). one_follows n s effect (Round (fresh_ballot p s).round) _ _ x.is refl
    (round_follows n p s x.round))
    (λ (x : (¬ MayWiden s) × (effect ≡ quiet s)). none_follows n s effect s [] x.1 refl)
    does
call_follows n p s ask effect ranges is does = none_follows n s effect s _ does.is refl
call_follows n p s (tell to i) effect ranges is does = none_follows n s effect s _ does refl
call_follows n p s (deliver m) effect ranges is does =
    let f = on_message n p (record s { reached = reached_by s.reached m }) m effect is does in
    record { may = f.may; flight = f.flight }
call_follows n p s (keep i) effect ranges is does =
    ⊎_elim
    (λ (x : KeepsOne s i effect).
    let range = ranges.known i x.value x.unkept.known in
    one_follows n s effect (Learned i x.value) s [] x.is refl
    (record { in_range = range; advances = x.unkept.unlearned }))
    (λ (x : (¬ MayKeep s i) × (effect ≡ quiet s)). none_follows n s effect s [] x.1 refl)
    does
