-- The step in which node p begins its attempt: deliveries of what is settled, a tick, and widenings.
use Rattle.std.proofs.Common.{◌≡◌, ◌≢◌, ◌⊎◌, inl, inr, ⊎_elim, ℕ, suc, ◌<◌, ◌≤◌, max, Option, Some, None}
use Rattle.std.proofs.Common.{List, [], ◌∷◌, ◌++◌, length, map, refl, sym, ap, subst, ◌∙◌, arith}
use Rattle.std.specs.Prelude.{◌^◌}
use Rattle.site_ids.specs.Ids.{BallotOf, IsInstance}
use Rattle.site_ids.specs.Lists.{In}
use Rattle.site_ids.proofs.MapLemmas.{put_here}
use Rattle.wire.specs.declared.message.Message.{Message}
use Rattle.wire.specs.declared.message.Message.TheVariants.{Prepare, Promise, Propose, Accepted, Nack, Ask}
use Rattle.wire.specs.declared.message.Message.TheVariants.{Chosen}
use Rattle.wire.specs.Messages.{IsMessage}
use Rattle.durable.specs.Entries.{Round}
use Rattle.proposer.specs.Attempts.{Attempt, opened, TakesPromise}
use Rattle.learner.specs.ToldVotes.{told_vote}
use Rattle.node.specs.declared.fault.NodeFault.TheVariants.{InstancesUsedUp}
use Rattle.node.specs.declared.to.To.{To}
use Rattle.node.specs.declared.to.To.TheVariants.{One, All}
use Rattle.node.specs.Nodes.{Value, Node, IsKnown, IsUnknown, IsMute, IsFirstUnknown, WantsTick, BeginsKnown}
use Rattle.node.specs.Effects.{Effect, quiet, says, recorded}
use Rattle.node.specs.Calls.{Ticks, AsksInstead, AreOpenElsewhere, resent, fresh_ballot, oldest, tick}
use Rattle.node.specs.Calls.{deliver}
use Rattle.node.specs.Deliveries.{with_vote, Counted, OnPropose, ByKind, reached_by}
use Rattle.node.specs.Endings.{Ending, Whole, Refused, EndsWhole}
use Rattle.node.proofs.Gaps.{one_first}
use Rattle.node.proofs.Knowing.{beginning_stays}
use Rattle.site_drive.specs.declared.last_call.LastCall.TheVariants.{TickOrAsk, Widen}
use Rattle.site_drive.specs.Drives.{TicksAndWidens, EndsLast, EndsTurns}
use Rattle.site_drive.specs.Batches.{TakesEach}
use Rattle.rounds.proofs.Elsewhere.{IsElsewhere, IsClean, clean_on, fair_some, fair_round}
use Rattle.rounds.proofs.Besides.{known_below}
use Rattle.rounds.proofs.Delivering.{AreAllowed, all_taken}
use Rattle.rounds.proofs.Holding.{IsHeld, AreAll, all_none, all_out, quiet_clean, calls_held}
use Rattle.rounds.proofs.Answering.{IsAsideOut}
use Rattle.rounds.proofs.Acting.{IsNoVote, IsNoBallot}
use Rattle.rounds.specs.Deciding.{IsSettled}

no_value : (v : Value) → ◌≡◌ {A = Option Value} None (Some v) → ⊥
no_value v e = cc

no_attempt : (a : Attempt) → ◌≡◌ {A = Option Attempt} None (Some a) → ⊥
no_attempt a e = cc

-- nothing is attempted
abbrev pub IsUntried : Node → Type 0
IsUntried s = (j : ℕ) → s.attempts j ≡ None

-- ---- what is settled

pub settled_aside : (i : ℕ) (m : Message) → IsSettled i m → IsElsewhere i m
settled_aside i m h = ⊎_elim (λ e. inr (inl e)) (λ x. inr (inr (inr x))) h

settled_low : (i k j : ℕ) → k ≢ 6 → (k ≡ 6) ⊎ ((k ≢ 1) × (j < i)) → j < i
settled_low i k j other h = ⊎_elim (λ e. absurd (other e)) (λ (x : (k ≢ 1) × (j < i)). x.1) h

settled_reach : (i r : ℕ) (m : Message) → IsSettled (suc i) m → r ≤ i → reached_by r m ≤ i
settled_reach i r (Prepare q j b k) h low = absurd (⊎_elim (λ (e : 1 ≡ 6). omega (arith, e))
    (λ (x : (1 ≢ 1) × (j < suc i)). x.0 refl) h)
settled_reach i r (Promise q j b prior) h low = let below = settled_low (suc i) 2 j (λ e. omega (arith, e)) h
    in omega (arith, below, low)
settled_reach i r (Propose q j b v) h low = let below = settled_low (suc i) 3 j (λ e. omega (arith, e)) h
    in omega (arith, below, low)
settled_reach i r (Accepted q j b v) h low = let below = settled_low (suc i) 4 j (λ e. omega (arith, e)) h
    in omega (arith, below, low)
settled_reach i r (Nack q j b c) h low = low
settled_reach i r (Ask q j) h low = low
settled_reach i r (Chosen q j v) h low = let below = settled_low (suc i) 7 j (λ e. omega (arith, e)) h
    in omega (arith, below, low)

-- it changes nothing that a node attempts, has pending or has counted
record IsIdle (s : Node) (effect : Effect) : Type 0 where
  pub pending : effect.after.pending ≡ s.pending
  pub reached : effect.after.reached ≡ s.reached
  pub untried : IsUntried s → IsUntried effect.after

idle_of : (s : Node) (effect : Effect) (t : Node) → effect.after ≡ t → t.pending ≡ s.pending
    → t.reached ≡ s.reached → t.attempts ≡ s.attempts → IsIdle s effect
idle_of s effect t is pending reached attempts = record {
  pending = ap (λ (x : Node). x.pending) is ∙ pending;
  reached = ap (λ (x : Node). x.reached) is ∙ reached;
  untried = λ none j. ap (λ (x : Node). x.attempts j) is ∙ ap (λ (f : ℕ → Option Attempt). f j) attempts
      ∙ none j;
}

promise_idle : (n : ℕ) (f after : ℕ → Option Attempt) (q j : ℕ) (b : BallotOf) (prior : _) (o : Option Value)
    → ((k : ℕ) → f k ≡ None) → TakesPromise n f q j b prior after o → (k : ℕ) → after k ≡ None
promise_idle n f after q j b prior None none how k =
    ⊎_elim
    (λ x. ap (λ (g : ℕ → Option Attempt). g k) x.1 ∙ none k)
    (λ x. absurd (no_attempt x.0 (sym (none j) ∙ x.1)))
    how
promise_idle n f after q j b prior (Some v) none how k = absurd (no_attempt how.0 (sym (none j) ∙ how.1))

module _ (n p : ℕ) (values : List Value) where
  abbrev i : ℕ
  i = suc (length values)

  abbrev Clean : Node → Type 0
  Clean s = IsClean values IsNoBallot IsNoVote s

  idle : (s : Node) (m : Message) (effect : Effect) → BeginsKnown values s → IsMessage n m → IsSettled i m
      → ByKind n p s m effect → IsIdle s effect
  idle s (Prepare q j b k) effect begins is h how = absurd (⊎_elim (λ (e : 1 ≡ 6). omega (arith, e))
      (λ (x : (1 ≢ 1) × (j < i)). x.0 refl) h)
  idle s (Promise q j b prior) effect begins is h how = record {
    pending = ap (λ (y : Effect). y.after.pending) how.is;
    reached = ap (λ (y : Effect). y.after.reached) how.is;
    untried = λ none k. ap (λ (y : Effect). y.after.attempts k) how.is
        ∙ promise_idle n s.attempts how.attempts q j b prior how.proposed none how.step k;
  }
  idle s (Propose q j b v) effect begins is h how =
      ⊎_elim
      (λ (x : IsMute s j × (effect ≡ quiet s)). idle_of s effect s (ap (λ (y : Effect). y.after) x.1) refl
      refl refl)
      (λ (x : (¬ IsMute s j) × OnPropose p s j b v effect). idle_of s effect s
      (ap (λ (y : Effect). y.after) x.1.is) refl refl refl)
      how
  idle s (Accepted q j b v) effect begins is h how =
      ⊎_elim
      (λ (x : IsUnknown s j × Counted n (with_vote s (told_vote q j b v)) j b v effect).
      let there = known_below values s j begins is.instance.0 (settled_low i 4 j (λ e. omega (arith, e)) h) in
      absurd (no_value there.0 (sym x.0 ∙ there.1)))
      (λ (x : IsKnown s j × (effect ≡ quiet s)). idle_of s effect s (ap (λ (y : Effect). y.after) x.1) refl
      refl refl)
      how
  idle s (Nack q j b c) effect begins is h how = idle_of s effect (record s { heard = max s.heard c.round })
      (ap (λ (y : Effect). y.after) how) refl refl refl
  idle s (Ask q j) effect begins is h how =
      ⊎_elim
      (λ (x : (u : Value) × (s.known j ≡ Some u) × (effect ≡ says s (One q) (Chosen p j u))). idle_of s effect
      s (ap (λ (y : Effect). y.after) x.2) refl refl refl)
      (λ (x : IsUnknown s j × (effect ≡ quiet s)). idle_of s effect s (ap (λ (y : Effect). y.after) x.1) refl
      refl refl)
      how
  idle s (Chosen q j v) effect begins is h how =
      ⊎_elim
      (λ x.
      let there = known_below values s j begins is.instance.0 (settled_low i 7 j (λ e. omega (arith, e)) h) in
      absurd (no_value there.0 (sym x.0 ∙ there.1)))
      (λ (x : (s.known j ≡ Some v) × (effect ≡ quiet s)). idle_of s effect s
      (ap (λ (y : Effect). y.after) x.1) refl refl refl)
      how

  -- a clean node at which nothing is attempted, these are pending, and nothing further was counted
  pub record IsStill (pending : List Value) (s : Node) : Type 0 where
    pub clean : Clean s
    pub pending_are : s.pending ≡ pending
    pub reached : s.reached ≤ length values
    pub untried : IsUntried s

  abbrev Holds : List Value → Node → List (To × Message) → Type 0
  Holds pending s l = IsStill pending s × AreAll (IsAsideOut i) l

  still_on : (pending : List Value) (s t : Node) (before out : List (To × Message)) (m : Message)
      → Holds pending s before → IsMessage n m → IsSettled i m → EndsWhole n p s (deliver m) out t
      → Holds pending t (before ++ out)
  still_on pending s t before out m h is settled ends =
      let next = quiet_clean n p values IsNoBallot IsNoVote s t out m h.0.clean is (settled_aside i m settled)
      ends in
      let same = idle (record s { reached = reached_by s.reached m }) m ends.effect h.0.clean.begins is
      settled ends.does in
      let low = settled_reach (length values) s.reached m settled h.0.reached in
      let far : t.reached ≡ reached_by s.reached m = ap (λ (x : Node). x.reached) ends.node
      ∙ same.reached in (
        record {
          clean = subst Clean (sym ends.node) next.0;
          pending_are = ap (λ (x : Node). x.pending) ends.node ∙ same.pending ∙ h.0.pending_are;
          reached = subst (λ r. r ≤ length values) (sym far) low;
          untried = λ j. ap (λ (x : Node). x.attempts j) ends.node ∙ same.untried h.0.untried j;
        },
        all_out (IsAsideOut i) before out ends.effect ends.handed_out h.1 next.1.out,
      )

  pub still_taken : (pending : List Value) (came : List (List ℕ)) (s t : Node) (malformed : ℕ)
      (out : List (To × Message)) → AreAllowed n p (IsSettled i) came → TakesEach n p came malformed out s t
      → IsStill pending s
      → IsStill pending t × AreAll (IsAsideOut i) out
  still_taken pending came s t malformed out allowed takes still =
      all_taken n p (IsSettled i) (Holds pending) (still_on pending) came s t malformed [] out allowed takes
      (still, all_none (IsAsideOut i))

  -- ---- the tick

  pub first_of : (s : Node) → Clean s → IsInstance i → IsFirstUnknown s.known i
  first_of s clean instance = record {
    instance = instance;
    unknown = clean.unknown;
    before = λ j is low.
        known_below values s j clean.begins is.0 low;
  }

  none_open : (s : Node) (xs : List (ℕ × Attempt)) → IsUntried s → AreOpenElsewhere s i xs → xs ≡ []
  none_open s [] untried are = refl
  none_open s (x ∷ xs) untried are = absurd (no_attempt x.1 (sym (untried x.0) ∙ (are.each x (inl refl)).1))

  -- a tick of node p, at a ballot of its own, and what else it hands out is about others
  pub record HasBegun (v : Value) (t : Node) (out : List (To × Message)) : Type 0 where
    pub ballot : BallotOf
    pub of : ballot.node ≡ p
    pub round : (1 ≤ ballot.round) × (ballot.round < 2 ^ 32)
    pub held : IsHeld n p values IsNoBallot IsNoVote (Some (opened ballot v)) t
    pub prepares : In out (All, Prepare p i ballot 1)
    pub says : AreAll (λ x. IsAsideOut i x ⊎ (x ≡ (All, Prepare p i ballot 1))) out

  module _ (v : Value) (rest : List Value) (s : Node) (still : IsStill (v ∷ rest) s) (instance : IsInstance i)
    where
      some_pending : s.pending ≡ [] → ⊥
      some_pending e = let x : v ∷ rest ≡ [] = sym still.pending_are ∙ e in cc

      record HasTicked (t : Node) (out : List (To × Message)) : Type 0 where
        pub ballot : BallotOf
        pub of : ballot.node ≡ p
        pub round : (1 ≤ ballot.round) × (ballot.round < 2 ^ 32)
        pub clean : Clean t
        pub at : t.attempts i ≡ Some (opened ballot v)
        pub out_is : out ≡ (All, Prepare p i ballot 1) ∷ []

      ticked_by : (effect : Effect) (t : Node) (out : List (To × Message)) → Ticks p s effect → out ≡ effect.out
          → t ≡ recorded s effect → BeginsKnown values t → HasTicked t out
      ticked_by effect t out how out_is is begins =
          let here : how.instance ≡ i = one_first s.known i how.instance (first_of s still.clean instance)
          how.first in
          let none : how.elsewhere ≡ [] = none_open s how.elsewhere still.untried
          (subst (λ j. AreOpenElsewhere s j how.elsewhere) here how.open_elsewhere) in
          let own : oldest s.pending ≡ v = ap oldest still.pending_are in
          let b = fresh_ballot p s in
          let low = how.round in
          record {
            ballot = b;
            of = refl;
            round = (omega arith, low);
            clean = subst Clean (sym is) (clean_on values IsNoBallot IsNoVote s effect still.clean
                (fair_some i IsNoBallot IsNoVote effect.entry (Round b.round)
                (ap (λ (y : Effect). y.entry) how.is) (fair_round i IsNoBallot IsNoVote b.round))
                (subst (BeginsKnown values) is begins) (ap (λ (y : Effect). y.after.known i) how.is
                ∙ still.clean.unknown));
            at = ap (λ (x : Node). x.attempts i) is ∙ ap (λ (y : Effect). y.after.attempts i) how.is
                ∙ put_here s.attempts how.instance (Some (opened b (oldest s.pending))) i (sym here)
                ∙ ap (λ u. Some (opened b u)) own;
            out_is = out_is ∙ ap (λ (y : Effect). y.out) how.is
                ∙ ap (λ l. (All, Prepare p how.instance b 1) ∷ map (resent p) l) none
                ∙ ap (λ j. (All, Prepare p j b 1) ∷ []) here;
          }

      ticked : (t : Node) (out : List (To × Message)) → EndsWhole n p s tick out t → HasTicked t out
      ticked t out ends =
          ⊎_elim
          (λ (x : Ticks p s ends.effect). ticked_by ends.effect t out x ends.handed_out ends.node
          (beginning_stays n p s t tick Whole out ends values still.clean.begins))
          (λ (x : AsksInstead p s ends.effect). absurd (still.clean.not_mute
          (subst (IsMute s) (one_first s.known i x.asks.instance (first_of s still.clean instance)
          x.asks.first) x.mute)))
          ends.does

      begun_by : (ending : Ending) (t : Node) (out : List (To × Message)) → (ending ≡ Whole)
          ⊎ (ending ≡ Refused InstancesUsedUp) → TicksAndWidens n p s ending out t → HasBegun v t out
      begun_by ending t out how both =
          let first = ticked both.mid both.ticked both.ticks in
          let m0 : To × Message = (All, Prepare p i first.ballot 1) in
          let held : IsHeld n p values IsNoBallot IsNoVote (Some (opened first.ballot v)) both.mid = record
          { clean = first.clean; busy = first.at } in
          let ends : EndsTurns Widen n p both.mid both.widened t =
          ⊎_elim (λ e. inl (subst (λ x. EndsLast Widen n p both.mid x both.widened t) e both.widens))
          (λ e. inr (subst (λ x. EndsLast Widen n p both.mid x both.widened t) e both.widens)) how in
          let after = calls_held n p values IsNoBallot IsNoVote (Some (opened first.ballot v)) Widen both.mid t
          both.widened tt tt held ends in
          let whole : out ≡ (m0 ∷ []) ++ both.widened = both.out_is
          ∙ ap (λ l. l ++ both.widened) first.out_is in
          record {
            ballot = first.ballot;
            of = first.of;
            round = first.round;
            held = after.0;
            prepares = subst (λ l. In l m0) (sym whole) (inl refl);
            says = λ x k. ⊎_elim
                (λ (e : m0 ≡ x). inr (sym e))
                (λ later. inl (⊎_elim (λ y. y) (λ y. absurd y.1) (after.2 x later)))
                (subst (λ l. In l x) whole k);
          }

      pub begun : (t : Node) (out : List (To × Message)) → EndsTurns TickOrAsk n p s out t → HasBegun v t out
      begun t out ends =
          ⊎_elim
          (λ x. ⊎_elim
          (λ (y : WantsTick s × _). ⊎_elim (λ z. absurd (z.0 refl)) (λ z. begun_by Whole t out (inl refl) z)
          y.1)
          (λ (y : (¬ WantsTick s) × _). absurd (y.0 (inl some_pending)))
          x)
          (λ x. ⊎_elim
          (λ (y : WantsTick s × _). ⊎_elim
          (λ z. absurd (let k = z.1.refuses.1 i instance in no_value k.0 (sym still.clean.unknown ∙ k.1)))
          (λ z. begun_by (Refused InstancesUsedUp) t out (inr refl) z)
          y.1)
          (λ (y : (¬ WantsTick s) × _). absurd (y.0 (inl some_pending)))
          x)
          ends
