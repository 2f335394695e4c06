-- Who asks for a ballot at an instance: its own node, whose attempt stands there, or which proposed.
use Rattle.std.proofs.Common.{◌≡◌, ◌≢◌, ◌⊎◌, inl, inr, ⊎_elim, ℕ, suc, ◌≤◌, Option, Some, None}
use Rattle.std.proofs.Common.{List}
use Rattle.std.proofs.Common.{[], ◌∷◌, length, map, refl, sym, ap, subst, ◌∙◌, arith}
use Rattle.site_ids.specs.Ids.{BallotOf}
use Rattle.site_ids.specs.Lists.{In, put_at}
use Rattle.site_ids.specs.Spans.{IsInSpan}
use Rattle.site_ids.proofs.MapLemmas.{put_here, put_other}
use Rattle.wire.specs.declared.message.Message.{Message}
use Rattle.wire.specs.declared.message.Message.TheVariants.{Prepare, Promise, Propose, Accepted, Nack, Ask}
use Rattle.wire.specs.declared.message.Message.TheVariants.{Chosen}
use Rattle.acceptor.specs.Steps.{Answer, promise, accepted, nack, no_answer}
use Rattle.learner.specs.ToldVotes.{told_vote, HasMajority}
use Rattle.proposer.specs.Attempts.{Attempt, TakesPromise, opened, opened_span, latest}
use Rattle.node.specs.declared.to.To.{To}
use Rattle.node.specs.declared.to.To.TheVariants.{One, All}
use Rattle.node.specs.Nodes.{Value, Node, IsKnown, IsUnknown, IsMute}
use Rattle.node.specs.Effects.{Effect, quiet, says, learned}
use Rattle.node.specs.Calls.{Call, submit, tick, widen, ask, tell, deliver, keep, Does, Ticks, AsksInstead}
use Rattle.node.specs.Calls.{Begins}
use Rattle.node.specs.Calls.{MayWiden, KeepsOne, MayKeep, fresh_ballot, oldest, resent}
use Rattle.node.specs.Deliveries.{Judged, OnPrepare, OnPropose, Counted, with_vote, ByKind, reached_by}
use Rattle.node.specs.Deliveries.{span_out, prepare_out, propose_out, promise_out}
use Rattle.node.proofs.ToldAgain.{each_told, IsToldOf}
use Rattle.site_ids.proofs.MemberLemmas.{in_split}
use Rattle.world.proofs.Lists.{in_map}
use Rattle.rounds.specs.Proposing.{Requests}
use Rattle.rounds.proofs.Awaiting.{AreAwaiting, opened_awaits}
use Rattle.rounds.proofs.Owning.{IsAsking, Says, span_other}

equal_or : (j k : ℕ) → (j ≡ k) ⊎ (j ≢ k)
equal_or j k = grind arith

higher : (j k : ℕ) → j ≤ k → k ≢ j → suc j ≤ k
higher j k low apart = grind arith

no_value : (v : Value) → ◌≡◌ {A = Option Value} None (Some v) → ⊥
no_value v e = cc

-- an attempt that begins with others in a row
span_at : (b : BallotOf) (vs : List Value) (f : ℕ → Option Attempt) (i j : ℕ) → IsInSpan j (length vs) i
    → (v : Value) × (opened_span f j b vs i ≡ Some (opened b v))
span_at b [] f i j within = absurd (let low = within.0 in let high = within.1 in omega (arith, low, high))
span_at b (v ∷ vs) f i j within =
    ⊎_elim
    (λ (e : i ≡ j). (
      v,
      span_other b vs (put_at f j (Some (opened b v))) i (suc j)
          (λ more. let low = more.0 in omega (arith, low, e)) ∙ put_here f j (Some (opened b v)) i e,
    ))
    (λ (apart : i ≢ j). span_at b vs (put_at f j (Some (opened b v))) i (suc j)
    (higher j i within.0 apart, let high = within.1 in omega (arith, high)))
    (equal_or i j)

module _ (n p i : ℕ) (b : BallotOf) (from : Node) where
  -- it prepares some instances in a row, this one among them, of which it did not know the first
  abbrev pub Prepares : List (To × Message) → Type 0
  Prepares l = (j : ℕ) × (k : ℕ) × IsInSpan j k i × (from.known j ≡ None) × In l (All, Prepare p j b k)

  -- it asks for its own ballot, at an instance that it did not know
  pub record IsAsked (l : List (To × Message)) : Type 0 where
    pub own : b.node ≡ p
    pub unknown : from.known i ≡ None
    pub how : Says n p i b l ⊎ Prepares l

  -- the node knows what it knew, its attempts are its own and await answers at instances that it does not
  -- know
  pub record IsGood (s : Node) : Type 0 where
    pub known : (j : ℕ) (u : Value) → from.known j ≡ Some u → s.known j ≡ Some u
    pub awaiting : AreAwaiting n s.attempts
    pub own : (j : ℕ) (a : Attempt) → s.attempts j ≡ Some a → a.ballot.node ≡ p
    pub unknown : (j : ℕ) (a : Attempt) → s.attempts j ≡ Some a → s.known j ≡ None

  -- it asks in a call: its attempt stands after it, or it proposes
  pub record AsksNow (effect : Effect) : Type 0 where
    pub asked : IsAsked effect.out
    pub stands : Says n p i b effect.out
        ⊎ ((a : Attempt) × (effect.after.attempts i ≡ Some a) × IsAsking n p i b a)

  unknown_before : (s : Node) (j : ℕ) → IsGood s → s.known j ≡ None → from.known j ≡ None
  unknown_before s j good none = by (from.known j) refl
    where
      by : (o : Option Value) → from.known j ≡ o → o ≡ None
      by None is = refl
      by (Some u) is = absurd (no_value u (sym none ∙ good.known j u is))

  none_asked : (effect : Effect) (t : Node) (x : To × Message) → effect.out ≡ [] → In effect.out x
      → AsksNow effect
  none_asked effect t x is k = absurd (subst (λ l. In l x) is k)

  one_asked : (effect : Effect) (y x : To × Message) → effect.out ≡ y ∷ [] → (Requests y.1 i b → ⊥)
      → In effect.out x → Requests x.1 i b → AsksNow effect
  one_asked effect y x is none k r = absurd (⊎_elim
      (λ (e : y ≡ x). none (subst (λ (z : To × Message). Requests z.1 i b) (sym e) r)) (λ no. no)
      (subst (λ l. In l x) is k))

  asking_of : (a : Attempt) (f : ℕ → Option Attempt) (j : ℕ) → AreAwaiting n f → f j ≡ Some a → a.ballot ≡ b
      → a.proposal ≡ None → IsAsking n p i b a
  asking_of a f j await at ballot unmade = let h = await j a at in record {
    ballot = ballot;
    unmade = unmade;
    few = h.few unmade;
    nodes = h.nodes;
    distinct = h.distinct;
  }

  opened_asks : (c : BallotOf) (own : Value) → c ≡ b → IsAsking n p i b (opened c own)
  opened_asks c own is = let h = opened_awaits n c own in record {
    ballot = is;
    unmade = refl;
    few = h.few refl;
    nodes = h.nodes;
    distinct = h.distinct;
  }

  -- ---- a tick

  module _ (s : Node) (good : IsGood s) (effect : Effect) (how : Ticks p s effect) where
    abbrev fresh : BallotOf
    fresh = fresh_ballot p s

    abbrev own : Value
    own = oldest s.pending

    out_is : effect.out ≡ (All, Prepare p how.instance fresh 1) ∷ map (resent p) how.elsewhere
    out_is = ap (λ (y : Effect). y.out) how.is

    tick_first : (x : To × Message) → In effect.out x → (All, Prepare p how.instance fresh 1) ≡ x
        → Requests x.1 i b → AsksNow effect
    tick_first x k e r =
        let asks : IsInSpan how.instance 1 i × (fresh ≡ b)
        = subst (λ (z : To × Message). Requests z.1 i b) (sym e) r in
        let low = asks.0.0 in
        let high = asks.0.1 in
        let same : how.instance ≡ i = omega (arith, low, high) in
        let unknown : from.known i ≡ None = unknown_before s i good
        (subst (λ j. s.known j ≡ None) same how.first.unknown) in
        let said : In effect.out (All, Prepare p i b 1) = subst (λ z. In effect.out z)
        (sym e ∙ ap (λ j. (All, Prepare p j fresh 1)) same ∙ ap (λ c. (All, Prepare p i c 1)) asks.1) k in
        record {
          asked = record {
            own = ap (λ (c : BallotOf). c.node) (sym asks.1);
            unknown = unknown;
            how = inr (i, 1, (omega arith, omega arith), unknown, said);
          };
          stands = inr (
            opened fresh own,
            ap (λ (y : Effect). y.after.attempts i) how.is
                ∙ put_here s.attempts how.instance (Some (opened fresh own)) i (sym same),
            opened_asks fresh own asks.1,
          );
        }

    -- an attempt's latest message again
    tick_again : (y x : To × Message) (j : ℕ) (a : Attempt) → j ≢ how.instance → s.attempts j ≡ Some a
        → In effect.out x → (o : Option Value) → a.proposal ≡ o → (All, latest p j a.ballot o) ≡ x
        → Requests x.1 i b → AsksNow effect
    tick_again y x j a apart at k None unmade e r =
        let asks : IsInSpan j 1 i × (a.ballot ≡ b) = subst (λ (z : To
        × Message). Requests z.1 i b) (sym e) r in
        let low = asks.0.0 in
        let high = asks.0.1 in
        let same : j ≡ i = omega (arith, low, high) in
        let unknown : from.known i ≡ None = unknown_before s i good
        (subst (λ m. s.known m ≡ None) same (good.unknown j a at)) in
        let said : In effect.out (All, Prepare p i b 1) = subst (λ z. In effect.out z)
        (sym e ∙ ap (λ m. (All, Prepare p m a.ballot 1)) same ∙ ap (λ c. (All, Prepare p i c 1)) asks.1) k in
        record {
          asked = record {
            own = ap (λ (c : BallotOf). c.node) (sym asks.1) ∙ good.own j a at;
            unknown = unknown;
            how = inr (i, 1, (omega arith, omega arith), unknown, said);
          };
          stands = inr (
            a,
            ap (λ (z : Effect). z.after.attempts i) how.is
                ∙ put_other s.attempts how.instance (Some (opened fresh own)) i
                (λ f. apart (same ∙ f)) ∙ subst (λ m. s.attempts m ≡ Some a) same at,
            asking_of a s.attempts j good.awaiting at asks.1 unmade,
          );
        }
    tick_again y x j a apart at k (Some v) made e r =
        let asks : (j ≡ i) × (a.ballot ≡ b) = subst (λ (z : To × Message). Requests z.1 i b) (sym e) r in
        let said : In effect.out (All, Propose p i b v) = subst (λ z. In effect.out z)
        (sym e ∙ ap (λ m. (All, Propose p m a.ballot v)) asks.0 ∙ ap (λ c. (All, Propose p i c v)) asks.1) k
        in
        record {
          asked = record {
            own = ap (λ (c : BallotOf). c.node) (sym asks.1) ∙ good.own j a at;
            unknown = unknown_before s i good (subst (λ m. s.known m ≡ None) asks.0 (good.unknown j a at));
            how = inl (v, said);
          };
          stands = inl (v, said);
        }

    tick_asks : (x : To × Message) → In effect.out x → Requests x.1 i b → AsksNow effect
    tick_asks x k r =
        ⊎_elim
        (λ (e : (All, Prepare p how.instance fresh 1) ≡ x). tick_first x k e r)
        (λ later.
        let y = in_map (resent p) how.elsewhere x later in
        let at = how.open_elsewhere.each y.0 y.1 in
        tick_again x x y.0.0 y.0.1 at.0 at.1 k y.0.1.proposal refl y.2 r)
        (subst (λ l. In l x) out_is k)

  -- ---- widenings

  begin_asks : (s : Node) (good : IsGood s) (effect : Effect) → Begins p s effect → (x : To × Message)
      → In effect.out x → Requests x.1 i b → AsksNow effect
  begin_asks s good effect how x k r =
      let fresh = fresh_ballot p s in
      let whole : effect.out ≡ (All, Prepare p how.instance fresh (length how.values)) ∷ []
      = ap (λ (y : Effect). y.out) how.is in
      ⊎_elim
      (λ (e : (All, Prepare p how.instance fresh (length how.values)) ≡ x).
      let asks : IsInSpan how.instance (length how.values) i × (fresh ≡ b)
      = subst (λ (z : To × Message). Requests z.1 i b) (sym e) r in
      let at = span_at fresh how.values s.attempts i how.instance asks.0 in
      let said : In effect.out (All, Prepare p how.instance b (length how.values)) = subst
      (λ z. In effect.out z) (sym e ∙ ap (λ c. (All, Prepare p how.instance c (length how.values))) asks.1) k
      in
      record {
        asked = record {
          own = ap (λ (c : BallotOf). c.node) (sym asks.1);
          unknown = unknown_before s i good (how.span.free i asks.0).unknown;
          how = inr (
            how.instance,
            length how.values,
            asks.0,
            unknown_before s how.instance good how.span.start.free.unknown,
            said,
          );
        };
        stands = inr (
          opened fresh at.0,
          ap (λ (y : Effect). y.after.attempts i) how.is ∙ at.1,
          opened_asks fresh at.0 asks.1,
        );
      })
      (λ none. absurd none)
      (subst (λ l. In l x) whole k)

  -- ---- deliveries

  pub prepare_silent : (j : ℕ) (c : BallotOf) (answer : Answer) (x : To × Message)
      → In (prepare_out p j c answer) x
      → Requests x.1 i b → ⊥
  prepare_silent j c (promise prior) x k r = ⊎_elim (λ (e : (One c.node, Promise p j c prior) ≡ x). subst
      (λ (z : To × Message). Requests z.1 i b) (sym e) r) (λ none. none) k
  prepare_silent j c accepted x k r = k
  prepare_silent j c (nack e) x k r = ⊎_elim (λ (f : (One c.node, Nack p j c e) ≡ x). subst
      (λ (z : To × Message). Requests z.1 i b) (sym f) r) (λ none. none) k
  prepare_silent j c no_answer x k r = k

  pub span_silent : (j : ℕ) (c : BallotOf) (xs : List Judged) (x : To × Message) → In (span_out p j c xs) x
      → Requests x.1 i b → ⊥
  span_silent j c [] x k r = k
  span_silent j c (y ∷ xs) x k r = ⊎_elim (λ here. prepare_silent j c y.answer x here r)
      (λ later. span_silent (suc j) c xs x later r)
      (in_split (prepare_out p j c y.answer) (span_out p (suc j) c xs) x k)

  pub propose_silent : (j : ℕ) (c : BallotOf) (v : Value) (answer : Answer) (x : To × Message)
      → In (propose_out p j c v answer) x → Requests x.1 i b → ⊥
  propose_silent j c v (promise prior) x k r = k
  propose_silent j c v accepted x k r = ⊎_elim (λ (e : (All, Accepted p j c v) ≡ x). subst
      (λ (z : To × Message). Requests z.1 i b) (sym e) r) (λ none. none) k
  propose_silent j c v (nack e) x k r = ⊎_elim (λ (f : (One c.node, Nack p j c e) ≡ x). subst
      (λ (z : To × Message). Requests z.1 i b) (sym f) r) (λ none. none) k
  propose_silent j c v no_answer x k r = k

  -- a promise makes an attempt propose
  promise_asks : (s : Node) (good : IsGood s) (q j : ℕ) (c : BallotOf) (prior : _) (after : ℕ
      → Option Attempt)
      (o : Option Value) (effect : Effect) → TakesPromise n s.attempts q j c prior after o
      → effect.out ≡ promise_out p j c o → (x : To × Message) → In effect.out x → Requests x.1 i b
      → AsksNow effect
  promise_asks s good q j c prior after None effect how is x k r = absurd (subst (λ l. In l x) is k)
  promise_asks s good q j c prior after (Some v) effect how is x k r =
      ⊎_elim
      (λ (e : (All, Propose p j c v) ≡ x).
      let asks : (j ≡ i) × (c ≡ b) = subst (λ (z : To × Message). Requests z.1 i b) (sym e) r in
      let said : In effect.out (All, Propose p i b v) = subst (λ z. In effect.out z)
      (sym e ∙ ap (λ m. (All, Propose p m c v)) asks.0 ∙ ap (λ d. (All, Propose p i d v)) asks.1) k in
      record {
        asked = record {
          own = ap (λ (d : BallotOf). d.node) (sym asks.1)
              ∙ ap (λ (d : BallotOf). d.node) (sym how.2.0) ∙ good.own j how.0 how.1;
          unknown = unknown_before s i good
              (subst (λ m. s.known m ≡ None) asks.0 (good.unknown j how.0 how.1));
          how = inl (v, said);
        };
        stands = inl (v, said);
      })
      (λ none. absurd none)
      (subst (λ l. In l x) is k)

  message_asks : (s : Node) (good : IsGood s) (m : Message) (effect : Effect) → ByKind n p s m effect
      → (x : To × Message) → In effect.out x → Requests x.1 i b → AsksNow effect
  message_asks s good (Prepare q j c k) effect how x here r =
      ⊎_elim
      (λ (y : IsMute s j × (effect ≡ quiet s)). none_asked effect s x (ap (λ (z : Effect). z.out) y.1) here)
      (λ (y : (¬ IsMute s j) × OnPrepare p s j c k effect). absurd (span_silent j c y.1.judged x
      (subst (λ l. In l x) (ap (λ (z : Effect). z.out) y.1.is) here) r))
      how
  message_asks s good (Promise q j c prior) effect how x here r = promise_asks s good q j c prior how.attempts
      how.proposed effect how.step (ap (λ (z : Effect). z.out) how.is) x here r
  message_asks s good (Propose q j c u) effect how x here r =
      ⊎_elim
      (λ (y : IsMute s j × (effect ≡ quiet s)). none_asked effect s x (ap (λ (z : Effect). z.out) y.1) here)
      (λ (y : (¬ IsMute s j) × OnPropose p s j c u effect). absurd (propose_silent j c u y.1.answer x
      (subst (λ l. In l x) (ap (λ (z : Effect). z.out) y.1.is) here) r))
      how
  message_asks s good (Accepted q j c u) effect how x here r =
      let t = told_vote q j c u in
      ⊎_elim
      (λ (y : IsUnknown s j × Counted n (with_vote s t) j c u effect).
      ⊎_elim
      (λ (few : (¬ HasMajority n (In (with_vote s t).votes) j c u) × (effect ≡ quiet (with_vote s t))).
      none_asked effect s x (ap (λ (z : Effect). z.out) few.1) here)
      (λ (many : HasMajority n (In (with_vote s t).votes) j c u
      × (effect ≡ quiet (learned (with_vote s t) j u))). none_asked effect s x
      (ap (λ (z : Effect). z.out) many.1) here)
      y.1)
      (λ (y : IsKnown s j × (effect ≡ quiet s)). none_asked effect s x (ap (λ (z : Effect). z.out) y.1) here)
      how
  message_asks s good (Nack q j c e) effect how x here r = none_asked effect s x (ap (λ (z : Effect). z.out)
      how)
      here
  message_asks s good (Ask q j) effect how x here r =
      ⊎_elim
      (λ (y : (u : Value) × (s.known j ≡ Some u) × (effect ≡ says s (One q) (Chosen p j u))). one_asked effect
      (One q, Chosen p j y.0) x (ap (λ (z : Effect). z.out) y.2) (λ no. no) here r)
      (λ (y : IsUnknown s j × (effect ≡ quiet s)). none_asked effect s x (ap (λ (z : Effect). z.out) y.1)
      here)
      how
  message_asks s good (Chosen q j u) effect how x here r =
      ⊎_elim
      (λ (y : IsUnknown s j × (effect ≡ quiet (learned s j u))). none_asked effect s x
      (ap (λ (z : Effect). z.out) y.1) here)
      (λ (y : (s.known j ≡ Some u) × (effect ≡ quiet s)). none_asked effect s x (ap (λ (z : Effect). z.out)
      y.1)
      here)
      how

  -- ---- all calls

  pub told_silent : (s : Node) (m : Message) (j : ℕ) → IsToldOf p s m j → Requests m i b → ⊥
  told_silent s m j told r =
      ⊎_elim
      (λ x. subst (λ y. Requests y i b) x.2 r)
      (λ x. subst (λ y. Requests y i b) x.4 r)
      told.is

  pub call_asks : (s : Node) (good : IsGood s) (call : Call) (effect : Effect) → Does n p s call effect
      → (x : To × Message) → In effect.out x → Requests x.1 i b → AsksNow effect
  call_asks s good (submit v) effect does x k r =
      ⊎_elim
      (λ y. none_asked effect s x (ap (λ (z : Effect). z.out) y.2) k)
      (λ y. none_asked effect s x (ap (λ (z : Effect). z.out) y.3) k)
      does
  call_asks s good tick effect does x k r =
      ⊎_elim
      (λ (y : Ticks p s effect). tick_asks s good effect y x k r)
      (λ (y : AsksInstead p s effect). one_asked effect (All, Ask p y.asks.instance) x
      (ap (λ (z : Effect). z.out) y.asks.is) (λ no. no) k r)
      does
  call_asks s good widen effect does x k r =
      ⊎_elim
      (λ (y : Begins p s effect). begin_asks s good effect y x k r)
      (λ (y : (¬ MayWiden s) × (effect ≡ quiet s)). none_asked effect s x (ap (λ (z : Effect). z.out) y.1) k)
      does
  call_asks s good ask effect does x k r = one_asked effect (All, Ask p does.instance) x
      (ap (λ (z : Effect). z.out) does.is) (λ no. no) k r
  call_asks s good (tell to j) effect does x k r =
      let t = each_told p s to j x (subst (λ (z : Effect). In z.out x) does k) in
      absurd (told_silent s x.1 t.0 t.2 r)
  call_asks s good (deliver m) effect does x k r = message_asks (record s {
    reached = reached_by s.reached m;
  })
      (record { known = good.known; awaiting = good.awaiting; own = good.own; unknown = good.unknown }) m
      effect
      does x k r
  call_asks s good (keep j) effect does x k r =
      ⊎_elim
      (λ (y : KeepsOne s j effect). none_asked effect s x (ap (λ (z : Effect). z.out) y.is) k)
      (λ (y : (¬ MayKeep s j) × (effect ≡ quiet s)). none_asked effect s x (ap (λ (z : Effect). z.out) y.1) k)
      does
