-- What a message about other instances does at a node.
use Rattle.std.proofs.Common.{◌≡◌, ◌≢◌, inl, inr, ⊎_elim, ℕ, suc, ◌+◌, ◌<◌, ◌≤◌, Option, Some, None, List, []}
use Rattle.std.proofs.Common.{◌∷◌, length, refl, sym, ap, subst, ◌∙◌, arith}
use Rattle.std.specs.Prelude.{◌^◌, filter, not}
use Rattle.site_ids.specs.Ids.{BallotOf, IsInstance}
use Rattle.site_ids.specs.Lists.{In}
use Rattle.site_ids.specs.Spans.{IsSpan}
use Rattle.site_ids.specs.declared.value.Vote.{Vote}
use Rattle.site_ids.proofs.MapLemmas.{put_other}
use Rattle.site_ids.proofs.MemberLemmas.{in_split}
use Rattle.wire.specs.declared.message.Message.{Message}
use Rattle.wire.specs.declared.message.Message.TheVariants.{Prepare, Promise, Propose, Accepted, Nack, Ask}
use Rattle.wire.specs.declared.message.Message.TheVariants.{Chosen}
use Rattle.wire.specs.Messages.{IsMessage}
use Rattle.acceptor.specs.Steps.{Answer, promise, accepted, nack, no_answer}
use Rattle.durable.specs.Entries.{Entry, Voted, promise_of}
use Rattle.proposer.specs.Attempts.{Attempt, TakesPromise, waiting, proposing}
use Rattle.learner.specs.ToldVotes.{told_vote, HasMajority}
use Rattle.node.specs.declared.to.To.{To}
use Rattle.node.specs.declared.to.To.TheVariants.{One, All}
use Rattle.node.specs.Nodes.{Value, Node, IsKnown, IsUnknown, IsMute}
use Rattle.node.specs.Effects.{Effect, quiet, says, learned}
use Rattle.node.specs.Tickets.{has_same_ticket}
use Rattle.node.specs.Deliveries.{Judged, RecordsAny, Records, span_out, prepare_out, propose_out}
use Rattle.node.specs.Deliveries.{promise_out, with_vote, Counted, OnPrepare, OnPropose, OnPromise, ByKind}
use Rattle.node.specs.Deliveries.{UnlessMute, reached_by}
use Rattle.rounds.proofs.Elsewhere.{IsElsewhere, IsLow, aside_of, aside_apart, aside_above, IsFairOr}
use Rattle.rounds.proofs.Elsewhere.{fair_none, fair_some, fair_vote, fair_prepared}

no_value : (v : Value) → ◌≡◌ {A = Option Value} None (Some v) → ⊥
no_value v e = cc

-- ---- an effect

-- the instance is as known as before, and what goes on record is fair there
pub record IsQuietAt (values : List Value) (Only : BallotOf → Type 0) (Mine : Vote → Type 0) (s : Node)
    (effect : Effect) : Type 0 where
  pub known : effect.after.known (suc (length values)) ≡ s.known (suc (length values))
  pub attempts : effect.after.attempts (suc (length values)) ≡ s.attempts (suc (length values))
  pub none : s.pending ≡ [] → effect.after.pending ≡ []
  pub entry : IsFairOr (suc (length values)) Only Mine effect.entry
  pub out : (x : To × Message) → In effect.out x → IsElsewhere (suc (length values)) x.1 × IsLow x.1

pub low_of : (j : ℕ) → IsInstance j → j < 2 ^ 32
low_of j is = let high = is.1 in omega (arith, high)

module _ (values : List Value) (Only : BallotOf → Type 0) (Mine : Vote → Type 0) where
  abbrev i : ℕ
  i = suc (length values)

  abbrev Quiet : Node → Effect → Type 0
  Quiet s effect = IsQuietAt values Only Mine s effect

  -- an effect that only changes what is not of the instance
  quiet_of : (s : Node) (effect : Effect) (t : Node) → effect ≡ quiet t → t.known i ≡ s.known i
      → t.attempts i ≡ s.attempts i → (s.pending ≡ [] → t.pending ≡ []) → Quiet s effect
  quiet_of s effect t is known attempts none = record {
    known = ap (λ (x : Effect). x.after.known i) is ∙ known;
    attempts = ap (λ (x : Effect). x.after.attempts i) is ∙ attempts;
    none = λ e. ap (λ (x : Effect). x.after.pending) is ∙ none e;
    entry = fair_none i Only Mine effect.entry (ap (λ (x : Effect). x.entry) is);
    out = λ x k. absurd (subst (λ (y : Effect). In y.out x) is k);
  }

  quiet_same : (s : Node) (effect : Effect) → effect ≡ quiet s → Quiet s effect
  quiet_same s effect is = quiet_of s effect s is refl refl (λ e. e)

  quiet_learned : (s : Node) (j : ℕ) (v : Value) (effect : Effect) → j ≢ i → effect ≡ quiet (learned s j v)
      → Quiet s effect
  quiet_learned s j v effect apart is =
      quiet_of s effect (learned s j v) is
      (put_other s.known j (Some v) i (λ e. apart (sym e)))
      (put_other s.attempts j None i (λ e. apart (sym e)))
      (λ e. ap (λ l. filter (λ u. not (has_same_ticket u v)) l) e)

  -- one message, of another instance
  says_aside : (to : To) (m : Message) (out : List (To × Message)) → out ≡ (to, m) ∷ [] → IsElsewhere i m
      → IsLow m → (x : To × Message) → In out x → IsElsewhere i x.1 × IsLow x.1
  says_aside to m out is aside low x k = ⊎_elim (λ (e : (to, m) ≡ x). subst
      (λ (y : To × Message). IsElsewhere i y.1 × IsLow y.1) e (aside, low)) (λ none. absurd none)
      (subst (λ l. In l x) is k)

  -- ---- a prepare

  prepare_aside : (p j : ℕ) (b : BallotOf) (answer : Answer) (x : To × Message) → i < j → j < 2 ^ 32
      → In (prepare_out p j b answer) x → IsElsewhere i x.1 × IsLow x.1
  prepare_aside p j b (promise prior) x above low k = says_aside (One b.node) (Promise p j b prior)
      (prepare_out p j b (promise prior)) refl (inr (inr (inl above))) low x k
  prepare_aside p j b (nack c) x above low k = says_aside (One b.node) (Nack p j b c)
      (prepare_out p j b (nack c)) refl (inr (inr (inl above))) low x k
  prepare_aside p j b accepted x above low k = absurd k
  prepare_aside p j b no_answer x above low k = absurd k

  span_aside : (p j : ℕ) (b : BallotOf) (xs : List Judged) (x : To × Message) → i < j → j + length xs ≤ 2 ^ 32
      → In (span_out p j b xs) x → IsElsewhere i x.1 × IsLow x.1
  span_aside p j b [] x above low k = absurd k
  span_aside p j b (y ∷ xs) x above low k =
      ⊎_elim
      (λ here. prepare_aside p j b y.answer x above (omega (arith, low)) here)
      (λ later. span_aside p (suc j) b xs x (omega (arith, above)) (omega (arith, low)) later)
      (in_split (prepare_out p j b y.answer) (span_out p (suc j) b xs) x k)

  on_prepare : (p : ℕ) (s : Node) (j : ℕ) (b : BallotOf) (k : ℕ) (effect : Effect) → i < j → IsSpan j k
      → OnPrepare p s j b k effect → Quiet s effect
  on_prepare p s j b k effect above span how = record {
    known = ap (λ (x : Effect). x.after.known i) how.is;
    attempts = ap (λ (x : Effect). x.after.attempts i) how.is;
    none = λ e. ap (λ (x : Effect). x.after.pending) how.is ∙ e;
    entry = subst (IsFairOr i Only Mine) (sym (ap (λ (x : Effect). x.entry) how.is))
        (by how.entry how.records);
    out = λ x m. let most = span.3 in let counted = how.counted in span_aside p j b how.judged x above
        (omega (arith, most, counted)) (subst (λ (y : Effect). In y.out x) how.is m);
  }
    where
      by : (o : Option Entry) → RecordsAny how.judged (promise_of j k b) o → IsFairOr i Only Mine o
      by None r = fair_none i Only Mine None refl
      by (Some e) r = fair_some i Only Mine (Some e) (promise_of j k b) (ap Some r.1)
          (fair_prepared i Only Mine j k b above)

  -- ---- a proposal

  propose_aside : (p j : ℕ) (b : BallotOf) (v : Value) (answer : Answer) (x : To × Message) → j ≢ i
      → j < 2 ^ 32 → In (propose_out p j b v answer) x → IsElsewhere i x.1 × IsLow x.1
  propose_aside p j b v accepted x apart low k = says_aside All (Accepted p j b v)
      (propose_out p j b v accepted) refl (aside_of i 4 j (λ e. omega (arith, e)) apart) low x k
  propose_aside p j b v (nack c) x apart low k = says_aside (One b.node) (Nack p j b c)
      (propose_out p j b v (nack c)) refl (inl refl) low x k
  propose_aside p j b v (promise prior) x apart low k = absurd k
  propose_aside p j b v no_answer x apart low k = absurd k

  on_propose : (p : ℕ) (s : Node) (j : ℕ) (b : BallotOf) (v : Value) (effect : Effect) → j ≢ i → IsInstance j
      → OnPropose p s j b v effect → Quiet s effect
  on_propose p s j b v effect apart instance how = record {
    known = ap (λ (x : Effect). x.after.known i) how.is;
    attempts = ap (λ (x : Effect). x.after.attempts i) how.is;
    none = λ e. ap (λ (x : Effect). x.after.pending) how.is ∙ e;
    entry = subst (IsFairOr i Only Mine) (sym (ap (λ (x : Effect). x.entry) how.is))
        (by how.entry how.records);
    out = λ x m. propose_aside p j b v how.answer x apart (low_of j instance)
        (subst (λ (y : Effect). In y.out x) how.is m);
  }
    where
      by : (o : Option Entry) → Records how.slot how.after (Voted j b v) o → IsFairOr i Only Mine o
      by None r = fair_none i Only Mine None refl
      by (Some e) r = fair_some i Only Mine (Some e) (Voted j b v) (ap Some r.1)
          (fair_vote i Only Mine j b v apart)

  -- ---- a promise

  promise_keeps : (n : ℕ) (f after : ℕ → Option Attempt) (q j : ℕ) (b : BallotOf) (prior : Option Vote)
      (o : Option Value) → j ≢ i → TakesPromise n f q j b prior after o → after i ≡ f i
  promise_keeps n f after q j b prior None apart how =
      ⊎_elim
      (λ x. ap (λ (g : ℕ → Option Attempt). g i) x.1)
      (λ x. ap (λ (g : ℕ → Option Attempt). g i) x.4 ∙ put_other f j (Some (waiting x.0 q prior)) i
      (λ e. apart (sym e)))
      how
  promise_keeps n f after q j b prior (Some v) apart how = ap (λ (g : ℕ → Option Attempt). g i) how.5
      ∙ put_other f j (Some (proposing how.0 q prior v)) i (λ e. apart (sym e))

  promise_aside : (p j : ℕ) (b : BallotOf) (o : Option Value) (x : To × Message) → j ≢ i → j < 2 ^ 32
      → In (promise_out p j b o) x → IsElsewhere i x.1 × IsLow x.1
  promise_aside p j b None x apart low k = absurd k
  promise_aside p j b (Some v) x apart low k = says_aside All (Propose p j b v) (promise_out p j b (Some v))
      refl (aside_of i 3 j (λ e. omega (arith, e)) apart) low x k

  on_promise : (n p : ℕ) (s : Node) (q j : ℕ) (b : BallotOf) (prior : Option Vote) (effect : Effect) → j ≢ i
      → IsInstance j → OnPromise n p s q j b prior effect → Quiet s effect
  on_promise n p s q j b prior effect apart instance how = record {
    known = ap (λ (x : Effect). x.after.known i) how.is;
    attempts = ap (λ (x : Effect). x.after.attempts i) how.is
        ∙ promise_keeps n s.attempts how.attempts q j b prior how.proposed apart how.step;
    none = λ e. ap (λ (x : Effect). x.after.pending) how.is ∙ e;
    entry = fair_none i Only Mine effect.entry (ap (λ (x : Effect). x.entry) how.is);
    out = λ x m. promise_aside p j b how.proposed x apart (low_of j instance)
        (subst (λ (y : Effect). In y.out x) how.is m);
  }

  -- ---- all kinds

  unless_mute : (s : Node) (j : ℕ) (Answers : Type 0) (effect : Effect) → (Answers → Quiet s effect)
      → UnlessMute s j Answers effect → Quiet s effect
  unless_mute s j Answers effect so how = ⊎_elim (λ (x : IsMute s j × (effect ≡ quiet s)). quiet_same s effect
      x.1) (λ (x : (¬ IsMute s j) × Answers). so x.1) how

  by_kind : (n p : ℕ) (s : Node) (m : Message) (effect : Effect) → s.known i ≡ None → IsMessage n m
      → IsElsewhere i m → ByKind n p s m effect → Quiet s effect
  by_kind n p s (Prepare q j b k) effect unknown is aside how = unless_mute s j (OnPrepare p s j b k effect)
      effect (λ x. on_prepare p s j b k effect (aside_above i j aside) is.fits x) how
  by_kind n p s (Promise q j b prior) effect unknown is aside how = on_promise n p s q j b prior effect
      (aside_apart i 2 j (λ e. omega (arith, e)) (λ e. omega (arith, e)) aside) is.instance how
  by_kind n p s (Propose q j b v) effect unknown is aside how =
      unless_mute s j (OnPropose p s j b v effect) effect (λ x. on_propose p s j b v effect
      (aside_apart i 3 j (λ e. omega (arith, e)) (λ e. omega (arith, e)) aside) is.instance x) how
  by_kind n p s (Accepted q j b v) effect unknown is aside how =
      let apart = aside_apart i 4 j (λ e. omega (arith, e)) (λ e. omega (arith, e)) aside in
      let t = told_vote q j b v in
      ⊎_elim
      (λ (x : IsUnknown s j × Counted n (with_vote s t) j b v effect).
      ⊎_elim
      (λ (few : (¬ HasMajority n (In (with_vote s t).votes) j b v) × (effect ≡ quiet (with_vote s t))).
      quiet_of s effect (with_vote s t) few.1 refl refl (λ e. e))
      (λ (many : HasMajority n (In (with_vote s t).votes) j b v
      × (effect ≡ quiet (learned (with_vote s t) j v))).
      let q = quiet_learned (with_vote s t) j v effect apart many.1 in
      record { known = q.known; attempts = q.attempts; none = q.none; entry = q.entry; out = q.out })
      x.1)
      (λ (x : IsKnown s j × (effect ≡ quiet s)). quiet_same s effect x.1)
      how
  by_kind n p s (Nack q j b c) effect unknown is aside how = quiet_of s effect _ how refl refl (λ e. e)
  by_kind n p s (Ask q j) effect unknown is aside how =
      ⊎_elim
      (λ (x : (v : Value) × (s.known j ≡ Some v) × (effect ≡ says s (One q) (Chosen p j v))).
      record {
        known = ap (λ (y : Effect). y.after.known i) x.2;
        attempts = ap (λ (y : Effect). y.after.attempts i) x.2;
        none = λ e. ap (λ (y : Effect). y.after.pending) x.2 ∙ e;
        entry = fair_none i Only Mine effect.entry (ap (λ (y : Effect). y.entry) x.2);
        out = says_aside (One q) (Chosen p j x.0) effect.out (ap (λ (y : Effect). y.out) x.2)
            (aside_of i 7 j (λ e. omega (arith, e)) (λ e. no_value x.0
            (sym unknown ∙ ap s.known (sym e) ∙ x.1))) (low_of j is.instance);
      })
      (λ (x : IsUnknown s j × (effect ≡ quiet s)). quiet_same s effect x.1)
      how
  by_kind n p s (Chosen q j v) effect unknown is aside how =
      ⊎_elim
      (λ (x : IsUnknown s j × (effect ≡ quiet (learned s j v))). quiet_learned s j v effect
      (aside_apart i 7 j (λ e. omega (arith, e)) (λ e. omega (arith, e)) aside) x.1)
      (λ (x : (s.known j ≡ Some v) × (effect ≡ quiet s)). quiet_same s effect x.1)
      how

  -- a message that is about others
  pub aside_on : (n p : ℕ) (s : Node) (m : Message) (effect : Effect) → s.known i ≡ None → IsMessage n m
      → IsElsewhere i m → ByKind n p (record s { reached = reached_by s.reached m }) m effect → Quiet s effect
  aside_on n p s m effect unknown is aside how =
      let q = by_kind n p (record s { reached = reached_by s.reached m }) m effect unknown is aside how in
      record { known = q.known; attempts = q.attempts; none = q.none; entry = q.entry; out = q.out }
