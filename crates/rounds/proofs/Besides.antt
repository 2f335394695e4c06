-- The calls that are no tick: they change no attempt at the instance, and put
-- nothing about it on record.
use Rattle.std.proofs.Common.{◌≡◌, ◌≢◌, ◌⊎◌, inl, inr, ⊎_elim, ℕ, zero, suc, ◌<◌, ◌≤◌, Option, Some, None}
use Rattle.std.proofs.Common.{List, [], ◌∷◌, ◌++◌, length, refl, sym, ap, subst, ◌∙◌, arith}
use Rattle.std.specs.Prelude.{◌^◌, slice_get}
use Rattle.site_ids.specs.Ids.{BallotOf, IsInstance}
use Rattle.site_ids.specs.Lists.{In, put_at}
use Rattle.site_ids.specs.declared.value.Vote.{Vote}
use Rattle.site_ids.proofs.MapLemmas.{put_other}
use Rattle.wire.specs.declared.message.Message.{Message}
use Rattle.wire.specs.declared.message.Message.TheVariants.{Prepare, Accepted, Ask, Chosen}
use Rattle.durable.specs.Entries.{Round, Learned, last_vote, learned_at}
use Rattle.proposer.specs.Attempts.{Attempt, opened, opened_span}
use Rattle.node.specs.declared.to.To.{To}
use Rattle.node.specs.declared.to.To.TheVariants.{All}
use Rattle.node.specs.Nodes.{Value, Node, BeginsKnown}
use Rattle.node.specs.Effects.{Effect, quiet}
use Rattle.node.specs.Tellings.{or_else, remembered, tells}
use Rattle.node.specs.Calls.{Begins, Widens, Asks, Keeps, KeepsOne, MayWiden, MayKeep, AreUntried}
use Rattle.node.specs.Calls.{fresh_ballot}
use Rattle.node.proofs.ToldAgain.{each_told, IsToldOf}
use Rattle.rounds.proofs.Elsewhere.{IsElsewhere, IsLow, aside_of, IsFairOr, IsClean, fair_none, fair_some}
use Rattle.rounds.proofs.Elsewhere.{fair_round, fair_learned}
use Rattle.rounds.proofs.Passing.{low_of}

-- an attempt is open at the instance, or no value is pending
abbrev pub IsBusy : ℕ → Option Attempt → Node → Type 0
IsBusy i (Some a) s = s.attempts i ≡ Some a
IsBusy i None s = s.pending ≡ []

-- node q says something about others, or its vote at the instance
abbrev pub IsAsideOr : ℕ → ℕ → (Vote → Type 0) → Message → Type 0
IsAsideOr q i Mine m = (IsElsewhere i m × IsLow m) ⊎ ((w : Vote) × Mine w
    × (m ≡ Accepted q i w.ballot w.value))

pub record IsBeside (q : ℕ) (values : List Value) (Only : BallotOf → Type 0) (Mine : Vote → Type 0) (s : Node)
    (effect : Effect) : Type 0 where
  pub known : effect.after.known ≡ s.known
  pub attempts : effect.after.attempts (suc (length values)) ≡ s.attempts (suc (length values))
  pub pending : effect.after.pending ≡ s.pending
  pub reached : effect.after.reached ≡ s.reached
  pub entry : IsFairOr (suc (length values)) Only Mine effect.entry
  pub out : (x : To × Message) → In effect.out x → IsAsideOr q (suc (length values)) Mine x.1

no_value : (v : Value) → ◌≡◌ {A = Option Value} None (Some v) → ⊥
no_value v e = cc

no_attempt : (a : Attempt) → ◌≡◌ {A = Option Attempt} None (Some a) → ⊥
no_attempt a e = cc

pub either : (j k : ℕ) → (j ≡ k) ⊎ (j ≢ k)
either j k = ⊎_elim (λ (x : j < k). inr (λ e. omega (arith, x, e)))
    (λ y. ⊎_elim (λ (x : k < j). inr (λ e. omega (arith, x, e))) (λ (x : j ≡ k). inl x) y) (order j k)
  where
    order : (j k : ℕ) → (j < k) ⊎ ((k < j) ⊎ (j ≡ k))
    order j k = grind arith

pub some_at : (vs : List Value) (k : ℕ) → k < length vs → (v : Value) × (slice_get vs k ≡ Some v)
some_at [] k low = absurd (omega (arith, low))
some_at (v ∷ vs) zero low = (v, refl)
some_at (v ∷ vs) (suc k) low = some_at vs k (omega (arith, low))

pub known_below : (values : List Value) (s : Node) (j : ℕ) → BeginsKnown values s → 1 ≤ j
    → j < suc (length values) → (v : Value) × (s.known j ≡ Some v)
known_below values s zero begins some low = absurd (omega (arith, some))
known_below values s (suc k) begins some low = let v = some_at values k (omega (arith, low))
    in (v.0, begins k v.0 v.1)

-- an unknown instance is not among those of the known values
pub not_below : (values : List Value) (s : Node) (j : ℕ) → BeginsKnown values s → IsInstance j
    → s.known j ≡ None → suc (length values) ≤ j
not_below values s zero begins instance unknown = absurd (let low = instance.0 in omega (arith, low))
not_below values s (suc k) begins instance unknown = by (sides k (length values))
  where
    sides : (k n : ℕ) → (k < n) ⊎ (n ≤ k)
    sides k n = grind arith

    by : (k < length values) ⊎ (length values ≤ k) → suc (length values) ≤ suc k
    by h = ⊎_elim (λ low. let v = some_at values k low in absurd
        (no_value v.0 (sym unknown ∙ begins k v.0 v.1))) (λ (high : length values ≤ k). omega (arith, high)) h

pub span_keeps : (i : ℕ) (b : BallotOf) (vs : List Value) (f : ℕ → Option Attempt) (j : ℕ) → i < j
    → opened_span f j b vs i ≡ f i
span_keeps i b [] f j above = refl
span_keeps i b (v ∷ vs) f j above = span_keeps i b vs (put_at f j (Some (opened b v))) (suc j)
    (omega (arith, above)) ∙ put_other f j (Some (opened b v)) i (λ e. omega (arith, e, above))

none_untried : (s : Node) (vs left : List Value) → 1 ≤ length vs → s.pending ≡ []
    → AreUntried s s.pending (vs ++ left) → ⊥
none_untried s [] left some none how = omega (arith, some)
none_untried s (v ∷ vs) left some none how = let e : v ∷ (vs ++ left) ≡ [] = subst
    (λ l. AreUntried s l (v ∷ (vs ++ left))) none how in absurd (cc)

module _ (q : ℕ) (values : List Value) (Only : BallotOf → Type 0) (Mine : Vote → Type 0) where
  abbrev i : ℕ
  i = suc (length values)

  abbrev Beside : Node → Effect → Type 0
  Beside s effect = IsBeside q values Only Mine s effect

  beside_same : (s : Node) (effect : Effect) → effect ≡ quiet s → Beside s effect
  beside_same s effect is = record {
    known = ap (λ (x : Effect). x.after.known) is;
    attempts = ap (λ (x : Effect). x.after.attempts i) is;
    pending = ap (λ (x : Effect). x.after.pending) is;
    reached = ap (λ (x : Effect). x.after.reached) is;
    entry = fair_none i Only Mine effect.entry (ap (λ (x : Effect). x.entry) is);
    out = λ x k. absurd (subst (λ (y : Effect). In y.out x) is k);
  }

  module _ (s : Node) (clean : IsClean values Only Mine s) where
    free_above : (j : ℕ) → IsInstance j → s.known j ≡ None → j ≢ i → i < j
    free_above j instance unknown apart = let low = not_below values s j clean.begins instance unknown
        in strict i j low apart
      where
        strict : (i j : ℕ) → i ≤ j → j ≢ i → i < j
        strict i j low apart = grind arith

    free_apart : (o : Option Attempt) (effect : Effect) → IsBusy i o s → (begins : Begins q s effect)
        → begins.instance ≢ i
    free_apart (Some a) effect busy begins e = no_attempt a (sym begins.span.start.free.untried
        ∙ ap s.attempts e ∙ busy)
    free_apart None effect busy begins e = none_untried s begins.values begins.span.left begins.span.some busy
        begins.span.oldest

    pub on_widen : (o : Option Attempt) (effect : Effect) → IsBusy i o s → Widens q s effect → Beside s effect
    on_widen o effect busy how =
        ⊎_elim
        (λ (x : Begins q s effect).
        let free = x.span.start.free in
        let above = free_above x.instance free.instance free.unknown (free_apart o effect busy x) in
        let m = Prepare q x.instance (fresh_ballot q s) (length x.values) in
        record {
          known = ap (λ (y : Effect). y.after.known) x.is;
          attempts = ap (λ (y : Effect). y.after.attempts i) x.is
              ∙ span_keeps i (fresh_ballot q s) x.values s.attempts x.instance above;
          pending = ap (λ (y : Effect). y.after.pending) x.is;
          reached = ap (λ (y : Effect). y.after.reached) x.is;
          entry = fair_some i Only Mine effect.entry (Round (fresh_ballot q s).round)
              (ap (λ (y : Effect). y.entry) x.is) (fair_round i Only Mine (fresh_ballot q s).round);
          out = λ y k. ⊎_elim
              (λ (e : (All, m) ≡ y). subst (λ (z : To × Message). IsAsideOr q i Mine z.1) e
              (inl (inr (inr (inl above)), low_of x.instance free.instance)))
              (λ none. absurd none)
              (subst (λ (z : Effect). In z.out y) x.is k);
        })
        (λ (x : (¬ MayWiden s) × (effect ≡ quiet s)). beside_same s effect x.1)
        how

    pub on_ask : (effect : Effect) → Asks q s effect → Beside s effect
    on_ask effect how = record {
      known = ap (λ (y : Effect). y.after.known) how.is;
      attempts = ap (λ (y : Effect). y.after.attempts i) how.is;
      pending = ap (λ (y : Effect). y.after.pending) how.is;
      reached = ap (λ (y : Effect). y.after.reached) how.is;
      entry = fair_none i Only Mine effect.entry (ap (λ (x : Effect). x.entry) how.is);
      out = λ y k. ⊎_elim
          (λ (e : (All, Ask q how.instance) ≡ y). subst (λ (z : To × Message). IsAsideOr q i Mine z.1) e
          (inl (inr (inl refl), low_of how.instance how.first.instance)))
          (λ none. absurd none)
          (subst (λ (z : Effect). In z.out y) how.is k);
    }

    pub on_keep : (j : ℕ) (effect : Effect) → Keeps s j effect → Beside s effect
    on_keep j effect how =
        ⊎_elim
        (λ (x : KeepsOne s j effect). record {
          known = ap (λ (y : Effect). y.after.known) x.is;
          attempts = ap (λ (y : Effect). y.after.attempts i) x.is;
          pending = ap (λ (y : Effect). y.after.pending) x.is;
          reached = ap (λ (y : Effect). y.after.reached) x.is;
          entry = fair_some i Only Mine effect.entry (Learned j x.value) (ap (λ (y : Effect). y.entry) x.is)
              (fair_learned i Only Mine j x.value (λ e. no_value x.value
              (sym clean.unknown ∙ ap s.known (sym e) ∙ x.unkept.known)));
          out = λ y k. absurd (subst (λ (z : Effect). In z.out y) x.is k);
        })
        (λ (x : (¬ MayKeep s j) × (effect ≡ quiet s)). beside_same s effect x.1)
        how

    none_remembered : remembered s i ≡ None
    none_remembered = ap (λ o. or_else o (learned_at i s.entries)) clean.unknown ∙ clean.unlearned

    told_aside : (m : Message) (j : ℕ) → j < 2 ^ 32 → IsToldOf q s m j → IsAsideOr q i Mine m
    told_aside m j low told =
        ⊎_elim
        (λ (x : (v : Value) × (remembered s j ≡ Some v) × (m ≡ Chosen q j v)).
        subst (IsAsideOr q i Mine) (sym x.2)
        (inl (
          aside_of i 7 j (λ e. omega (arith, e)) (λ e. no_value x.0
              (sym none_remembered ∙ ap (remembered s) (sym e) ∙ x.1)),
          low,
        )))
        (λ x. subst (IsAsideOr q i Mine) (sym x.4) (⊎_elim
        (λ (e : j ≡ i). inr (
          x.0,
          clean.voted x.0 (ap (λ k. last_vote k s.entries) (sym e) ∙ x.2),
          ap
              (λ k. Accepted q k x.0.ballot x.0.value) e,
        ))
        (λ (apart : j ≢ i). inl (aside_of i 4 j (λ e. omega (arith, e)) apart, low))
        (either j i)))
        told.is

    pub on_tell : (to : To) (first : ℕ) (effect : Effect) → first ≤ 1000000 → effect ≡ tells q s to first
        → Beside s effect
    on_tell to first effect low is = record {
      known = ap (λ (y : Effect). y.after.known) is;
      attempts = ap (λ (y : Effect). y.after.attempts i) is;
      pending = ap (λ (y : Effect). y.after.pending) is;
      reached = ap (λ (y : Effect). y.after.reached) is;
      entry = fair_none i Only Mine effect.entry (ap (λ (x : Effect). x.entry) is);
      out = λ y k.
          let t = each_told q s to first y (subst (λ (z : Effect). In z.out y) is k) in
          let high = t.1.1 in
          told_aside y.1 t.0 (omega (arith, high, low)) t.2;
    }
