-- Messages and entries that are about other instances than one, and a node that knows nothing of that one.
use Rattle.std.proofs.Common.{◌≡◌, ◌≢◌, ◌⊎◌, inl, inr, ⊎_elim, ℕ, suc, ◌<◌, Bool, true, false, cond, Option}
use Rattle.std.proofs.Common.{Some, None, List, [], ◌∷◌, length, refl, sym, ap, subst, ◌∙◌, arith}
use Rattle.std.specs.Prelude.{◌^◌, nat_eq}
use Rattle.std.proofs.lemmas.Bool.Decides.{nat_tests}
use Rattle.site_ids.specs.Ids.{BallotOf}
use Rattle.site_ids.specs.Lists.{In}
use Rattle.site_ids.specs.declared.value.Vote.{Vote}
use Rattle.site_ids.proofs.MemberLemmas.{in_push}
use Rattle.wire.specs.declared.message.Message.{Message}
use Rattle.wire.specs.Messages.{kind_of, instance_of}
use Rattle.durable.specs.Entries.{Entry, Round, Promised, PromisedSpan, Voted, Learned, Raises, vote_after}
use Rattle.durable.specs.Entries.{last_vote, learned_at, floor_of, promise_of, with_entry}
use Rattle.durable.proofs.Push.{vote_after-push, learned_at-kept, floor_of-push}
use Rattle.node.specs.Nodes.{Value, Node, IsMute, BeginsKnown}
use Rattle.node.specs.Effects.{Effect, recorded}

-- a message of this kind and of instance j is not about instance i: no attempt, vote or value there
abbrev pub IsAside : ℕ → ℕ → ℕ → Type 0
IsAside i kind j = (kind ≡ 5) ⊎ ((kind ≡ 6) ⊎ ((i < j) ⊎ ((kind ≢ 1) × (j < i))))

abbrev pub IsElsewhere : ℕ → Message → Type 0
IsElsewhere i m = IsAside i (kind_of m) (instance_of m)

-- four bytes spell its instance
abbrev pub IsLow : Message → Type 0
IsLow m = instance_of m < 2 ^ 32

pub aside_of : (i kind j : ℕ) → kind ≢ 1 → j ≢ i → IsAside i kind j
aside_of i kind j other apart = inr
    (inr (⊎_elim (λ (x : i < j). inl x) (λ (x : j < i). inr (other, x)) (sides i j apart)))
  where
    sides : (i j : ℕ) → j ≢ i → (i < j) ⊎ (j < i)
    sides i j apart = grind arith

pub aside_apart : (i kind j : ℕ) → kind ≢ 5 → kind ≢ 6 → IsAside i kind j → j ≢ i
aside_apart i kind j a b h = ⊎_elim (λ x. absurd (a x)) (λ y.
    ⊎_elim (λ x. absurd (b x)) (λ z. ⊎_elim (λ (x : i < j) e. omega (arith, x, e))
    (λ (x : (kind ≢ 1) × (j < i)) e. let low = x.1 in omega (arith, low, e)) z) y) h

pub aside_above : (i j : ℕ) → IsAside i 1 j → i < j
aside_above i j h = ⊎_elim (λ (x : 1 ≡ 5). absurd (omega (arith, x)))
    (λ y. ⊎_elim (λ (x : 1 ≡ 6). absurd (omega (arith, x))) (λ z.
    ⊎_elim (λ (x : i < j). x) (λ (x : (1 ≢ 1) × (j < i)). absurd (x.0 refl)) z) y) h

inside_entry : (a b : Entry) → Some a ≡ Some b → a ≡ b
inside_entry a b e = cc

no_entry : (a : Entry) → ◌≡◌ {A = Option Entry} None (Some a) → ⊥
no_entry a e = cc

-- ---- an entry

-- it raises only such ballots at the instance. It leaves the last vote there, or puts such a vote
pub record IsFair (i : ℕ) (Only : BallotOf → Type 0) (Mine : Vote → Type 0) (e : Entry) : Type 0 where
  pub raises : (c : BallotOf) → Raises e i c → Only c
  pub votes : (last : Option Vote) → (vote_after i last (e ∷ []) ≡ last)
      ⊎ ((w : Vote) × Mine w × (vote_after i last (e ∷ []) ≡ Some w))
  pub learns : learned_at i (e ∷ []) ≡ None
  pub floor : floor_of (e ∷ []) ≡ 0

not_same : (i j : ℕ) → j ≢ i → nat_eq j i ≡ false
not_same i j apart = grind (arith, nat_tests)

module _ (i : ℕ) (Only : BallotOf → Type 0) (Mine : Vote → Type 0) where
  pub fair_round : (r : ℕ) → IsFair i Only Mine (Round r)
  fair_round r = record { raises = λ c h. absurd h; votes = λ last. inl refl; learns = refl; floor = refl }

  pub fair_promise : (j : ℕ) (b : BallotOf) → j ≢ i → IsFair i Only Mine (Promised j b)
  fair_promise j b apart = record {
    raises = λ c h. absurd (apart h.0);
    votes = λ last. inl refl;
    learns
        = refl;
    floor = refl;
  }

  pub fair_span : (j k : ℕ) (b : BallotOf) → i < j → IsFair i Only Mine (PromisedSpan j k b)
  fair_span j k b above = record {
    raises = λ c h. absurd (let low = h.0.0 in omega (arith, low, above));
    votes = λ last. inl refl;
    learns = refl;
    floor = refl;
  }

  pub fair_vote : (j : ℕ) (b : BallotOf) (v : Value) → j ≢ i → IsFair i Only Mine (Voted j b v)
  fair_vote j b v apart = record {
    raises = λ c h. absurd (apart h.0);
    votes = λ last. inl (ap (λ t. cond t (Some (record { ballot = b; value = v })) last)
        (not_same i j apart));
    learns = refl;
    floor = refl;
  }

  pub fair_learned : (j : ℕ) (v : Value) → j ≢ i → IsFair i Only Mine (Learned j v)
  fair_learned j v apart = record {
    raises = λ c h. absurd h;
    votes = λ last. inl refl;
    learns = ap (λ t. cond t (Some v) None) (not_same i j apart);
    floor = refl;
  }

  pub fair_prepared : (j k : ℕ) (b : BallotOf) → i < j → IsFair i Only Mine (promise_of j k b)
  fair_prepared j k b above = by (nat_eq k 1)
    where
      by : (t : Bool) → IsFair i Only Mine (cond t (Promised j b) (PromisedSpan j k b))
      by true = fair_promise j b (λ e. omega (arith, e, above))
      by false = fair_span j k b above

-- ---- a node

-- A node that knows these values and not the next one. Of that instance its record has only such ballots and
-- such votes, and no value
pub record IsClean (values : List Value) (Only : BallotOf → Type 0) (Mine : Vote → Type 0) (s : Node) : Type 0
  where
    pub begins : BeginsKnown values s
    pub unknown : s.known (suc (length values)) ≡ None
    pub raised : (e : Entry) (c : BallotOf) → In s.entries e → Raises e (suc (length values)) c → Only c
    pub voted : (x : Vote) → last_vote (suc (length values)) s.entries ≡ Some x → Mine x
    pub unlearned : learned_at (suc (length values)) s.entries ≡ None
    pub not_mute : ¬ IsMute s (suc (length values))

-- such an entry goes on record, or none
pub record IsFairOr (i : ℕ) (Only : BallotOf → Type 0) (Mine : Vote → Type 0) (o : Option Entry) : Type 0
  where
    pub each : (e : Entry) → o ≡ Some e → IsFair i Only Mine e

pub fair_none : (i : ℕ) (Only : BallotOf → Type 0) (Mine : Vote → Type 0) (o : Option Entry) → o ≡ None
    → IsFairOr i Only Mine o
fair_none i Only Mine o is = record { each = λ e at. absurd (no_entry e (sym is ∙ at)) }

pub fair_some : (i : ℕ) (Only : BallotOf → Type 0) (Mine : Vote → Type 0) (o : Option Entry) (e : Entry)
    → o ≡ Some e → IsFair i Only Mine e → IsFairOr i Only Mine o
fair_some i Only Mine o e is fair = record {
  each = λ f at. subst (IsFair i Only Mine)
      (inside_entry e f (sym is ∙ at)) fair;
}

inside_vote : (a b : Vote) → Some a ≡ Some b → a ≡ b
inside_vote a b e = cc

module _ (values : List Value) (Only : BallotOf → Type 0) (Mine : Vote → Type 0) where
  abbrev i : ℕ
  i = suc (length values)

  pushed : (s t : Node) (o : Option Entry) → IsClean values Only Mine s → IsFairOr i Only Mine o
      → t.entries ≡ with_entry s.entries o → BeginsKnown values t → t.known i ≡ None
      → IsClean values Only Mine t
  pushed s t None clean fair is begins unknown = record {
    begins = begins;
    unknown = unknown;
    raised = λ e c k. clean.raised e c (subst (λ l. In l e) is k);
    voted = λ x at. clean.voted x (sym (ap (λ l. last_vote i l) is) ∙ at);
    unlearned = ap (λ l. learned_at i l) is ∙ clean.unlearned;
    not_mute = λ mute. clean.not_mute (let f = ap floor_of is in omega (arith, f, mute));
  }
  pushed s t (Some e) clean fair is begins unknown =
      let f = fair.each e refl in
      let past = vote_after-push i None s.entries (e ∷ []) in
      record {
        begins = begins;
        unknown = unknown;
        raised = λ x c k r. ⊎_elim
            (λ old. clean.raised x c old r)
            (λ (new : e ≡ x). f.raises c (subst (λ y. Raises y i c) (sym new) r))
            (in_push s.entries e x (subst (λ l. In l x) is k));
        voted = λ x at. ⊎_elim
            (λ same. clean.voted x (sym same ∙ sym past ∙ sym (ap (λ l. last_vote i l) is) ∙ at))
            (λ (w : (w : Vote) × Mine w × (vote_after i (last_vote i s.entries) (e ∷ []) ≡ Some w)).
            subst Mine (inside_vote w.0 x (sym w.2 ∙ sym past ∙ sym (ap (λ l. last_vote i l) is) ∙ at)) w.1)
            (f.votes (last_vote i s.entries));
        unlearned = ap (λ l. learned_at i l) is ∙ learned_at-kept i s.entries e f.learns ∙ clean.unlearned;
        not_mute = λ mute. clean.not_mute (let g = ap floor_of is
            ∙ floor_of-push s.entries e f.floor in omega (arith, g, mute));
      }

  -- a call keeps the node clean if it leaves the instance unknown, and puts such an entry or none
  pub clean_on : (s : Node) (effect : Effect) → IsClean values Only Mine s → IsFairOr i Only Mine effect.entry
      → BeginsKnown values (recorded s effect) → effect.after.known i ≡ None
      → IsClean values Only Mine (recorded s effect)
  clean_on s effect clean fair begins unknown = pushed s (recorded s effect) effect.entry clean fair refl
      begins unknown
