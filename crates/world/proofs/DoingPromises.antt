-- What a promise does, by tables.
use Rattle.std.proofs.Common.{◌≡◌, ◌⊎◌, inl, inr, ℕ, Option, Some, None, List, [], ◌∷◌, refl, sym, ap, subst, ⊎_elim, ◌∙◌}
use Rattle.site_ids.specs.Ids.{BallotOf, Below, NotAbove}
use Rattle.site_ids.specs.Lists.{In, put_at}
use Rattle.site_ids.specs.declared.value.Vote.{Vote}
use Rattle.wire.specs.declared.message.Message.TheVariants.{Propose}
use Rattle.proposer.specs.Attempts.{Answer, Attempt, waiting, proposing, senders, with_answer, Counts, ToldNone, Highest, Chooses}
use Rattle.node.specs.declared.to.To.TheVariants.{All}
use Rattle.node.specs.Nodes.{Value}
use Rattle.node.specs.Deliveries.{OnPromise}
use Rattle.world.proofs.Order.{not_above_itself, not_above_trans, below_is_not_above}
use Rattle.world.proofs.Told.{Told, both, otherwise, numbers, ballots, ballot_order, among, majority}
use Rattle.world.proofs.Tables.{map_of, NodeBy, node_by}
use Rattle.world.proofs.DoingVotes.{Done, no_such, nothing_there, inside}

abbrev pub Chosen_of : List ℕ → List Answer → Type 0
Chosen_of own answers = (v : Value) × Chooses own answers v

abbrev pub Best : List Answer → Type 0
Best answers = ToldNone answers ⊎ ((v : Value) × Highest answers v)

pub none_first : (x : Answer) (answers : List Answer) → x.prior ≡ None → ToldNone answers → ToldNone (x ∷ answers)
none_first x answers is none y k = ⊎_elim (λ (e : x ≡ y). subst (λ (z : Answer). z.prior ≡ None) e is) (λ k. none y k) k

pub highest_later : (x : Answer) (answers : List Answer) (v : Value) → x.prior ≡ None → Highest answers v → Highest (x ∷ answers) v
highest_later x answers v is h = (
  h.0,
  h.1,
  inr h.2,
  h.3,
  λ y w k told. ⊎_elim (λ (e : x ≡ y). absurd (no_such w (sym is ∙ ap (λ (z : Answer). z.prior) e ∙ told))) (λ k. h.4 y w k told) k,
)

pub told_first : (x y : Answer) (w u : Vote) → x.prior ≡ Some w → x ≡ y → y.prior ≡ Some u → u.ballot ≡ w.ballot
told_first x y w u is e told = ap (λ (z : Vote). z.ballot) (inside u w (sym told ∙ sym (ap (λ (z : Answer). z.prior) e) ∙ is))

pub highest_first : (x : Answer) (answers : List Answer) (w : Vote) → x.prior ≡ Some w → ((y : Answer) (u : Vote) → In answers y → y.prior ≡ Some u → NotAbove u.ballot w.ballot) → Highest (x ∷ answers) w.value
highest_first x answers w is most = (
  x,
  w.ballot,
  inl refl,
  is,
  λ y u k told. ⊎_elim (λ (e : x ≡ y). subst (λ (c : BallotOf). NotAbove c w.ballot) (sym (told_first x y w u is e told)) (not_above_itself w.ballot)) (λ k. most y u k told) k,
)

pub highest_kept : (x : Answer) (answers : List Answer) (w : Vote) (v : Value) (h : Highest answers v) → x.prior ≡ Some w → NotAbove w.ballot h.1 → Highest (x ∷ answers) v
highest_kept x answers w v h is low = (
  h.0,
  h.1,
  inr h.2,
  h.3,
  λ y u k told. ⊎_elim (λ (e : x ≡ y). subst (λ (c : BallotOf). NotAbove c h.1) (sym (told_first x y w u is e told)) low) (λ k. h.4 y u k told) k,
)

pub none_over : (answers : List Answer) (w : Vote) → ToldNone answers → (y : Answer) (u : Vote) → In answers y → y.prior ≡ Some u → NotAbove u.ballot w.ballot
none_over answers w none y u k told = absurd (no_such u (sym (none y k) ∙ told))

pub all_under : (answers : List Answer) (w : Vote) (v : Value) (h : Highest answers v) → Below h.1 w.ballot → (y : Answer) (u : Vote) → In answers y → y.prior ≡ Some u → NotAbove u.ballot w.ballot
all_under answers w v h over y u k told = not_above_trans u.ballot h.1 w.ballot (h.4 y u k told) (below_is_not_above h.1 w.ballot over)

abbrev pub with_best : (x : Answer) (answers : List Answer) (prior : Option Vote) → x.prior ≡ prior → Best answers → Best (x ∷ answers)
with_best x answers None is (inl none) = inl (none_first x answers is none)
with_best x answers None is (inr h) = inr (h.0, highest_later x answers h.0 is h.1)
with_best x answers (Some w) is (inl none) = inr (w.value, highest_first x answers w is (none_over answers w none))
with_best x answers (Some w) is (inr h) = elim (ballot_order w.ballot h.1.1) [
  | inl low ↦ inr (h.0, highest_kept x answers w h.0 h.1 is low)
  | inr over ↦ inr (w.value, highest_first x answers w is (all_under answers w h.0 h.1 over))
]

abbrev pub best : (answers : List Answer) → Best answers
best [] = inl (λ x k. absurd k)
best (x ∷ answers) = with_best x answers x.prior refl (best answers)

abbrev pub chosen_of : (own : List ℕ) (answers : List Answer) → Chosen_of own answers
chosen_of own answers = elim (best answers) [ inl none ↦ (own, inl (none, refl)) | inr h ↦ (h.0, inr h.1) ]

abbrev pub unproposed : (o : Option Value) → Told (o ≡ None)
unproposed None = inl refl
unproposed (Some v) = inr (λ e. nothing_there v e)

abbrev pub counts : (a : Attempt) (q : ℕ) (b : BallotOf) → Told (Counts a q b)
counts a q b = elim (both (ballots a.ballot b) (both (unproposed a.proposal) (otherwise (among numbers (senders a.answers) q)))) [
  | inl x ↦ inl (x.0, x.1.0, x.1.1)
  | inr not_so ↦ inr (λ c. not_so (c.0, (c.1, c.2)))
]

pub none_open : (t : NodeBy) (q i : ℕ) (b : BallotOf) → map_of t.attempts i ≡ None → (a : Attempt) → map_of t.attempts i ≡ Some a → ¬ Counts a q b
none_open t q i b is a there = absurd (no_such a (sym is ∙ there))

pub counts_not : (t : NodeBy) (q i : ℕ) (b : BallotOf) (a : Attempt) → map_of t.attempts i ≡ Some a → ¬ Counts a q b → (c : Attempt) → map_of t.attempts i ≡ Some c → ¬ Counts c q b
counts_not t q i b a is none c there = subst (λ x. ¬ Counts x q b) (inside a c (sym is ∙ there)) none

abbrev pub on_promise : (n p : ℕ) (t : NodeBy) (q i : ℕ) (b : BallotOf) (prior : Option Vote) → Done (OnPromise n p (node_by t) q i b prior)
on_promise n p t q i b prior = elim (map_of t.attempts i) as (λ o. map_of t.attempts i ≡ o → Done (OnPromise n p (node_by t) q i b prior)) [
  | None ↦ λ is. record {
    entry = None;
    after = t;
    out = [];
    does = record { attempts = map_of t.attempts; proposed = None; step = inl (none_open t q i b is, refl); is = refl };
  }
  | Some a ↦ λ is. elim (counts a q b) [
    | inr none ↦ record {
      entry = None;
      after = t;
      out = [];
      does = record { attempts = map_of t.attempts; proposed = None; step = inl (counts_not t q i b a is none, refl); is = refl };
    }
    | inl count ↦ elim (majority n (senders (with_answer a q prior))) [
      | inr few ↦ record {
        entry = None;
        after = record t { attempts = (i, Some (waiting a q prior)) ∷ t.attempts };
        out = [];
        does = record { attempts = put_at (map_of t.attempts) i (Some (waiting a q prior)); proposed = None; step = inr (a, is, count, few, refl); is = refl };
      }
      | inl many ↦
          let v = chosen_of a.own (with_answer a q prior) in
          record {
            entry = None;
            after = record t { attempts = (i, Some (proposing a q prior v.0)) ∷ t.attempts };
            out = (All, Propose p i b v.0) ∷ [];
            does = record { attempts = put_at (map_of t.attempts) i (Some (proposing a q prior v.0)); proposed = Some v.0; step = (a, is, count, many, v.1, refl); is = refl };
          }
    ]
  ]
] refl
