-- A span on record: the slot of each of its instances.
use Rattle.std.proofs.Common.{◌≡◌, inl, inr, ⊎_elim, ℕ, Bool, true, false, cond, List, [], ◌∷◌, ◌++◌, Option, Some, None, refl, sym, subst, ◌∙◌, arith}
use Rattle.std.specs.Prelude.{nat_eq}
use Rattle.std.proofs.lemmas.Bool.Decides.{nat_tests}
use Rattle.site_ids.specs.Ids.{BallotOf, Below, NotAbove}
use Rattle.site_ids.specs.Lists.{In}
use Rattle.site_ids.specs.Spans.{IsInSpan}
use Rattle.acceptor.specs.declared.slot.Slot.{Slot}
use Rattle.acceptor.specs.Judging.{IsFreeBelow, IsVotedAt}
use Rattle.acceptor.specs.Steps.{Answer, promise, accepted, nack, no_answer, prepare, Steps, with_promise}
use Rattle.durable.specs.Entries.{Entry, Promised, PromisedSpan, Raises, IsPromise, IsSlot, last_vote, promise_of}
use Rattle.durable.specs.Raising.{IsRaised}
use Rattle.durable.proofs.Push.{in_push, in_left, vote_after-push, promise_raised}

over : (a b c : BallotOf) → NotAbove a b → Below b c → NotAbove a c
over a b c h k = grind arith

same_ballot : (a b : BallotOf) → a ≡ b → NotAbove a b
same_ballot a b e = subst (NotAbove a) e (itself a)
  where
    itself : (a : BallotOf) → NotAbove a a
    itself a = grind arith

-- a ballot above the promise is above each ballot raised
above_free : (es : List Entry) (j : ℕ) (b : BallotOf) (p : Option BallotOf) → IsPromise es j p → IsFreeBelow p b → (f : Entry) (c : BallotOf) → In es f → Raises f j c → NotAbove c b
above_free es j b None is free f c k r = absurd (is f c k r)
above_free es j b (Some d) is free f c k r = over c d b (is.1 f c k r) free

-- an entry that raises one ballot at the instance, no higher than its promise, leaves it
promise_stays : (es : List Entry) (e : Entry) (j : ℕ) (b c : BallotOf) → ((d : BallotOf) → Raises e j d → d ≡ b) → NotAbove b c → IsPromise es j (Some c) → IsPromise (es ++ e ∷ []) j (Some c)
promise_stays es e j b c only low is = (
  (is.0.0, in_left es (e ∷ []) is.0.0 is.0.1, is.0.2),
  λ f d k r. ⊎_elim (λ x. is.1 f d x r) (λ (x : e ≡ f). subst (λ y. NotAbove y c) (sym (only d (subst (λ (y : Entry). Raises y j d) (sym x) r))) low) (in_push es e f k),
)

-- the slot of an instance whose promise the entry raises, or which it leaves
pub slot_raised : (es : List Entry) (e : Entry) (j : ℕ) (b : BallotOf) (s t : Slot) → Raises e j b → ((d : BallotOf) → Raises e j d → d ≡ b) → last_vote j (es ++ e ∷ []) ≡ last_vote j es → IsSlot es j s → IsRaised s b t → IsSlot (es ++ e ∷ []) j t
slot_raised es e j b s t raises only votes is how =
    ⊎_elim
    (λ (x : IsFreeBelow s.promised b × (t ≡ with_promise s b)). subst (λ y. IsSlot (es ++ e ∷ []) j y) (sym x.1)
    (record { promise = promise_raised es e j b raises only (above_free es j b s.promised is.promise x.0); vote = is.vote ∙ sym votes }))
    (λ (x : (c : BallotOf) × (s.promised ≡ Some c) × NotAbove b c × (t ≡ s)). subst (λ y. IsSlot (es ++ e ∷ []) j y) (sym x.3) (record {
      promise = subst (λ p. IsPromise (es ++ e ∷ []) j p) (sym x.1) (promise_stays es e j b x.0 only x.2 (subst (λ p. IsPromise es j p) x.1 is.promise));
      vote = is.vote ∙ sym votes;
    }))
    how

-- the acceptor's step at an instance of a span raises its promise, or leaves it
pub steps_raise : (s t : Slot) (b : BallotOf) (answer : Answer) → Steps s (prepare b) t answer → IsRaised s b t
steps_raise s t b (promise prior) step = ⊎_elim
    (λ (x : IsFreeBelow s.promised b × (t ≡ with_promise s b)). inl x)
    (λ (x : (s.promised ≡ Some b) × (¬ IsVotedAt s.vote b) × (t ≡ s)). inr (b, x.0, same_ballot b b refl, x.2))
    step.1
steps_raise s t b (nack c) step = inr (c, step.0.0, below c step.0.1, step.1)
  where
    below : (c : BallotOf) → Below b c → NotAbove b c
    below c low = grind arith
steps_raise s t b no_answer step = inr (b, step.0, same_ballot b b refl, step.2)
steps_raise s t b accepted step = absurd step

-- ---- the entry of a span

number_one : (k : ℕ) → nat_eq k 1 ≡ true → k ≡ 1
number_one k = grind (arith, nat_tests)

raises_by : (t : Bool) (i k j : ℕ) (b : BallotOf) → nat_eq k 1 ≡ t → IsInSpan i k j → Raises (cond t (Promised i b) (PromisedSpan i k b)) j b
raises_by true i k j b is within = (let one = number_one k is in omega (arith, one, within.0, within.1), refl)
raises_by false i k j b is within = (within, refl)

only_by : (t : Bool) (i k j : ℕ) (b d : BallotOf) → Raises (cond t (Promised i b) (PromisedSpan i k b)) j d → d ≡ b
only_by true i k j b d r = sym r.1
only_by false i k j b d r = sym r.1

votes_by : (t : Bool) (i k j : ℕ) (b : BallotOf) (es : List Entry) → last_vote j (es ++ cond t (Promised i b) (PromisedSpan i k b) ∷ []) ≡ last_vote j es
votes_by true i k j b es = vote_after-push j None es (Promised i b ∷ [])
votes_by false i k j b es = vote_after-push j None es (PromisedSpan i k b ∷ [])

-- what is judged is what goes on record: the slot of each instance of the span, by the entries with the
-- span's, is the one after the acceptor's step
pub span_recorded : (es : List Entry) (i k j : ℕ) (b : BallotOf) (s t : Slot) (answer : Answer) → IsInSpan i k j → IsSlot es j s → Steps s (prepare b) t answer → IsSlot (es ++ promise_of i k b ∷ []) j t
span_recorded es i k j b s t answer within is step =
    slot_raised es (promise_of i k b) j b s t (raises_by (nat_eq k 1) i k j b refl within) (λ d r. only_by (nat_eq k 1) i k j b d r) (votes_by (nat_eq k 1) i k j b es) is (steps_raise s t b answer step)
