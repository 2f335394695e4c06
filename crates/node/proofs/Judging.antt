-- Spans judged instance by instance.
use Rattle.std.proofs.Common.{◌≡◌, ◌≢◌, ◌⊎◌, inl, inr, ⊎_elim, ℕ, suc, ◌+◌, Bool, true, false, cond, Option, List, [], ◌∷◌, ◌++◌, length, length-append, append_assoc, append-nil, refl, sym, ap, subst, ◌∙◌, arith}
use Rattle.std.specs.Prelude.{nat_eq}
use Rattle.std.proofs.lemmas.Bool.Decides.{nat_tests}
use Rattle.site_ids.specs.Ids.{BallotOf}
use Rattle.site_ids.specs.Spans.{IsInSpan}
use Rattle.site_ids.proofs.MemberLemmas.{in_left, in_push, in_last}
use Rattle.site_ids.specs.declared.value.Vote.{Vote}
use Rattle.wire.specs.declared.message.Message.{Message}
use Rattle.acceptor.specs.declared.slot.Slot.{Slot}
use Rattle.acceptor.specs.Judging.{IsFreeBelow}
use Rattle.acceptor.specs.Steps.{Answer, promise, accepted, nack, no_answer, prepare, with_promise, Steps}
use Rattle.durable.specs.Entries.{Entry, Promised, PromisedSpan, IsSlot, promise_of}
use Rattle.node.specs.declared.to.To.{To}
use Rattle.node.specs.declared.prepared.Judgement.{Judgement}
use Rattle.node.specs.Deliveries.{Judged, AreJudged, prepare_out, span_out}
use Rattle.node.specs.Judgements.{AreJudgedAt, Rises, IsJudgement, JudgesMore, IsOwed}

-- ---- the entry

pub promise_of_one : (i k : ℕ) (b : BallotOf) → k ≡ 1 → promise_of i k b ≡ Promised i b
promise_of_one i k b is = ap (λ (n : ℕ). promise_of i n b) is

pub promise_of_more : (i k : ℕ) (b : BallotOf) → k ≢ 1 → promise_of i k b ≡ PromisedSpan i k b
promise_of_more i k b other =
    elim (nat_eq k 1) as (λ t. nat_eq k 1 ≡ t → cond t (Promised i b) (PromisedSpan i k b) ≡ PromisedSpan i k b) [ true ↦ λ is. absurd (other (same k is)) | false ↦ λ is. refl ] refl
  where
    same : (k : ℕ) → nat_eq k 1 ≡ true → k ≡ 1
    same k = grind (arith, nat_tests)

-- ---- one instance more

nothing_past : (i : ℕ) → i + 0 ≡ i
nothing_past i = omega arith

one_past : (i k : ℕ) → i + suc k ≡ suc i + k
one_past i k = omega arith

judged_more : (slots : ℕ → Slot) (b : BallotOf) (i : ℕ) (xs : List Judged) (x : Judged) → AreJudgedAt slots b i xs → x.slot ≡ slots (i + length xs) → Steps x.slot (prepare b) x.after x.answer
    → AreJudgedAt slots b i (xs ++ x ∷ [])
judged_more slots b i [] x are is steps = (is ∙ ap slots (nothing_past i), steps, tt)
judged_more slots b i (y ∷ xs) x are is steps = (are.0, are.1, judged_more slots b (suc i) xs x are.2 (is ∙ ap slots (one_past i (length xs))) steps)

out_more : (p i : ℕ) (b : BallotOf) (xs : List Judged) (x : Judged) → span_out p i b (xs ++ x ∷ []) ≡ span_out p i b xs ++ prepare_out p (i + length xs) b x.answer
out_more p i b [] x = append-nil (prepare_out p i b x.answer) ∙ ap (λ (j : ℕ). prepare_out p j b x.answer) (sym (nothing_past i))
out_more p i b (y ∷ xs) x =
    ap (λ l. prepare_out p i b y.answer ++ l) (out_more p (suc i) b xs x ∙ ap (λ (j : ℕ). span_out p (suc i) b xs ++ prepare_out p j b x.answer) (sym (one_past i (length xs))))
    ∙ sym (append_assoc (prepare_out p i b y.answer) (span_out p (suc i) b xs) (prepare_out p (i + length (y ∷ xs)) b x.answer))

rises_still : (xs : List Judged) (x : Judged) (r : Bool) → x.after ≡ x.slot → Rises xs r → Rises (xs ++ x ∷ []) r
rises_still xs x true same rises = (rises.0, in_left xs (x ∷ []) rises.0 rises.1, rises.2)
rises_still xs x false same none = λ y k. ⊎_elim (λ before. none y before) (λ (e : x ≡ y). subst (λ (z : Judged). z.after ≡ z.slot) e same) (in_push xs x y k)

rises_by : (xs : List Judged) (x : Judged) (before after : Bool) → Rises xs before → ((x.after ≢ x.slot) × (after ≡ true)) ⊎ ((x.after ≡ x.slot) × (after ≡ before)) → Rises (xs ++ x ∷ []) after
rises_by xs x before after rises how = ⊎_elim
    (λ (h : (x.after ≢ x.slot) × (after ≡ true)). subst (λ (r : Bool). Rises (xs ++ x ∷ []) r) (sym h.1) (x, in_last xs x, h.0))
    (λ (h : (x.after ≡ x.slot) × (after ≡ before)). subst (λ (r : Bool). Rises (xs ++ x ∷ []) r) (sym h.1) (rises_still xs x before h.0 rises))
    how

pub none_judged : (slots : ℕ → Slot) (p i : ℕ) (b : BallotOf) (told : Judgement) → told.rises ≡ false → told.answers.items ≡ [] → IsJudgement slots p i b 0 told
none_judged slots p i b told rises answers = record { judged = []; counted = refl; each = tt; rises = subst (λ (r : Bool). Rises [] r) (sym rises) (λ x k. absurd k); answers = answers }

pub judgement_more : (slots : ℕ → Slot) (p i : ℕ) (b : BallotOf) (k at : ℕ) (old new : Judgement) → IsJudgement slots p i b k old → at ≡ i + k → JudgesMore (slots at) p at b old new → IsJudgement slots p i b (k + 1) new
judgement_more slots p i b k at old new is place more =
    let here : at ≡ i + length is.judged = place ∙ ap (λ (n : ℕ). i + n) (sym is.counted) in
    record {
      judged = is.judged ++ more.judged ∷ [];
      counted = let long = length-append is.judged (more.judged ∷ []) in let counted = is.counted in omega (arith, long, counted);
      each = judged_more slots b i is.judged more.judged is.each (more.of_slot ∙ ap slots here) more.step;
      rises = rises_by is.judged more.judged old.rises new.rises is.rises more.rises;
      answers =
          more.answers
          ∙ ap (λ (l : List (To × Message)). l ++ prepare_out p at b more.judged.answer) is.answers
          ∙ ap (λ (n : ℕ). span_out p i b is.judged ++ prepare_out p n b more.judged.answer) here
          ∙ sym (out_more p i b is.judged more.judged);
    }

-- by the entries that the slots are of
pub judged_by : (es : List Entry) (slots : ℕ → Slot) (b : BallotOf) (i : ℕ) (xs : List Judged) → ((j : ℕ) → IsSlot es j (slots j)) → AreJudgedAt slots b i xs → AreJudged es b i xs
judged_by es slots b i [] are judged = tt
judged_by es slots b i (x ∷ xs) are judged = (subst (λ (s : Slot). IsSlot es i s) (sym judged.0) (are i), judged.1, judged_by es slots b (suc i) xs are judged.2)

-- ---- what is owed

promises : (prior : Option Vote) → promise prior ≡ no_answer → ⊥
promises prior e = cc

-- a slot that changes was free below the ballot
free_step : (s : Slot) (b : BallotOf) (after : Slot) (answer : Answer) → Steps s (prepare b) after answer → after ≢ s → IsFreeBelow s.promised b
free_step s b after (promise prior) step other = ⊎_elim (λ x. x.0) (λ x. absurd (other x.2)) step.1
free_step s b after (nack c) step other = absurd (other step.1)
free_step s b after no_answer step other = absurd (other step.2)
free_step s b after accepted step other = absurd step

-- so an instance of a span that rises is free
pub rising : (slots : ℕ → Slot) (b : BallotOf) (i : ℕ) (xs : List Judged) → AreJudgedAt slots b i xs → Rises xs true → (at : ℕ) × IsInSpan i (length xs) at × IsFreeBelow (slots at).promised b
rising slots b i [] are r = absurd r.1
rising slots b i (x ∷ xs) are r =
    ⊎_elim
    (λ (e : x ≡ r.0). (i, (omega arith, omega arith), subst (λ (s : Slot). IsFreeBelow s.promised b) are.0 (free_step x.slot b x.after x.answer are.1 (subst (λ (y : Judged). y.after ≢ y.slot) (sym e) r.2))))
    (λ later. let rest = rising slots b (suc i) xs are.2 (r.0, later, r.2) in (rest.0, (omega (arith, rest.1.0), omega (arith, rest.1.1)), rest.2))
    r.1

-- and is owed a promise
pub free_owed : (slot : Slot) (b : BallotOf) → IsFreeBelow slot.promised b → IsOwed slot b
free_owed slot b free = record { after = with_promise slot b; answer = promise slot.vote; step = (refl, inl (free, refl)); some = promises slot.vote }

answered : (p i : ℕ) (b : BallotOf) (answer : Answer) (rest : List (To × Message)) → prepare_out p i b answer ++ rest ≢ [] → (answer ≢ no_answer) ⊎ (rest ≢ [])
answered p i b (promise prior) rest some = inl (λ e. cc)
answered p i b (nack c) rest some = inl (λ e. cc)
answered p i b accepted rest some = inl (λ e. cc)
answered p i b no_answer rest some = inr some

-- if there are answers, an instance is owed one
pub owed_in : (slots : ℕ → Slot) (p i : ℕ) (b : BallotOf) (xs : List Judged) → AreJudgedAt slots b i xs → span_out p i b xs ≢ [] → (at : ℕ) × IsInSpan i (length xs) at × IsOwed (slots at) b
owed_in slots p i b [] are some = absurd (some refl)
owed_in slots p i b (x ∷ xs) are some =
    ⊎_elim
    (λ (answers : x.answer ≢ no_answer). (i, (omega arith, omega arith), subst (λ (s : Slot). IsOwed s b) are.0 (record { after = x.after; answer = x.answer; step = are.1; some = answers })))
    (λ (more : span_out p (suc i) b xs ≢ []). let rest = owed_in slots p (suc i) b xs are.2 more in (rest.0, (omega (arith, rest.1.0), omega (arith, rest.1.1)), rest.2))
    (answered p i b x.answer (span_out p (suc i) b xs) some)
