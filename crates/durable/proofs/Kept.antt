-- What is kept in memory, with one entry more.
use Rattle.std.proofs.Common.{◌≡◌, ◌≢◌, ◌⊎◌, ⊎_elim, ℕ, List, [], ◌∷◌, ◌++◌, Some, None, Bool, true, false, if◌then◌else◌, nat_eq, max, refl, sym, ◌∙◌, ap, subst, arith}
use Rattle.std.proofs.lemmas.Bool.{cases_eq}
use Rattle.std.proofs.lemmas.Bool.Decides.{nat_tests}
use Rattle.site_ids.specs.Ids.{BallotOf, Below, NotAbove}
use Rattle.acceptor.specs.declared.slot.Slot.{Slot}
use Rattle.acceptor.specs.Steps.{with_promise, with_vote}
use Rattle.durable.specs.Entries.{Entry, Round, Promised, PromisedSpan, Voted, Learned, Floor, Raises, IsSlot, last_vote, learned_at, floor_of, reach_in, round_after, round_in}
use Rattle.durable.specs.Histories.{Advances}
use Rattle.site_ids.specs.Spans.{IsInSpan}
use Rattle.durable.specs.Raising.{IsRaised}
use Rattle.durable.proofs.Spans.{slot_raised}
use Rattle.durable.specs.Reading.{IsKept}
use Rattle.durable.specs.Puts.{AreSlotsKept, AreSlotsAfter, Remembers, IsMemoryKept}
use Rattle.durable.specs.Cells.{no_cell}
use Rattle.durable.specs.Slots.{cell_at, slot_at, value_at}
use Rattle.durable.specs.declared.cells.Cell.{Cell}
use Rattle.durable.specs.declared.recorded.Recorded.{Recorded}
use Rattle.durable.specs.declared.slots.Slots.{Slots}
use Rattle.durable.proofs.Push.{promise_kept, promise_raised, round_after-push, greatest_round-push, reach_of-push, floor_of-advance, vote_after-push, learned_at-kept, learned_at-new}

-- cells that are the same have the same slot, and the same learned value
slot_as : (c d : Cell) → c ≡ d → c.slot ≡ d.slot
slot_as c d same = ap (λ (x : Cell). x.slot) same

value_as : (c d : Cell) → c ≡ d → c.learned ≡ d.learned
value_as c d same = ap (λ (x : Cell). x.learned) same

pub kept_none : (new : Recorded) → new.round ≡ 0 → new.greatest ≡ 0 → new.floor ≡ 0 → new.reach ≡ 0 → ((i : ℕ) → cell_at new.slots i ≡ no_cell) → IsKept [] new
kept_none new round greatest floor reach slots = record {
  round = round;
  greatest = greatest;
  slots = λ i. subst (λ (s : Slot). IsSlot [] i s) (sym (slot_as _ no_cell (slots i))) (record { promise = λ e b here raises. here; vote = refl });
  learned = λ i. value_as _ no_cell (slots i);
  floor = floor;
  reach = reach;
}

-- what is kept as before is kept for the same entries
pub kept_same : (es : List Entry) (old new : Recorded) → IsMemoryKept old new → IsKept es old → IsKept es new
kept_same es old new same kept = record {
  round = same.round ∙ kept.round;
  greatest = same.greatest ∙ kept.greatest;
  slots = λ i. subst (λ (s : Slot). IsSlot es i s) (sym (slot_as _ _ (same.slots i))) (kept.slots i);
  learned = λ i. value_as _ _ (same.slots i) ∙ kept.learned i;
  floor = same.floor ∙ kept.floor;
  reach = same.reach ∙ kept.reach;
}

-- an entry that raises nothing at the instance, and is no vote there, leaves its slot
slot_kept : (es : List Entry) (e : Entry) (i : ℕ) (s : Slot) → ((c : BallotOf) → ¬ Raises e i c) → last_vote i (es ++ e ∷ []) ≡ last_vote i es → IsSlot es i s → IsSlot (es ++ e ∷ []) i s
slot_kept es e i s none same is = record { promise = promise_kept es e i s.promised none is.promise; vote = is.vote ∙ sym same }

not_above_below : (a b : BallotOf) → Below a b → NotAbove a b
not_above_below a b = grind arith

slot_promised : (es : List Entry) (i : ℕ) (b : BallotOf) (s : Slot) → Advances es (Promised i b) → IsSlot es i s → IsSlot (es ++ Promised i b ∷ []) i (with_promise s b)
slot_promised es i b s advances is = record {
  promise = promise_raised es (Promised i b) i b (refl, refl) (λ c raises. sym raises.1) (λ e c here raises. not_above_below c b (advances e c here raises));
  vote = is.vote ∙ sym (vote_after-push i None es (Promised i b ∷ []));
}

number_itself : (n : ℕ) → nat_eq n n ≡ true
number_itself n = grind (arith, nat_tests)

not_number : (m n : ℕ) → m ≢ n → nat_eq m n ≡ false
not_number m n other = grind (arith, nat_tests)

slot_voted : (es : List Entry) (i : ℕ) (b : BallotOf) (v : List ℕ) → Advances es (Voted i b v) → IsSlot (es ++ Voted i b v ∷ []) i (with_vote b v)
slot_voted es i b v advances = record {
  promise = promise_raised es (Voted i b v) i b (refl, refl) (λ c raises. sym raises.1) advances.0;
  vote = sym (vote_after-push i None es (Voted i b v ∷ []) ∙ ap (λ (x : Bool). if x then Some (record { ballot = b; value = v }) else last_vote i es) (number_itself i));
}

in_span : (i l k : ℕ) → IsInSpan i l k ⊎ (¬ IsInSpan i l k)
in_span i l k = grind arith

-- the slots after one entry more are those of the entries with it
slots_after : (es : List Entry) (e : Entry) (old new : Slots) → Advances es e → ((i : ℕ) → IsSlot es i (slot_at old i)) → AreSlotsAfter e old new → (k : ℕ) → IsSlot (es ++ e ∷ []) k (slot_at new k)
slots_after es (Round r) old new advances kept after k = subst (λ (s : Slot). IsSlot (es ++ Round r ∷ []) k s) (sym (slot_as _ _ (after k)))
    (slot_kept es (Round r) k (slot_at old k) (λ c raises. raises) (vote_after-push k None es (Round r ∷ [])) (kept k))
slots_after es (Promised i b) old new advances kept after k =
    let S : ℕ → Slot → Type 0 = λ j s. IsSlot (es ++ Promised i b ∷ []) j s in
    ⊎_elim
    (λ (same : k ≡ i). subst (λ (j : ℕ). S j (slot_at new j)) (sym same) (subst (λ (s : Slot). S i s) (sym (slot_as _ _ after.0)) (slot_promised es i b (slot_at old i) advances (kept i))))
    (λ (other : k ≢ i). subst (λ (s : Slot). S k s) (sym (slot_as _ _ (after.1 k other)))
    (slot_kept es (Promised i b) k (slot_at old k) (λ c raises. other (sym raises.0)) (vote_after-push k None es (Promised i b ∷ [])) (kept k)))
    (cases_eq k i)
slots_after es (PromisedSpan i l b) old new advances kept after k =
    ⊎_elim
    (λ (within : IsInSpan i l k).
    slot_raised es (PromisedSpan i l b) k b (slot_at old k) (slot_at new k) (within, refl) (λ d r. sym r.1) (vote_after-push k None es (PromisedSpan i l b ∷ [])) (kept k) (after.0 k within).0)
    (λ (outside : ¬ IsInSpan i l k). subst (λ (s : Slot). IsSlot (es ++ PromisedSpan i l b ∷ []) k s) (sym (slot_as _ _ (after.1 k outside)))
    (slot_kept es (PromisedSpan i l b) k (slot_at old k) (λ c raises. outside raises.0) (vote_after-push k None es (PromisedSpan i l b ∷ [])) (kept k)))
    (in_span i l k)
slots_after es (Voted i b v) old new advances kept after k =
    let S : ℕ → Slot → Type 0 = λ j s. IsSlot (es ++ Voted i b v ∷ []) j s in
    let test : k ≢ i → last_vote k (es ++ Voted i b v ∷ []) ≡ last_vote k es = λ other. vote_after-push k None es (Voted i b v ∷ [])
    ∙ ap (λ (x : Bool). if x then Some (record { ballot = b; value = v }) else last_vote k es) (not_number i k (λ e. other (sym e))) in
    ⊎_elim
    (λ (same : k ≡ i). subst (λ (j : ℕ). S j (slot_at new j)) (sym same) (subst (λ (s : Slot). S i s) (sym (slot_as _ _ after.0)) (slot_voted es i b v advances)))
    (λ (other : k ≢ i). subst (λ (s : Slot). S k s) (sym (slot_as _ _ (after.1 k other))) (slot_kept es (Voted i b v) k (slot_at old k) (λ c raises. other (sym raises.0)) (test other) (kept k)))
    (cases_eq k i)
slots_after es (Learned i v) old new advances kept after k =
    let same_slot : slot_at new k ≡ slot_at old k = ⊎_elim
    (λ (same : k ≡ i). subst (λ (j : ℕ). slot_at new j ≡ slot_at old j) (sym same) (slot_as _ _ after.0))
    (λ (other : k ≢ i). slot_as _ _ (after.1 k other))
    (cases_eq k i) in
    subst (λ (s : Slot). IsSlot (es ++ Learned i v ∷ []) k s) (sym same_slot) (slot_kept es (Learned i v) k (slot_at old k) (λ c raises. raises) (vote_after-push k None es (Learned i v ∷ [])) (kept k))
slots_after es (Floor f) old new advances kept after k = subst (λ (s : Slot). IsSlot (es ++ Floor f ∷ []) k s) (sym (slot_as _ _ (after k)))
    (slot_kept es (Floor f) k (slot_at old k) (λ c raises. raises) (vote_after-push k None es (Floor f ∷ [])) (kept k))

-- and so is what was learned
values_after : (es : List Entry) (e : Entry) (old new : Slots) → Advances es e → ((i : ℕ) → value_at old i ≡ learned_at i es) → AreSlotsAfter e old new → (k : ℕ) → value_at new k ≡ learned_at k (es ++ e ∷ [])
values_after es (Round r) old new advances kept after k = value_as _ _ (after k) ∙ kept k ∙ sym (learned_at-kept k es (Round r) refl)
values_after es (Promised i b) old new advances kept after k =
    ⊎_elim
    (λ (same : k ≡ i). subst (λ (j : ℕ). value_at new j ≡ value_at old j) (sym same) (value_as _ _ after.0))
    (λ (other : k ≢ i). value_as _ _ (after.1 k other))
    (cases_eq k i)
    ∙ kept k ∙ sym (learned_at-kept k es (Promised i b) refl)
values_after es (PromisedSpan i l b) old new advances kept after k =
    ⊎_elim (λ (within : IsInSpan i l k). (after.0 k within).1) (λ (outside : ¬ IsInSpan i l k). value_as _ _ (after.1 k outside)) (in_span i l k)
    ∙ kept k ∙ sym (learned_at-kept k es (PromisedSpan i l b) refl)
values_after es (Voted i b v) old new advances kept after k =
    ⊎_elim
    (λ (same : k ≡ i). subst (λ (j : ℕ). value_at new j ≡ value_at old j) (sym same) (value_as _ _ after.0))
    (λ (other : k ≢ i). value_as _ _ (after.1 k other))
    (cases_eq k i)
    ∙ kept k ∙ sym (learned_at-kept k es (Voted i b v) refl)
values_after es (Learned i v) old new advances kept after k =
    ⊎_elim
    (λ (same : k ≡ i). subst (λ (j : ℕ). value_at new j ≡ learned_at j (es ++ Learned i v ∷ [])) (sym same) (value_as _ _ after.0 ∙ sym (learned_at-new i es v advances)))
    (λ (other : k ≢ i). value_as _ _ (after.1 k other) ∙ kept k
    ∙ sym (learned_at-kept k es (Learned i v) (ap (λ (x : Bool). if x then Some v else None) (not_number i k (λ e. other (sym e))))))
    (cases_eq k i)
values_after es (Floor f) old new advances kept after k = value_as _ _ (after k) ∙ kept k ∙ sym (learned_at-kept k es (Floor f) refl)

-- what is kept after one entry more is what the entries record with it
pub kept_more : (es : List Entry) (e : Entry) (old new : Recorded) → Advances es e → Remembers old new e → IsKept es old → IsKept (es ++ e ∷ []) new
kept_more es e old new advances remembers kept = record {
  round = remembers.round ∙ ap (λ (r : ℕ). round_after r (e ∷ [])) kept.round ∙ sym (round_after-push 0 es (e ∷ []));
  greatest = remembers.greatest ∙ ap (λ (r : ℕ). max r (round_in e)) kept.greatest ∙ sym (greatest_round-push es e);
  slots = slots_after es e old.slots new.slots advances kept.slots remembers.slots;
  learned = values_after es e old.slots new.slots advances kept.learned remembers.slots;
  floor = remembers.floor ∙ ap (λ (f : ℕ). max f (floor_of (e ∷ []))) kept.floor ∙ sym (floor_of-advance es e advances);
  reach = remembers.reach ∙ ap (λ (r : ℕ). max r (reach_in e)) kept.reach ∙ sym (reach_of-push es e);
}

-- where only room was made for a slot, all is kept
pub roomy_kept : (old : Recorded) (slots : Slots) → AreSlotsKept old.slots slots → IsMemoryKept old (record old { slots = slots })
roomy_kept old slots same = record { round = refl; greatest = refl; slots = same; floor = refl; reach = refl }

-- the same where room was made for a slot before
pub kept_through : (es : List Entry) (e : Entry) (old : Recorded) (slots : Slots) (new : Recorded) → Advances es e → AreSlotsKept old.slots slots → Remembers (record old { slots = slots }) new e → IsKept es old
    → IsKept (es ++ e ∷ []) new
kept_through es e old slots new advances same remembers kept =
    let mid : Recorded = record old { slots = slots } in
    kept_more es e mid new advances remembers (kept_same es old mid (roomy_kept old slots same) kept)

-- what is remembered of an entry where room was made for a slot before
pub remembers_through : (e : Entry) (old mid new : Recorded) → IsMemoryKept old mid → Remembers mid new e → Remembers old new e
remembers_through e old mid new same remembers = record {
  round = remembers.round ∙ ap (λ (r : ℕ). round_after r (e ∷ [])) same.round;
  greatest = remembers.greatest ∙ ap (λ (r : ℕ). max r (round_in e)) same.greatest;
  slots = slots_through e old.slots mid.slots new.slots same.slots remembers.slots;
  floor = remembers.floor ∙ ap (λ (f : ℕ). max f (floor_of (e ∷ []))) same.floor;
  reach = remembers.reach ∙ ap (λ (r : ℕ). max r (reach_in e)) same.reach;
}
  where
    slots_through : (e : Entry) (old mid new : Slots) → AreSlotsKept old mid → AreSlotsAfter e mid new → AreSlotsAfter e old new
    slots_through (Round r) old mid new same after = λ i. after i ∙ same i
    slots_through (Promised j b) old mid new same after = (after.0 ∙ ap (λ (c : Cell). record c { slot = with_promise c.slot b }) (same j), λ i other. after.1 i other ∙ same i)
    slots_through (PromisedSpan j l b) old mid new same after = (
      (λ i within. (subst (λ (s : Slot). IsRaised s b (slot_at new i)) (slot_as _ _ (same i)) (after.0 i within).0, (after.0 i within).1 ∙ value_as _ _ (same i))),
      λ i outside. after.1 i outside ∙ same i,
    )
    slots_through (Voted j b v) old mid new same after = (after.0 ∙ ap (λ (c : Cell). record c { slot = with_vote b v }) (same j), λ i other. after.1 i other ∙ same i)
    slots_through (Learned j v) old mid new same after = (after.0 ∙ ap (λ (c : Cell). record c { learned = Some v }) (same j), λ i other. after.1 i other ∙ same i)
    slots_through (Floor f) old mid new same after = λ i. after i ∙ same i
