-- Turns one after another.
use Rattle.std.proofs.Common.{◌≡◌, ◌≢◌, ◌+◌, ◌≤◌, ◌<◌, ◌||◌, ℕ, zero, suc, Bool, true, false, List, length, ap, get_or, set, inl, inr, arith, below_more, refl, sym, subst, ◌∙◌}
use Rattle.std.specs.Prelude.{◌⊎◌, Option, Some, None, is_some, nat_lt, not, Result, Ok, Err, IfOk}
use Rattle.std.proofs.lemmas.Bool.{false≢true, lt-ltb}
use Rattle.std.proofs.lemmas.List.{get_or-set_other, get_or-set_same}
use Rattle.http_serve.specs.ConnectionSteps.{IsAnswered, MayAnswer, Waits}
use Rattle.http_serve.specs.Services.{MaySubmitMany, Offered}
use Rattle.http_serve.specs.declared.connection.Connection.{Connection}
use Rattle.server_times.specs.declared.times.Times.{Times}
use Rattle.server_clients.specs.Answering.{AreMore, AreTurns, CountsAnswered, IsAtEnd, IsLeft, IsOneMore, IsTurn, MayBeOneMore, NoneAnswered, TellsAnswered}
use Rattle.server_clients.specs.declared.seat.Seat.{Seat}

-- nothing is found where it is told so, and is told where nothing is found
pub none_found : {A : Type 0} (found : Option A) (none : Bool) → is_some found ≡ not none → none ≡ true → found ≡ None
none_found None none told is = refl
none_found (Some x) none told is = absurd (false≢true (sym (ap not is) ∙ sym told))

pub found_none : {A : Type 0} (found : Option A) (none : Bool) → is_some found ≡ not none → found ≡ None → none ≡ true
found_none found true told is = refl
found_none found false told is = absurd (false≢true (sym (ap is_some is) ∙ told))

module _ {T : Type 0} where
  -- a write after them leaves what is told of them
  tells_on : (told : Bool) (i : ℕ) (old new : List (Seat T)) (y : Seat T) → TellsAnswered told i old new → TellsAnswered told i old (set new i y)
  tells_on true i old new y (at, below, more) = (
    at,
    below,
    λ none. subst (λ s. (get_or old at none).connection.answered < s.connection.answered) (sym (get_or-set_other new i at y none (omega (arith, below)))) (more none),
  )
  tells_on false i old new y same = λ at below none. subst (λ s. s.connection.answered ≡ (get_or old at none).connection.answered) (sym (get_or-set_other new i at y none (omega (arith, below)))) (same at below none)

  -- one turn more
  pub tells_more : (told did : Bool) (i : ℕ) (old new : List (Seat T)) (x y : Seat T) → i < length new → ((d : Seat T) → get_or old i d ≡ x) → TellsAnswered told i old new → CountsAnswered did x y
      → TellsAnswered (told || did) (i + 1) old (set new i y)
  tells_more true did i old new x y within is told counted = let on = tells_on true i old new y told in (on.0, omega (arith, on.1), on.2)
  tells_more false true i old new x y within is told counted = (
    i,
    omega arith,
    λ none. subst (λ s. (get_or old i none).connection.answered < s.connection.answered) (sym (get_or-set_same new i y none within)) (subst (λ s. s.connection.answered < y.connection.answered) (sym (is none)) counted),
  )
  tells_more false false i old new x y within is told counted =
      let same : ℕ → Type 0 = λ k. (none : Seat T) → (get_or (set new i y) k none).connection.answered ≡ (get_or old k none).connection.answered in
      below_more same i (tells_on false i old new y told)
      (λ none. subst (λ s. s.connection.answered ≡ (get_or old i none).connection.answered) (sym (get_or-set_same new i y none within)) (subst (λ s. y.connection.answered ≡ s.connection.answered) (sym (is none)) counted))

module _ {S T : Type 0} (service : Offered S) (times : Times) (time : ℕ) where
  -- a write after them leaves them
  pub turns_stand : (k i : ℕ) (now after : S) (old new : List (Seat T)) (y : Seat T) → k ≤ i → AreTurns service times time k now after old new → AreTurns service times time k now after old (set new i y)
  turns_stand zero i now after old new y within turns = turns
  turns_stand (suc k) i now after old new y within turns =
      let other : k ≢ i = omega (arith, within) in (
        turns.0,
        turns_stand k i now turns.0 old new y (omega (arith, within)) turns.1,
        λ none. subst (λ x. IsTurn service times time turns.0 after (get_or old k none) x) (sym (get_or-set_other new i k y none other)) (turns.2 none),
      )

  -- the next one
  pub one_turn_more : (i : ℕ) (now mid after : S) (old new : List (Seat T)) (x y : Seat T) → i < length new → AreTurns service times time i now mid old new
      → ((d : Seat T) → get_or old i d ≡ x) → IsTurn service times time mid after x y → AreTurns service times time (i + 1) now after old (set new i y)
  one_turn_more i now mid after old new x y within turns is turn =
      let at : suc i ≡ i + 1 = omega arith in
      subst (λ k. AreTurns service times time k now after old (set new i y)) at (
        mid,
        turns_stand i i now mid old new y (omega arith) turns,
        λ none. subst (λ z. IsTurn service times time mid after z (get_or (set new i y) i none)) (sym (is none))
            (subst (λ z. IsTurn service times time mid after x z) (sym (get_or-set_same new i y none within)) turn),
      )

  -- what the answering of a connection did
  pub next_is : (did : Bool) (now after : S) (x : Seat T) (connection : Connection) → ¬ (IsLeft service times time now x)
      → (did ≡ true → MayAnswer x.connection × IsAnswered service now after x.connection connection)
      → (did ≡ false → (after ≡ now) × (((¬ (MayAnswer x.connection)) × (connection ≡ x.connection)) ⊎ (MayAnswer x.connection × Waits x.connection connection)))
      → MayBeOneMore service times time did now after x (record x { connection = connection })
  next_is true now after x connection stays answered idle =
      let a = answered refl in
      record { due = stays; may = a.0; answered = a.1; carried = refl }
  next_is false now after x connection stays answered idle =
      let i = idle refl in
      let none : NoneAnswered x.connection connection = elim i.1 [
        | inl h ↦ inr h
        | inr h ↦ inl h
      ] in
      (i.0, inr (stays, none, refl))

  pub next_of : {E : Type 0} (r : Result Bool E) (now after : S) (x : Seat T) (connection : Connection) → ¬ (IsLeft service times time now x)
      → IfOk r (λ did. did ≡ true → MayAnswer x.connection × IsAnswered service now after x.connection connection)
      → IfOk r (λ did. did ≡ false → (after ≡ now) × (((¬ (MayAnswer x.connection)) × (connection ≡ x.connection)) ⊎ (MayAnswer x.connection × Waits x.connection connection)))
      → IfOk r (λ did. MayBeOneMore service times time did now after x (record x { connection = connection }))
  next_of (Ok did) now after x connection stays answered idle = next_is did now after x connection stays answered idle
  next_of (Err e) now after x connection stays answered idle = tt

  -- one request more
  pub one_more : (k : ℕ) (now mid after : S) (old between new : Seat T) → AreMore service times time k now mid old between
      → IsOneMore service times time mid after between new → AreMore service times time (k + 1) now after old new
  one_more k now mid after old between new earlier one =
      let at : suc k ≡ k + 1 = omega arith in
      subst (λ n. AreMore service times time n now after old new) at (mid, between, earlier, one)

  -- how many were answered, if no further one is
  pub end_counts : (now : S) (old new : Seat T) → IsAtEnd service times time now old new → new.connection.answered ≡ old.connection.answered
  end_counts now old new (inl left) = ap (λ s. s.connection.answered) left.1
  end_counts now old new (inr (stays, inl waits, same)) = waits.1.answered
  end_counts now old new (inr (stays, inr none, same)) = ap (λ c. c.answered) none.1

-- the client has so many responses more
pub counts_of : {T : Type 0} (k : ℕ) (old new : Seat T) → new.connection.answered ≡ old.connection.answered + k → CountsAnswered (nat_lt 0 k) old new
counts_of zero old new more = omega (arith, more)
counts_of (suc k) old new more =
    let some : old.connection.answered < new.connection.answered = omega (arith, more) in
    subst (λ told. CountsAnswered told old new) (sym (lt-ltb 0 (suc k) (omega arith))) some

-- so many submissions, and then so many more
pub many_then : {S : Type 0} (service : Offered S) (n k : ℕ) (now mid after : S) → MaySubmitMany service n now mid → MaySubmitMany service k mid after
    → MaySubmitMany service (n + k) now after
many_then service n zero now mid after earlier same =
    let at : n ≡ n + 0 = omega arith in
    subst (λ m. MaySubmitMany service m now after) at (subst (λ s. MaySubmitMany service n now s) (sym same) earlier)
many_then service n (suc k) now mid after earlier (last, more, one) =
    let at : suc (n + k) ≡ n + suc k = omega arith in
    subst (λ m. MaySubmitMany service m now after) at (last, many_then service n k now mid last earlier more, one)
