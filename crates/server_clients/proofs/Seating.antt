-- Which seat goes first, of the first k seats; and which is given up.
use Rattle.std.proofs.Common.{◌≡◌, ◌⊎◌, ◌↔◌, ◌+◌, ◌≤◌, ◌<◌, ℕ, Bool, true, false, List, [], ◌∷◌, length, get_or, swap_remove, inl, inr, arith, below_more, refl, sym, subst, leb-true, leb-false, ◌∙◌}
use Rattle.std.specs.Prelude.{Option, Some, None, MatchOption, IsTrue, is_some, nat_le, if◌then◌else◌}
use Rattle.std.proofs.lemmas.Bool.{false≢true}
use Rattle.std.proofs.lemmas.List.{get_or_default}
use Rattle.http_read.specs.Counted.{inside}
use Rattle.server_times.specs.declared.times.Times.{Times}
use Rattle.server_clients.specs.Seating.{earlier, IsFirstToGo, IsLeaving, Leaves, MayGo, NoneGoes, StayBefore}
use Rattle.server_clients.specs.declared.seat.Seat.{Seat}

module _ {T : Type 0} (times : Times) (now : ℕ) (seats : List (Seat T)) where
  -- it was not silent for longer than since then
  abbrev pub IsLater : ℕ → ℕ → Type 0
  IsLater least j = (none : Seat T) → MayGo times now (get_or seats j none) → least ≤ (get_or seats j none).moved

  -- nor for as long
  abbrev pub IsLaterStill : ℕ → ℕ → Type 0
  IsLaterStill least j = (none : Seat T) → MayGo times now (get_or seats j none) → least < (get_or seats j none).moved

  -- none of the first k may go; or this one does first, of those, and was silent since then
  abbrev pub IsFirstOf : ℕ → Option (ℕ × ℕ) → Type 0
  IsFirstOf k None = (j : ℕ) → j < k → (none : Seat T) → ¬ (MayGo times now (get_or seats j none))
  IsFirstOf k (Some (at, least)) = (at < k)
      × ((none : Seat T) → MayGo times now (get_or seats at none))
      × ((none : Seat T) → (get_or seats at none).moved ≡ least)
      × ((j : ℕ) → j < k → IsLater least j)
      × ((j : ℕ) → j < at → IsLaterStill least j)

  -- what the next one says of itself
  abbrev pub SaysIdle : Seat T → Option ℕ → Type 0
  SaysIdle x since = MatchOption since (¬ (MayGo times now x)) (λ s. MayGo times now x × (s ≡ x.moved))

  -- this one goes before those before it
  here : (k since : ℕ) (x : Seat T) → ((none : Seat T) → get_or seats k none ≡ x) → MayGo times now x → since ≡ x.moved
      → ((j : ℕ) → j < k → IsLaterStill since j) → IsFirstOf (k + 1) (Some (k, since))
  here k since x is goes same less = (
    omega arith,
    λ none. subst (MayGo times now) (sym (is none)) goes,
    λ none. subst (λ s. s.moved ≡ since) (sym (is none)) (sym same),
    below_more (IsLater since) k
        (λ j under none go. omega (arith, less j under none go))
        (λ none go. subst (λ s. since ≤ s.moved) (sym (is none)) (omega (arith, same))),
    less,
  )

  later : (k at least since : ℕ) (x : Seat T) → ((none : Seat T) → get_or seats k none ≡ x)
      → IsFirstOf k (Some (at, least)) → MayGo times now x → since ≡ x.moved → (b : Bool) → nat_le least since ≡ b
      → IsFirstOf (k + 1) (if b then Some (at, least) else Some (k, since))
  later k at least since x is (below, may, moved, longest, less) goes same true le = (
    omega (arith, below),
    may,
    moved,
    below_more (IsLater least) k longest
        (λ none go.
        subst (λ s. least ≤ s.moved) (sym (is none)) (omega (arith, leb-true least since le, same))),
    less,
  )
  later k at least since x is (below, may, moved, longest, less) goes same false le =
      here k since x is goes same
      (λ j under none go. omega (arith, leb-false least since le, longest j under none go))

  first_more : (k : ℕ) (found : Option (ℕ × ℕ)) (since : Option ℕ) (x : Seat T)
      → ((none : Seat T) → get_or seats k none ≡ x) → IsFirstOf k found → SaysIdle x since
      → IsFirstOf (k + 1) (earlier found k since)
  first_more k None None x is first stays =
      below_more (λ j. (none : Seat T) → ¬ (MayGo times now (get_or seats j none))) k first
      (λ none go. stays (subst (MayGo times now) (is none) go))
  first_more k (Some (at, least)) None x is (below, may, moved, longest, less) stays = (
    omega (arith, below),
    may,
    moved,
    below_more (IsLater least) k longest (λ none go. absurd (stays (subst (MayGo times now) (is none) go))),
    less,
  )
  first_more k None (Some since) x is first (goes, same) =
      here k since x is goes same (λ j under none go. absurd (first j under none go))
  first_more k (Some (at, least)) (Some since) x is first (goes, same) =
      later k at least since x is first goes same (nat_le least since) refl

  pub first_next : (k : ℕ) (found next : Option (ℕ × ℕ)) (since : Option ℕ) (x : Seat T)
      → next ≡ earlier found k since → ((none : Seat T) → get_or seats k none ≡ x) → IsFirstOf k found
      → SaysIdle x since → IsFirstOf (k + 1) next
  first_next k found next since x is at first says =
      subst (IsFirstOf (k + 1)) (sym is) (first_more k found since x at first says)

  -- of all of them
  first_to_go : (at least : ℕ) → IsFirstOf (length seats) (Some (at, least)) → IsFirstToGo times now seats at
  first_to_go at least (below, may, moved, longest, less) = record {
    below = below;
    may = may;
    longest = λ j under none go.
        subst (λ m. m ≤ (get_or seats j none).moved) (sym (moved none)) (longest j under none go);
    first = λ j under none go.
        subst (λ m. m < (get_or seats j none).moved) (sym (moved none)) (less j under none go);
  }

  pub found_first : (k : ℕ) (found : Option (ℕ × ℕ)) (x : ℕ × ℕ) → found ≡ Some x → k ≡ length seats
      → IsFirstOf k found → IsFirstToGo times now seats x.0
  found_first k found x is all first =
      first_to_go x.0 x.1 (subst (λ n. IsFirstOf n (Some x)) all (subst (IsFirstOf k) is first))

  pub found_none : (k : ℕ) (found : Option (ℕ × ℕ)) → found ≡ None → k ≡ length seats → IsFirstOf k found
      → NoneGoes times now seats
  found_none k found is all first = subst (λ n. IsFirstOf n None) all (subst (IsFirstOf k) is first)

-- where none may go, none goes first
none_first : {T : Type 0} (times : Times) (now : ℕ) (seats : List (Seat T)) (i : ℕ) → NoneGoes times now seats → IsFirstToGo times now seats i → ⊥
none_first times now [] i none first = absurd (omega (arith, first.below))
none_first times now (x ∷ xs) i none first = none i first.below x (first.may x)

-- all seats are taken: one may be seated where one goes for it
pub goes_for : {T : Type 0} (times : Times) (now : ℕ) (seats : List (Seat T)) (found : Option ℕ) (b : Bool) → b ≡ is_some found
    → ¬ (length seats < 64) → MatchOption found (NoneGoes times now seats) (IsFirstToGo times now seats)
    → IsTrue b ↔ ((length seats < 64) ⊎ ((i : ℕ) × IsFirstToGo times now seats i))
goes_for times now seats None b is full none = (
  λ t. absurd (false≢true (sym is ∙ t)),
  λ h. elim h [
    | inl less ↦ absurd (full less)
    | inr first ↦ absurd (none_first times now seats first.0 none first.1)
  ],
)
goes_for times now seats (Some i) b is full first = (λ t. inr (i, first), λ h. is)

-- seat i, which is x, is to be closed: it is given up
pub leaves_at : {T : Type 0} (times : Times) (now : ℕ) (old new : List (Seat T)) (i : ℕ) (x y : Seat T)
    (stream : T) → i < length old → x ≡ get_or old i x → IsLeaving times now x → StayBefore i times now old
    → y ≡ get_or old i y → new ≡ swap_remove old i y → stream ≡ inside y.stream
    → Leaves times now old new (Some stream)
leaves_at times now old new i x y stream below at leaving stay is left same = (
  i,
  below,
  λ none. subst (IsLeaving times now) (at ∙ get_or_default old i x none below) leaving,
  stay,
  record { seat = y; is = is; stream_is = same; left = left },
)
