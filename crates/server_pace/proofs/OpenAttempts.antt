-- Attempts that are counted, and are none.
use Rattle.std.proofs.Common.{◌≡◌, ◌↔◌, ℕ, List, [], ◌∷◌, length, Option, Some, None, IsSome, refl, inl, arith}
use Rattle.site_ids.specs.Lists.{In}
use Rattle.proposer.specs.Attempts.{Attempt, AreOpen}

none_there : (o : Option Attempt) → ¬ (IsSome o) → o ≡ None
none_there None h = refl
none_there (Some a) h = absurd (h refl)

none_is_not : (o : Option Attempt) → o ≡ None → IsSome o → ⊥
none_is_not None e some = absurd (cc)
none_is_not (Some a) e some = absurd (cc)

closed : (xs : List ℕ) (attempts : ℕ → Option Attempt) → ((i : ℕ) → In xs i ↔ IsSome (attempts i)) → length xs ≡ 0 →
    (i : ℕ) → attempts i ≡ None
closed [] attempts there few i = none_there (attempts i) (λ h. (there i).1 h)
closed (x ∷ xs) attempts there few i = absurd (omega (arith, few))

-- where so many are open, and that is none, no instance has one
pub none_open : (attempts : ℕ → Option Attempt) (count : ℕ) → AreOpen attempts count → count ≡ 0 →
    (i : ℕ) → attempts i ≡ None
none_open attempts count are none =
    closed are.instances attempts are.open_there (omega (arith, are.counted, none))

empty : (xs : List ℕ) (attempts : ℕ → Option Attempt) → ((i : ℕ) → In xs i ↔ IsSome (attempts i)) →
    ((i : ℕ) → attempts i ≡ None) → length xs ≡ 0
empty [] attempts there none = refl
empty (x ∷ xs) attempts there none = absurd (none_is_not (attempts x) (none x) ((there x).0 (inl refl)))

-- and the other way round
pub counted_none : (attempts : ℕ → Option Attempt) (count : ℕ) → AreOpen attempts count →
    ((i : ℕ) → attempts i ≡ None) → count ≡ 0
counted_none attempts count are none =
    omega (arith, are.counted, empty are.instances attempts are.open_there none)
