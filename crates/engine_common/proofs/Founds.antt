-- What was found at the front of bytes.
use Rattle.std.proofs.Common.{◌≡◌, ◌⊎◌, inl, inr, refl, ℕ, List, [], ◌++◌, sym, ap, ◌∙◌, append-nil}
use Rattle.std.specs.Borrow.{Bor}
use Rattle.engine_common.specs.declared.found.Found.{Found}
use Rattle.engine_common.specs.declared.found.Found.TheVariants as found
use Rattle.engine_common.specs.Founds.{HasNoLine, GetsNoLine, IsDecided, IsFound}

module _ {L : Type 0} (Fits : L → Type 0) (spelled : L → List ℕ) {Ended : Type 0} (bytes : List ℕ) where
  -- what is no line is none at the end, or never one
  pub unfound : {C : Type 0} (view : C → L) (f : Found C) → IsDecided Fits spelled bytes ⊎ Ended → IsFound view Fits spelled bytes f → ((line : C) (rest : Bor (List ℕ)) → ¬ (f ≡ found.Line line rest)) → (Ended × HasNoLine Fits spelled bytes) ⊎ GetsNoLine Fits spelled bytes
  unfound view (found.Line line rest) decided is not = absurd (not line rest refl)
  unfound view found.Short (inl (inl (line, rest, fits, whole))) none not = absurd (none line rest fits whole)
  unfound view found.Short (inl (inr never)) none not = inr never
  unfound view found.Short (inr ended) none not = inl (ended, none)
  unfound view found.Bad decided never not = inr never

  -- with nothing held, where some line fits, the input is at its end
  pub at_end : (line : L) → Fits line → HasNoLine Fits spelled [] → IsDecided Fits spelled bytes ⊎ Ended → bytes ≡ [] → Ended
  at_end line ok none (inl (inl (other, rest, fits, whole))) empty = absurd (none other rest fits (sym empty ∙ whole))
  at_end line ok none (inl (inr never)) empty = absurd (never (spelled line) line [] ok (ap (λ t. t ++ spelled line) empty ∙ sym (append-nil (spelled line))))
  at_end line ok none (inr ended) empty = ended
