-- Readings one after another; and the first one of a list goes.
use Rattle.std.proofs.Common.{◌≡◌, ◌≢◌, ◌<◌, ◌-◌, ℕ, zero, suc, List, [], ◌∷◌, ◌≤◌, length, get_or, remove, inl, inr, arith, ap, sym, subst, ◌∙◌}
use Rattle.std.specs.Prelude.{Option}
use Rattle.http_serve.specs.declared.outcomes.ReadOutcome.{ReadOutcome}
use Rattle.http_serve.specs.declared.outcomes.ReadOutcome.TheVariants.{Came}
use Rattle.server_clients.specs.Lingering.{AreDropped, Drops}
use Rattle.server_clients.specs.declared.parting.Parting.{Parting}

module _ {T : Type 0} (remaining : T → Option (List ℕ)) where
  -- the first of so many brings bytes
  pub one_came : (left : ℕ) (old mid new : Parting T) → 0 < left → Drops remaining Came old mid
      → AreDropped remaining (left - 1) mid new → AreDropped remaining left old new
  one_came zero old mid new some drops rest = absurd (omega (arith, some))
  one_came (suc k) old mid new some drops rest =
      let same : suc k - 1 ≡ k = omega arith in
      inl (mid, drops, subst (λ n. AreDropped remaining n mid new) same rest)

  -- it brings none
  pub none_came : (left : ℕ) (outcome : ReadOutcome) (old new : Parting T) → 0 < left → outcome ≢ Came
      → Drops remaining outcome old new → AreDropped remaining left old new
  none_came zero outcome old new some other drops = absurd (omega (arith, some))
  none_came (suc k) outcome old new some other drops = inr (outcome, other, drops)

pub first_gone : {A : Type 0} (old new : List A) (x : A) → 64 ≤ length old → x ≡ get_or old 0 x → new ≡ remove old 0
    → old ≡ x ∷ new
first_gone [] new x some is rest = absurd (omega (arith, some))
first_gone (y ∷ ys) new x some is rest = sym (ap (λ l. x ∷ l) rest ∙ ap (λ z. z ∷ ys) is)
