-- Functions of the instance, with one more value.
use Rattle.std.proofs.Common.{◌≡◌, ◌≢◌, ℕ, arith}
use Rattle.std.proofs.lemmas.Bool.Decides.{nat_tests}
use Rattle.site_ids.specs.Lists.{put_at}

pub put_here : {X : Type 0} (f : ℕ → X) (i : ℕ) (x : X) (j : ℕ) → j ≡ i → put_at f i x j ≡ x
put_here f i x j e = grind (arith, nat_tests)

pub put_other : {X : Type 0} (f : ℕ → X) (i : ℕ) (x : X) (j : ℕ) → j ≢ i → put_at f i x j ≡ f j
put_other f i x j apart = grind (arith, nat_tests)
