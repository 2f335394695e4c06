-- A group that begins is calm.
use Rattle.std.proofs.Common.{◌≡◌, ◌≢◌, ℕ, true, false, cond, Option, None, Some, [], refl, ap, arith}
use Rattle.std.specs.Prelude.{nat_eq, slice_get}
use Rattle.std.proofs.lemmas.Bool.Decides.{nat_tests}
use Rattle.node.specs.Nodes.{Value}
use Rattle.rounds.specs.Deciding.{StartIsCalm}

same_itself : (a : ℕ) → nat_eq a a ≡ true
same_itself a = grind (arith, nat_tests)

not_same : (a b : ℕ) → a ≢ b → nat_eq a b ≡ false
not_same a b apart = grind (arith, nat_tests)

none_last : (q : ℕ) → ◌≡◌ {A = Option ℕ} None (Some q) → ⊥
none_last q e = cc

nothing_at : (k : ℕ) (v : Value) → slice_get [] k ≡ Some v → ⊥
nothing_at k v e = cc

pub start_is_calm : StartIsCalm
start_is_calm n p times pending node = record {
  in_cluster = node;
  next = (omega arith, omega arith);
  nodes = λ q here. record {
    known = record { begins = λ k v e. absurd (nothing_at k v e); gap = refl };
    reached = omega arith;
    untried = λ j. refl;
    unpromised = λ e b k r. absurd k;
    unlearned = refl;
    not_mute = λ mute. omega (arith, mute);
  };
  paces = λ q here. record { noted = refl; resumes = refl };
  fresh = record { none_wanted = refl; still = refl; turn = λ b. absurd (none_last b.last b.is_last) };
  pending_at = ap (λ t. cond t pending []) (same_itself p);
  pending_else = λ q here apart. ap (λ t. cond t pending []) (not_same q p apart);
  settled = λ q bytes m here k spells. absurd k;
}
