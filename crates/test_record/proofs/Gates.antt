-- Files that end behind their entries.
use Rattle.std.proofs.Common.{◌≡◌, ◌≢◌, ℕ, ◌≤◌, List, [], ◌∷◌, ◌++◌, length, not, nat_eq, IsTrue, sym, ◌∙◌, arith}
use Rattle.std.specs.Prelude.{◌↔◌, slice_index_or}
use Rattle.std.proofs.lemmas.List.{append_cancel_left}
use Rattle.std.proofs.lemmas.Bool.Decides.{nat_tests}
use Rattle.test_record.specs.Gates.{IsShutBehind}

closed_by : (gate : ℕ) → IsTrue (not (nat_eq gate 1)) → gate ≢ 1
closed_by gate is = grind (arith, nat_tests)

test_of : (gate : ℕ) → gate ≢ 1 → IsTrue (not (nat_eq gate 1))
test_of gate closed = grind (arith, nat_tests)

-- what follows a front begins with the gate
pub shut : (file front rest : List ℕ) → 1 ≤ length rest → file ≡ front ++ rest → IsTrue (not (nat_eq (slice_index_or rest 0 0) 1)) ↔ IsShutBehind file front
shut file front [] some is = absurd (omega (arith, some))
shut file front (gate ∷ rest) some is = (
  λ t. record { gate = gate; rest = rest; closed = closed_by gate t; layout = is },
  λ h. test_of gate (λ one. h.closed (first gate h.gate rest h.rest (append_cancel_left front (gate ∷ rest) (h.gate ∷ h.rest) (sym is ∙ h.layout)) one)),
)
  where
    first : (a b : ℕ) (xs ys : List ℕ) → a ∷ xs ≡ b ∷ ys → a ≡ 1 → b ≡ 1
    first a b xs ys same one = cc
