-- What is found where the spans say is found of the head.
use Rattle.std.proofs.Common.{◌≡◌, ℕ, List, ap, ◌∙◌}
use Rattle.http_read.specs.Checks.{FieldPair, fault_of}

pub same_fault : (minor m : ℕ) (method n : List ℕ) (fields pairs : List FieldPair) → minor ≡ m → method ≡ n → fields ≡ pairs
    → fault_of minor method fields ≡ fault_of m n pairs
same_fault minor m method n fields pairs a b c =
    ap (λ x. fault_of x method fields) a ∙ ap (λ x. fault_of m x fields) b ∙ ap (λ x. fault_of m n x) c
