-- A sign is ASCII, so a text may be cut after it.
use Rattle.std.proofs.Common.{◌≡◌, ℕ, ◌+◌, ◌<◌, ◌≤◌, List, length, get_or, Some, subst, arith}
use Rattle.std.proofs.lemmas.Bool.Decides.{nat_tests}
use Rattle.std.proofs.lemmas.Str.{IsCharBoundary-after_ascii}
use Rattle.std.specs.Str.{IsUtf8, IsCharBoundary}
use Rattle.mustache_scan.specs.Reading.{kind_of_sign}
use Rattle.mustache_scan.specs.declared.token.TokenKind.{TokenKind}

sign_ascii : (b : ℕ) (kind : TokenKind) → kind_of_sign b ≡ Some kind → b < 128
sign_ascii b kind h = grind (arith, nat_tests)

pub sign_boundary : (t : List ℕ) (kind : TokenKind) → IsUtf8 t → 1 ≤ length t → kind_of_sign (get_or t 0 0) ≡ Some kind → IsCharBoundary t 1
sign_boundary t kind u some h =
    let e : 0 + 1 ≡ 1 = omega arith in
    subst (λ n. IsCharBoundary t n) e (IsCharBoundary-after_ascii t 0 u (omega arith) (sign_ascii (get_or t 0 0) kind h))
