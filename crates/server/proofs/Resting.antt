-- What a server saw before it rests.
use Rattle.std.proofs.Common.{◌≡◌, ◌↔◌, ℕ, Bool, true, false, not, List, [], ◌∷◌, IsTrue, length, ap, refl, sym, ◌∙◌, arith}
use Rattle.server.specs.Mailing.{has_come}

pub did_come : (came : Bool) (waiting : List (List ℕ)) → came ≡ true → came ≡ has_come came waiting
did_come came [] is = refl
did_come came (x ∷ xs) is = is

pub waits_or_not : (came empty : Bool) (waiting : List (List ℕ)) → came ≡ false → (IsTrue empty ↔ (waiting ≡ []))
    → not empty ≡ has_come came waiting
waits_or_not came empty [] is told = ap not (told.1 refl) ∙ sym is
waits_or_not came true (x ∷ xs) is told = absurd (omega (arith, ap length (told.0 refl)))
waits_or_not came false (x ∷ xs) is told = refl
