-- Which of the code's tokens say that they are standalone.
use Rattle.std.specs.Prelude.{◌≡◌, ℕ, List, [], ◌∷◌}
use Rattle.mustache_scan.specs.Standalone.{is_alone}
use Rattle.mustache_scan.specs.View.{token_view}
use Rattle.mustache_scan.specs.declared.token.Token.{Token}

-- each token says that it is standalone if and only if it is
abbrev pub AreMarked : List ℕ → List Token → Type 0
AreMarked t [] = Unit {0}
AreMarked t (x ∷ xs) = (x.is_alone ≡ is_alone t (token_view x)) × AreMarked t xs
