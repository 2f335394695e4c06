-- The text that a value prints, and escaping (mustache(5), "Variables").
use Rattle.std.specs.Prelude.{ℕ, true, false, ◌==◌, if◌then◌else◌, codes, List, [], ◌∷◌, Option, None, Some}
use Rattle.std.specs.Prelude.{flat_map}
use Rattle.std.specs.Fmt.{signed_decimal}
use Rattle.context.specs.Whole.{Whole, null, boolean, int, text, list, hash}

-- a missing value, null, lists and hashes print nothing
abbrev pub printed : Option Whole → List ℕ
printed None = []
printed (Some null) = []
printed (Some (boolean true)) = codes "true"
printed (Some (boolean false)) = codes "false"
printed (Some (int z)) = signed_decimal z
printed (Some (text t)) = t
printed (Some (list _)) = []
printed (Some (hash _)) = []

-- & " < > become entities, every other byte stays as it is
abbrev pub escaped_byte : ℕ → List ℕ
escaped_byte b =
    if b == 38 then codes "&amp;" else
    (if b == 34 then codes "&quot;" else
    (if b == 60 then codes "&lt;" else
    (if b == 62 then codes "&gt;" else
    b ∷ [])))

abbrev pub escaped : List ℕ → List ℕ
escaped t = flat_map escaped_byte t
