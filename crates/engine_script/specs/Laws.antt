-- What holds of these definitions.
use Rattle.std.specs.Prelude.{ℕ, ◌≡◌, List, ◌++◌}
use Rattle.engine_script.specs.Script.{Line, spelled, Fits}

-- no two lines of a script spell the same bytes, and none is the beginning of another
abbrev pub OneScriptLine : Type 0
OneScriptLine =
    (line other : Line) (rest others : List ℕ) → Fits line → Fits other
    → spelled line ++ rest ≡ spelled other ++ others → (line ≡ other) × (rest ≡ others)
