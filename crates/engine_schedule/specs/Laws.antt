-- What holds of these definitions.
use Rattle.std.specs.Prelude.{ℕ, ◌≡◌, List, ◌++◌}
use Rattle.engine_schedule.specs.Schedule.{Line, spelled, Fits}

-- no two lines of a schedule spell the same bytes, and none is the beginning of another
abbrev pub OneLine : Type 0
OneLine =
    (line other : Line) (rest others : List ℕ) → Fits line → Fits other
    → spelled line ++ rest ≡ spelled other ++ others → (line ≡ other) × (rest ≡ others)
