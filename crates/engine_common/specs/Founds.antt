-- Which line is at the front of bytes. `Fits` says which lines there are, and `spelled` how each is spelled.
use Rattle.std.specs.Prelude.{◌≡◌, ◌≢◌, ◌⊎◌, ℕ, List, ◌++◌}
use Rattle.engine_common.specs.declared.found.Found.{Found}
use Rattle.engine_common.specs.declared.found.Found.TheVariants as found

-- no line is at the front of the bytes
abbrev pub HasNoLine : {L : Type 0} → (L → Type 0) → (L → List ℕ) → List ℕ → Type 0
HasNoLine {L} Fits spelled bytes = (line : L) (rest : List ℕ) → Fits line → bytes ≢ spelled line ++ rest

-- no line is at the front, whatever bytes follow
abbrev pub GetsNoLine : {L : Type 0} → (L → Type 0) → (L → List ℕ) → List ℕ → Type 0
GetsNoLine Fits spelled bytes = (more : List ℕ) → HasNoLine Fits spelled (bytes ++ more)

-- a line is at the front, or none ever will be
abbrev pub IsDecided : {L : Type 0} → (L → Type 0) → (L → List ℕ) → List ℕ → Type 0
IsDecided {L} Fits spelled bytes =
    ((line : L) × (rest : List ℕ) × Fits line × (bytes ≡ spelled line ++ rest))
    ⊎ GetsNoLine Fits spelled bytes

-- A line is at the front, or none is yet, or none ever will be. `view` says which line the code's stands for
abbrev pub IsFound : {C L : Type 0} → (C → L) → (L → Type 0) → (L → List ℕ) → List ℕ → Found C → Type 0
IsFound view Fits spelled bytes (found.Line line rest) =
    Fits (view line) × (bytes ≡ spelled (view line) ++ rest.now)
IsFound view Fits spelled bytes found.Short = HasNoLine Fits spelled bytes
IsFound view Fits spelled bytes found.Bad = GetsNoLine Fits spelled bytes
