-- What the calls of a link do to its counts.
use Rattle.std.specs.Prelude.{◌≡◌, ℕ, ◌+◌, ◌-◌, ◌<◌, ◌^◌, min}

-- a count of 64 bits rose by n, or is at its last value
abbrev pub RoseBy : ℕ → ℕ → ℕ → Type 0
RoseBy n old new = old < 2 ^ 64 → new ≡ min (old + n) (2 ^ 64 - 1)
