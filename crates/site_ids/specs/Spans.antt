-- Spans: some instances in a row, from one on.
use Rattle.std.specs.Prelude.{ℕ, suc, ◌+◌, ◌-◌, ◌<◌, ◌≤◌}
use Rattle.site_ids.specs.declared.TheConstants.{MAX_INSTANCE, MAX_SPAN}

-- instance j is one of the k instances from i on
abbrev pub IsInSpan : ℕ → ℕ → ℕ → Type 0
IsInSpan i k j = (i ≤ j) × (j < i + k)

-- the k instances from i on, 1 to 64 of them, none past the last instance
abbrev pub IsSpan : ℕ → ℕ → Type 0
IsSpan i k = (1 ≤ k) × (k ≤ MAX_SPAN) × (1 ≤ i) × (i + k ≤ suc MAX_INSTANCE)

-- the last instance of a span
abbrev pub last_of : ℕ → ℕ → ℕ
last_of i k = i + k - 1
