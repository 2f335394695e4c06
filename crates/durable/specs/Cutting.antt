-- A record that an accident cut short.
use Rattle.std.specs.Prelude.{◌≡◌, ◌≢◌, ℕ, ◌+◌, ◌<◌, ◌^◌, List, ◌∷◌, ◌++◌, length, drop, slice_index}
use Rattle.durable.specs.Items.{summed}

-- if the gate were open, it would begin a batch with its right sum, and an open gate would follow the batch
pub record HasBatchAfter (gate : ℕ) (file : List ℕ) : Type 0 where
  pub blocks : List ℕ
  pub some : 0 < length blocks
  pub counted : length blocks < 2 ^ 32
  pub rest : List ℕ
  pub there : 1 ∷ drop (gate + 1) file ≡ summed blocks ++ 1 ∷ rest

-- such a batch is there, and the gate isn't open
abbrev pub IsCutShort : ℕ → List ℕ → Type 0
IsCutShort gate file = HasBatchAfter gate file × (slice_index file gate ≢ 1)
