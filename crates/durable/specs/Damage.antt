-- The gate at which a file is damaged.
use Rattle.std.specs.Prelude.{◌≡◌, ◌⊎◌, ℕ, ◌+◌, List, ◌++◌, length, drop, Option, None, Some}
use Rattle.durable.specs.Cutting.{IsCutShort}
use Rattle.durable.specs.Items.{Item, IsLog, item_blocks}
use Rattle.durable.specs.Reading.{GoesOn}
use Rattle.durable.specs.Standing.{IsLaid}

-- the gate after the items
abbrev pub end_of : List Item → ℕ
end_of items = 10 + length (item_blocks items)

-- a log's items go up to the gate, and no item that may follow them is there
pub record IsDamagedAt (cluster gate : ℕ) (file : List ℕ) : Type 0 where
  pub items : List Item
  pub log : IsLog cluster items
  pub place : gate ≡ end_of items
  pub layout : drop 10 file ≡ item_blocks items ++ drop gate file
  pub none : (more : List Item) → IsLog cluster (items ++ more) → ¬ GoesOn (drop gate file) more

-- an accident shut the gate at which the items end
abbrev pub IsCutAt : ℕ → ℕ → ℕ → List ℕ → Type 0
IsCutAt node cluster gate file = (items : List Item) × IsLaid node cluster file items × (gate ≡ end_of items)
    × IsCutShort gate file

-- the gate at which a file is damaged, if it is
abbrev pub IsDamage : ℕ → ℕ → List ℕ → Option ℕ → Type 0
IsDamage node cluster file None = (items : List Item) × IsLaid node cluster file items
    × ¬ IsCutShort (end_of items) file
IsDamage node cluster file (Some gate) = IsDamagedAt cluster gate file ⊎ IsCutAt node cluster gate file
