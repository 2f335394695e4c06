-- What a file of a record stands for, and why one is refused.
use Rattle.std.specs.Prelude.{◌≡◌, ◌≢◌, ◌⊎◌, ℕ, ◌≤◌, ◌<◌, List, ◌∷◌, ◌++◌, length, take, slice_index, codes}
use Rattle.durable.specs.Entries.{Entry}
use Rattle.durable.specs.Items.{Item, IsLog, entries_of, item_blocks}
use Rattle.durable.specs.Spelling.{head}
use Rattle.durable.specs.declared.fault.RecordFault.{RecordFault}
use Rattle.durable.specs.declared.fault.RecordFault.TheVariants.{Device, OutOfMemory, NotARecord, WrongNode}
use Rattle.durable.specs.declared.fault.RecordFault.TheVariants.{Full, Damaged, Stopped}

-- the file is the head, the items after open gates, a gate that isn't open, and whatever follows it
pub record IsLaid (node cluster : ℕ) (file : List ℕ) (items : List Item) : Type 0 where
  pub log : IsLog cluster items
  pub gate : ℕ
  pub rest : List ℕ
  pub closed : gate ≢ 1
  pub layout : file ≡ head node cluster ++ item_blocks items ++ gate ∷ rest

-- the file stands for the entries of its items
pub record StandsFor (node cluster : ℕ) (file : List ℕ) (entries : List Entry) : Type 0 where
  pub items : List Item
  pub laid : IsLaid node cluster file items
  pub same : entries_of items ≡ entries

-- the file begins with the head, and goes on
abbrev pub HasHead : ℕ → ℕ → List ℕ → Type 0
HasHead node cluster file = (11 ≤ length file) × (take 10 file ≡ head node cluster)

-- too short, or without the mark
abbrev pub IsNoRecord : List ℕ → Type 0
IsNoRecord file = (length file < 11) ⊎ (take 8 file ≢ codes "SITEREC1")

abbrev pub IsOfAnother : ℕ → ℕ → List ℕ → Type 0
IsOfAnother node cluster file = (slice_index file 8 ≢ node) ⊎ (slice_index file 9 ≢ cluster)

abbrev pub IsDamaged : ℕ → ℕ → List ℕ → Type 0
IsDamaged node cluster file = (entries : List Entry) → ¬ StandsFor node cluster file entries

-- the first refusal that applies to the file. The device or an allocation may fail for any file; an opening
-- never fails with full or stopped
abbrev pub IsRefusal : RecordFault → ℕ → ℕ → List ℕ → Type 0
IsRefusal NotARecord node cluster file = IsNoRecord file
IsRefusal WrongNode node cluster file = (¬ IsNoRecord file) × IsOfAnother node cluster file
IsRefusal Damaged node cluster file = (¬ IsNoRecord file) × (¬ IsOfAnother node cluster file)
    × IsDamaged node cluster file
IsRefusal Device node cluster file = Unit {0}
IsRefusal OutOfMemory node cluster file = (¬ IsNoRecord file) × (¬ IsOfAnother node cluster file)
IsRefusal Full node cluster file = ⊥
IsRefusal Stopped node cluster file = ⊥
