-- What a disk keeps of a record with an entry in flight.
use Rattle.std.specs.Prelude.{◌≡◌, ◌⊎◌, ℕ, Option, List}
use Rattle.site_disk.specs.Model.{DiskState, MayLeave, moment}
use Rattle.durable.specs.Entries.{Entry, with_entry}
use Rattle.durable.specs.Standing.{StandsFor}

-- the entries with the one in flight or without it
abbrev pub Settles : List Entry → Option Entry → List Entry → Type 0
Settles entries in_flight found = (found ≡ entries) ⊎ (found ≡ with_entry entries in_flight)

-- ---- for the code: agreement does not need it

-- the file stands for the entries, with the one in flight or without it
abbrev pub IsFound : ℕ → ℕ → List Entry → Option Entry → List ℕ → Type 0
IsFound node cluster entries in_flight file = (found : List Entry) × Settles entries in_flight found
    × StandsFor node cluster file found

-- the disk keeps the entries and perhaps the one in flight: that is read without a crash, and after any crash
pub record Keeps (node cluster : ℕ) (entries : List Entry) (in_flight : Option Entry)
    (d : DiskState) : Type 0 where
  pub read : IsFound node cluster entries in_flight d.seen
  pub left : (left : List ℕ) → MayLeave (moment d) left → IsFound node cluster entries in_flight left
