-- When the file of a record grows ahead of what it records.
use Rattle.std.specs.Prelude.{◌⊎◌, ℕ, ◌-◌, ◌/◌, ◌<◌, ◌≤◌, Bool, IsTrue}
use Rattle.site_drive.specs.declared.room.Room.{Room}

-- the file of a record of this many bytes grows now: half of its room is used and nothing waits, or three
-- quarters are used
abbrev pub IsDue : Room → ℕ → Bool → Type 0
IsDue room bytes idle = (0 < room.size) × (room.next ≤ bytes)
    × (IsTrue idle ⊎ (room.size / 4 ≤ bytes - room.next))
