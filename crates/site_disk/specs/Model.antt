-- What a disk file holds, and what a crash may leave of it.
use Rattle.std.specs.Prelude.{◌≡◌, ◌⊎◌, ℕ, ◌+◌, ◌-◌, ◌≤◌, ◌<◌, ◌^◌, max, List, [], ◌∷◌, ◌++◌, length, take}
use Rattle.std.specs.Prelude.{drop, slice_index, Result, IsErr, OnOk}

-- `size` bytes from a place on
pub record Range : Type 0 where
  pub start : ℕ
  pub size : ℕ

-- what a crash at one moment depends on: the bytes as of the last sync, the ranges written since, the length
-- as it reads
pub record Moment : Type 0 where
  pub synced : List ℕ
  pub written : List Range
  pub longest : ℕ

-- the place is in none of the ranges
abbrev pub IsOutside : ℕ → List Range → Type 0
IsOutside place [] = Unit {0}
IsOutside place (range ∷ ranges) = ((place < range.start) ⊎ (range.start + range.size ≤ place))
    × IsOutside place ranges

-- the place is in one of the ranges
abbrev pub IsWithin : ℕ → List Range → Type 0
IsWithin place [] = ⊥
IsWithin place (range ∷ ranges) = ((range.start ≤ place) × (place < range.start + range.size))
    ⊎ IsWithin place ranges

-- A crash at this moment may leave these bytes: the length is one from that of the last sync to the present
-- one, and the synced bytes outside the written ranges stay.
pub record MayLeave (m : Moment) (left : List ℕ) : Type 0 where
  pub no_shorter : length m.synced ≤ length left
  pub no_longer : length left ≤ m.longest
  pub outside : (place : ℕ) → place < length m.synced → IsOutside place m.written
      → slice_index left place ≡ slice_index m.synced place

-- what a read gives, what the next crash depends on, and the moments that have been, the newest first
pub record DiskState : Type 0 where
  pub seen : List ℕ
  pub synced : List ℕ
  pub written : List Range
  pub past : List Moment

abbrev pub moment : DiskState → Moment
moment d = record { synced = d.synced; written = d.written; longest = length d.seen }

-- all of these bytes are on the disk, and nothing has been written since
abbrev pub at_rest : List ℕ → List Moment → DiskState
at_rest bytes past = record { seen = bytes; synced = bytes; written = []; past = past }

-- the state after a write of `size` bytes, after which a read gives these bytes
abbrev pub after_write : DiskState → ℕ → ℕ → List ℕ → DiskState
after_write d at size seen = record {
  seen = seen;
  synced = d.synced;
  written = record { start = at; size = size } ∷ d.written;
  past = moment d ∷ d.past;
}

-- the state after a sync that succeeded
abbrev pub after_sync : DiskState → DiskState
after_sync d = at_rest d.seen (moment d ∷ d.past)

-- the bytes with these written over them at a place, and past their end
abbrev pub overwritten : List ℕ → ℕ → List ℕ → List ℕ
overwritten old at bytes = take at old ++ bytes ++ drop (at + length bytes) old

-- what a read gives after a write that failed: any bytes in its range, and past the old end any number of
-- them
pub record IsTorn (at size : ℕ) (old new : List ℕ) : Type 0 where
  pub before : take at new ≡ take at old
  pub after : drop (at + size) new ≡ drop (at + size) old
  pub no_shorter : length old ≤ length new
  pub no_longer : length new ≤ max (length old) (at + size)

-- A failure is counted, and nothing else is. The count stays at the last value of its type, where a failure
-- need not raise it.
pub record CountsFailure {T E : Type 0} (result : Result T E) (before now : ℕ) : Type 0 where
  pub no_fewer : before ≤ now
  pub counted : IsErr result → (before < now) ⊎ (before ≡ 2 ^ 64 - 1)
  pub none : OnOk result (now ≡ before)

-- each of these moments leaves only bytes that have P
abbrev pub EachLeaves : (List ℕ → Type 0) → List Moment → Type 0
EachLeaves P [] = Unit {0}
EachLeaves P (m ∷ moments) = ((left : List ℕ) → MayLeave m left → P left) × EachLeaves P moments

-- a crash at any moment since an earlier state, the present moment included, leaves only bytes that have P
pub record LeavesOnly (old new : DiskState) (P : List ℕ → Type 0) : Type 0 where
  pub recent : List Moment
  pub joined : new.past ≡ recent ++ old.past
  pub each : EachLeaves P (moment new ∷ recent)
