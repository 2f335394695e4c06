-- What a disk in memory stands for.
use Rattle.std.specs.Prelude.{◌≡◌, ℕ, ◌-◌, ◌≤◌, ◌<◌, Option, Some, None, List, [], ◌∷◌, length, slice_index}
use Rattle.std.specs.Prelude.{vec_capacity}
use Rattle.site_disk.specs.Model.{DiskState, IsOutside, IsWithin, MayLeave, moment, at_rest, after_write}
use Rattle.site_disk.specs.Model.{after_sync, overwritten}
use Rattle.site_disk.specs.declared.mem_disk.MemDisk.{MemDisk}
use Rattle.site_disk.specs.declared.mem_disk.Call.{Call}
use Rattle.site_disk.specs.declared.mem_disk.Call.TheVariants.{Len, Read, Write, Sync}

-- how many calls an armed disk lets pass, after one more call. None: it is not armed
abbrev pub after_one : Option ℕ → Option ℕ
after_one None = None
after_one (Some calls) = Some (calls - 1)

-- the state after one call
abbrev pub after_call : DiskState → Call → DiskState
after_call d Len = d
after_call d Read = d
after_call d (Write at bytes) = after_write d at (length bytes.items) (overwritten d.seen at bytes.items)
after_call d Sync = after_sync d

-- the state after all calls, in their order
abbrev pub after_calls : DiskState → List Call → DiskState
after_calls d [] = d
after_calls d (call ∷ calls) = after_calls (after_call d call) calls

-- its calls since the last crash lead from what that crash left to this state, and it keeps both contents of
-- this state; no crash will allocate
pub record MemoryStandsFor (disk : MemDisk) (d : DiskState) : Type 0 where
  pub replay : after_calls (at_rest disk.first.items []) disk.calls.items ≡ d
  pub seen : disk.bytes.items ≡ d.seen
  pub synced : disk.kept.items ≡ d.synced
  pub may_stay : MayLeave (moment d) d.seen
  pub room_kept : length disk.bytes.items ≤ vec_capacity disk.kept
  pub room_first : length disk.bytes.items ≤ vec_capacity disk.first

-- the bytes as read, except that each byte in a range written since the last sync is this one
pub record IsFilled (byte : ℕ) (d : DiskState) (left : List ℕ) : Type 0 where
  pub size : length left ≡ length d.seen
  pub outside : (place : ℕ) → IsOutside place d.written → slice_index left place ≡ slice_index d.seen place
  pub within : (place : ℕ) → place < length d.seen → IsWithin place d.written → slice_index left place ≡ byte
