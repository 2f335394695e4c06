-- A write and a sync, by the disk's states.
use Rattle.std.proofs.Common.{ℕ, ◌+◌, ◌≤◌, List, length, max, refl, sym, subst, arith}
use Rattle.site_disk.specs.Model.{DiskState, LeavesOnly, IsTorn, after_write, after_sync, overwritten}
use Rattle.site_disk.proofs.Bytes.{length-overwritten}
use Rattle.durable.specs.Append.{IsSettled}
use Rattle.durable.proofs.Moments.{started, goes_on}
use Rattle.durable.proofs.Torn.{same_torn, settled_leaves, overwritten_torn, unsynced_torn}

module _ (d : DiskState) (at : ℕ) (bytes : List ℕ) (settled : IsSettled d) (within : at ≤ length d.seen) where
  abbrev Torn : List ℕ → Type 0
  Torn left = IsTorn at (length bytes) d.seen left

  pub before_write : LeavesOnly d d Torn
  before_write = started d Torn (λ left may. subst Torn (sym (settled_leaves d left settled may)) (same_torn at (length bytes) d.seen))

  -- a write, whole or torn
  pub unsynced : (seen : List ℕ) → length seen ≤ max (length d.seen) (at + length bytes) → LeavesOnly d (after_write d at (length bytes) seen) Torn
  unsynced seen long = goes_on d d (after_write d at (length bytes) seen) Torn before_write refl (λ left may. unsynced_torn d at (length bytes) seen left settled within long may)

  pub written : DiskState
  written = after_write d at (length bytes) (overwritten d.seen at bytes)

  pub whole : LeavesOnly d (after_write d at (length bytes) (overwritten d.seen at bytes)) Torn
  whole = unsynced (overwritten d.seen at bytes) (omega (arith, length-overwritten d.seen at bytes within))

  pub synced : LeavesOnly d (after_sync (after_write d at (length bytes) (overwritten d.seen at bytes))) Torn
  synced = goes_on d (after_write d at (length bytes) (overwritten d.seen at bytes)) (after_sync (after_write d at (length bytes) (overwritten d.seen at bytes))) Torn whole refl
      (λ left may. subst Torn (sym (settled_leaves (after_sync (after_write d at (length bytes) (overwritten d.seen at bytes))) left (record { all_synced = refl; none_written = refl }) may)) (overwritten_torn d.seen at bytes within))
