use Rattle.std.proofs.Common.{◌≡◌, ◌⊎◌, ◌<◌, ℕ, length, get_or}
use Rattle.site_disk.specs.Model.{DiskState, IsOutside, IsWithin}
use Rattle.site_disk.specs.Memory.{after_calls}
use Rattle.site_disk.proofs.crash.fill_unsynced.Given as goal

abbrev pub invariant-loop-last : goal.invariant-loop-last
invariant-loop-last l = record {
  outside : (d : DiskState) (place : ℕ) → IsOutside place (after_calls d l.calls).written → IsOutside place (after_calls d l.rest).written × (get_or l.bytes place 0 ≡ get_or l.initial.bytes place 0);
  within : (d : DiskState) (place : ℕ) → place < length l.initial.bytes → IsWithin place (after_calls d l.calls).written → IsWithin place (after_calls d l.rest).written ⊎ (get_or l.bytes place 0 ≡ l.byte);
  size : length l.bytes ≡ length l.initial.bytes;
}

abbrev pub decreases-loop-last : goal.decreases-loop-last
decreases-loop-last l = length l.rest
