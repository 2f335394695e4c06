use Rattle.std.proofs.Common.{◌≡◌, ◌⊎◌, ◌<◌, ℕ, length, get_or}
use Rattle.site_disk.specs.Model.{DiskState, IsWithin}
use Rattle.site_disk.specs.Memory.{after_calls}
use Rattle.site_disk.proofs.sync.copy_unsynced.Given as goal

abbrev pub invariant-loop-last : goal.invariant-loop-last
invariant-loop-last l = record {
  size : length l.to ≡ length l.from;
  within : (d : DiskState) (place : ℕ) → place < length l.from → IsWithin place (after_calls d l.calls).written → IsWithin place (after_calls d l.rest).written ⊎ (get_or l.to place 0 ≡ get_or l.from place 0);
  stays : (place : ℕ) → get_or l.initial.to place 0 ≡ get_or l.from place 0 → get_or l.to place 0 ≡ get_or l.from place 0;
}

abbrev pub decreases-loop-last : goal.decreases-loop-last
decreases-loop-last l = length l.rest
