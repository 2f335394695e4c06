-- What one write leaves, whole, torn or under way.
use Rattle.std.proofs.Common.{◌≡◌, ◌⊎◌, inl, inr, ℕ, ◌+◌, ◌≤◌, ◌<◌, max, List, ◌++◌, length, get_or, take, drop, refl, sym, ◌∙◌, ap, subst, arith, length-append, length-drop, append_assoc}
use Rattle.std.proofs.lemmas.List.{ext_get_or, take_at, drop_at, get_or-take, get_or-drop, length-take-le}
use Rattle.site_disk.specs.Model.{DiskState, MayLeave, Range, IsOutside, IsTorn, moment, after_write, overwritten}
use Rattle.site_disk.proofs.Bytes.{length-overwritten}
use Rattle.durable.specs.Append.{IsSettled}

pub same_torn : (at size : ℕ) (file : List ℕ) → IsTorn at size file file
same_torn at size file = record { before = refl; after = refl; no_shorter = omega arith; no_longer = omega arith }

none_outside : (d : DiskState) (place : ℕ) → IsSettled d → IsOutside place d.written
none_outside d place settled = let P : List Range → Type 0 = λ w. IsOutside place w in subst P (sym settled.none_written) tt

pub settled_leaves : (d : DiskState) (left : List ℕ) → IsSettled d → MayLeave (moment d) left → left ≡ d.seen
settled_leaves d left settled may =
    let size : length left ≡ length d.seen = omega (arith, may.no_shorter, may.no_longer, ap length settled.all_synced) in
    ext_get_or 0 left d.seen size (λ place lt. may.outside place (omega (arith, lt, size, ap length settled.all_synced)) (none_outside d place settled) ∙ ap (λ (l : List ℕ). get_or l place 0) settled.all_synced)

pub overwritten_torn : (file : List ℕ) (at : ℕ) (bytes : List ℕ) → at ≤ length file → IsTorn at (length bytes) file (overwritten file at bytes)
overwritten_torn file at bytes le =
    let front : length (take at file) ≡ at = length-take-le at file le in
    let size = length-overwritten file at bytes le in
    record {
      before = ap (λ (l : List ℕ). take at l) (append_assoc (take at file) bytes (drop (at + length bytes) file)) ∙ take_at (take at file) (bytes ++ drop (at + length bytes) file) at front;
      after = drop_at (take at file ++ bytes) (drop (at + length bytes) file) (at + length bytes) (omega (arith, front, length-append (take at file) bytes));
      no_shorter = omega (arith, size);
      no_longer = omega (arith, size);
    }

-- while a write onto a settled file isn't synced, a crash leaves it torn
pub unsynced_torn : (d : DiskState) (at size : ℕ) (seen left : List ℕ) → IsSettled d → at ≤ length d.seen → length seen ≤ max (length d.seen) (at + size) → MayLeave (moment (after_write d at size seen)) left → IsTorn at size d.seen left
unsynced_torn d at size seen left settled le long may =
    let synced_size : length d.synced ≡ length d.seen = ap length settled.all_synced in
    let longer : length d.seen ≤ length left = omega (arith, may.no_shorter, synced_size) in
    let no_longer : length left ≤ max (length d.seen) (at + size) = omega (arith, may.no_longer, long) in
    let same : (place : ℕ) → place < length d.seen → (place < at) ⊎ (at + size ≤ place) → get_or left place 0 ≡ get_or d.seen place 0
    = λ place lt out. may.outside place (omega (arith, lt, synced_size)) (out, none_outside d place settled) ∙ ap (λ (l : List ℕ). get_or l place 0) settled.all_synced in
    let front_size : length (take at left) ≡ length (take at d.seen) = omega (arith, length-take-le at left (omega (arith, le, longer)), length-take-le at d.seen le) in
    let back_size : length (drop (at + size) left) ≡ length (drop (at + size) d.seen) = omega (arith, length-drop (at + size) left, length-drop (at + size) d.seen, longer, no_longer) in
    record {
      before = ext_get_or 0 (take at left) (take at d.seen) front_size
          (λ place lt. let below : place < at = omega (arith, lt, length-take-le at left (omega (arith, le, longer))) in
          get_or-take at left place 0 below ∙ same place (omega (arith, below, le)) (inl below) ∙ sym (get_or-take at d.seen place 0 below));
      after = ext_get_or 0 (drop (at + size) left) (drop (at + size) d.seen) back_size
          (λ place lt. get_or-drop (at + size) left place 0 ∙ same (at + size + place) (omega (arith, lt, back_size, length-drop (at + size) d.seen)) (inr (omega arith)) ∙ sym (get_or-drop (at + size) d.seen place 0));
      no_shorter = longer;
      no_longer = no_longer;
    }
