-- One call more of a disk in memory.
use Rattle.std.proofs.Common.{◌≡◌, ⊎_elim, ℕ, ◌≤◌, List, [], ◌∷◌, ◌++◌, length, Vec, vec_capacity, refl, sym, ◌∙◌, ap, subst, arith}
use Rattle.std.specs.declared.alloc.Global.{Global}
use Rattle.site_disk.specs.Model.{DiskState, MayLeave, IsOutside, IsWithin, moment, at_rest, after_write, after_sync, overwritten}
use Rattle.site_disk.specs.Memory.{MemoryStandsFor, after_call, after_calls}
use Rattle.site_disk.specs.declared.mem_disk.MemDisk.{MemDisk}
use Rattle.site_disk.specs.declared.mem_disk.Call.{Call}
use Rattle.site_disk.specs.declared.mem_disk.Call.TheVariants.{Write}
use Rattle.site_disk.proofs.Bytes.{length-overwritten, overwritten_before, overwritten_after}

pub after_calls-push : (d : DiskState) (calls : List Call) (call : Call) → after_calls d (calls ++ call ∷ []) ≡ after_call (after_calls d calls) call
after_calls-push d [] call = refl
after_calls-push d (first ∷ calls) call = after_calls-push (after_call d first) calls call

-- what is seen is one of the outcomes
pub written_may_stay : (d : DiskState) (at : ℕ) (bytes : List ℕ) → at ≤ length d.seen → MayLeave (moment d) d.seen → MayLeave (moment (after_write d at (length bytes) (overwritten d.seen at bytes))) (overwritten d.seen at bytes)
written_may_stay d at bytes le stays = record {
  no_shorter = omega (arith, stays.no_shorter, length-overwritten d.seen at bytes le);
  no_longer = omega arith;
  outside = λ place lt out. ⊎_elim (λ before. overwritten_before d.seen at bytes place le before) (λ after. overwritten_after d.seen at bytes place le after) out.0 ∙ stays.outside place lt out.1;
}

pub synced_may_stay : (d : DiskState) → MayLeave (moment (after_sync d)) d.seen
synced_may_stay d = record { no_shorter = omega arith; no_longer = omega arith; outside = λ place lt out. refl }

-- one more call
pub stands_after : (old new : MemDisk) (call : Call) (d : DiskState) → MemoryStandsFor old d → new.first.items ≡ old.first.items → new.calls.items ≡ old.calls.items ++ call ∷ []
    → new.bytes.items ≡ (after_call d call).seen → new.kept.items ≡ (after_call d call).synced → MayLeave (moment (after_call d call)) (after_call d call).seen
    → length new.bytes.items ≤ vec_capacity new.kept → length new.bytes.items ≤ vec_capacity new.first → MemoryStandsFor new (after_call d call)
stands_after old new call d stands same calls seen synced stays room_kept room_first = record {
  replay = ap (λ (l : List ℕ). after_calls (at_rest l []) new.calls.items) same ∙ ap (λ (l : List Call). after_calls (at_rest old.first.items []) l) calls
      ∙ after_calls-push (at_rest old.first.items []) old.calls.items call ∙ ap (λ (s : DiskState). after_call s call) stands.replay;
  seen = seen;
  synced = synced;
  may_stay = stays;
  room_kept = room_kept;
  room_first = room_first;
}

abbrev Bytes : Type 0
Bytes = Vec ℕ Global

-- a call that changes nothing
pub stands_noted : (old new : MemDisk) (call : Call) (d : DiskState) → after_call d call ≡ d → MemoryStandsFor old d → new.first ≡ old.first → new.kept ≡ old.kept → new.bytes ≡ old.bytes
    → new.calls.items ≡ old.calls.items ++ call ∷ [] → MemoryStandsFor new d
stands_noted old new call d idle stands first kept bytes calls = record {
  replay = ap (λ (v : Bytes). after_calls (at_rest v.items []) new.calls.items) first ∙ ap (λ (l : List Call). after_calls (at_rest old.first.items []) l) calls
      ∙ after_calls-push (at_rest old.first.items []) old.calls.items call ∙ ap (λ (s : DiskState). after_call s call) stands.replay ∙ idle;
  seen = ap (λ (v : Bytes). v.items) bytes ∙ stands.seen;
  synced = ap (λ (v : Bytes). v.items) kept ∙ stands.synced;
  may_stay = stands.may_stay;
  room_kept = omega (arith, ap (λ (v : Bytes). length v.items) bytes, ap (λ (v : Bytes). vec_capacity v) kept, stands.room_kept);
  room_first = omega (arith, ap (λ (v : Bytes). length v.items) bytes, ap (λ (v : Bytes). vec_capacity v) first, stands.room_first);
}

pub stands_written : (old new : MemDisk) (at : ℕ) (bytes : List ℕ) (copy : Bytes) (d : DiskState) → copy.items ≡ bytes → at ≤ length d.seen → MemoryStandsFor old d
    → new.first.items ≡ old.first.items → new.kept.items ≡ old.kept.items → new.calls.items ≡ old.calls.items ++ Write at copy ∷ [] → new.bytes.items ≡ overwritten d.seen at bytes
    → length new.bytes.items ≤ vec_capacity new.kept → length new.bytes.items ≤ vec_capacity new.first
    → MemoryStandsFor new (after_write d at (length bytes) (overwritten d.seen at bytes))
stands_written old new at bytes copy d is within stands first kept calls seen room_kept room_first =
    let P : List ℕ → Type 0 = λ l. MemoryStandsFor new (after_write d at (length l) (overwritten d.seen at l)) in
    subst P is (stands_after old new (Write at copy) d stands first calls (seen ∙ ap (λ (l : List ℕ). overwritten d.seen at l) (sym is)) (kept ∙ stands.synced)
    (written_may_stay d at copy.items within stands.may_stay) room_kept room_first)

-- what is outside after a last call, before it
pub outside_before : (d : DiskState) (earlier calls : List Call) (call : Call) (place : ℕ) → calls ≡ earlier ++ call ∷ [] → IsOutside place (after_calls d calls).written
    → IsOutside place (after_call (after_calls d earlier) call).written
outside_before d earlier calls call place is out =
    let P : DiskState → Type 0 = λ s. IsOutside place s.written in
    subst P (ap (λ (l : List Call). after_calls d l) is ∙ after_calls-push d earlier call) out

pub within_before : (d : DiskState) (earlier calls : List Call) (call : Call) (place : ℕ) → calls ≡ earlier ++ call ∷ [] → IsWithin place (after_calls d calls).written
    → IsWithin place (after_call (after_calls d earlier) call).written
within_before d earlier calls call place is in_range =
    let P : DiskState → Type 0 = λ s. IsWithin place s.written in
    subst P (ap (λ (l : List Call). after_calls d l) is ∙ after_calls-push d earlier call) in_range
