use Rattle.std.proofs.Common.{◌≡◌, ◌≤◌, ◌++◌, ◌∷◌, [], List, length, take, vec_capacity, Vec, ℕ, get_or, refl, sym, ◌∙◌, ap, subst, arith, length-append}
use Rattle.std.specs.declared.alloc.Global.{Global}
use Rattle.std.proofs.lemmas.List.{take_at}
use Rattle.site_disk.specs.Model.{DiskState, IsOutside, at_rest}
use Rattle.site_disk.specs.Memory.{after_calls}
use Rattle.site_disk.specs.declared.mem_disk.Call.{Call}
use Rattle.site_disk.specs.declared.mem_disk.Call.TheVariants.{Sync}
use Rattle.site_disk.proofs.Replay.{stands_after, synced_may_stay}
use Rattle.site_disk.proofs.mem_disk.MemDisk.sync_all.Goals as goal

same_front : (a b : List Call) (x y : Call) → a ++ x ∷ [] ≡ b ++ y ∷ [] → a ≡ b
same_front a b x y same =
    let size : length a ≡ length b = omega (arith, ap length same, length-append a (x ∷ []), length-append b (y ∷ [])) in
    sym (take_at a (x ∷ []) (length a) refl) ∙ ap (λ (l : List Call). take (length a) l) same ∙ take_at b (y ∷ []) (length a) (sym size)

pub returns-in-Some-clause-synced : goal.returns-in-Some-clause-synced
returns-in-Some-clause-synced c = λ d stands.
    let old = c.args.self.now in
    let first = c.take_note.ensures.same.0 in
    let kept = c.take_note.ensures.same.1 in
    let bytes = c.take_note.ensures.same.2 in
    let start = at_rest old.first.items [] in
    let seen = ap (λ (v : Vec ℕ Global). v.items) bytes ∙ stands.seen in
    let read : c.deref-in-Some.result.now ≡ d.seen = c.deref-in-Some.ensures.value ∙ seen in
    let was : c.take_note.new.self.kept.items ≡ d.synced = ap (λ (v : Vec ℕ Global). v.items) kept ∙ stands.synced in
    let size = ap (λ (v : Vec ℕ Global). length v.items) bytes in
    let room = ap (λ (v : Vec ℕ Global). vec_capacity v) kept in
    let room_first = ap (λ (v : Vec ℕ Global). vec_capacity v) first in
    let front : c.in-Some.earlier.now ≡ old.calls.items = same_front _ _ _ _ (sym c.in-Some.ensures.cases.0 ∙ c.deref.ensures.value ∙ c.in_ok-take_note.ensures.ok) in
    let replayed : after_calls start c.in-Some.earlier.now ≡ d = ap (λ (l : List Call). after_calls start l) front ∙ stands.replay in
    let fits : length c.deref-in-Some.result.now ≤ vec_capacity c.take_note.new.self.kept = omega (arith, stands.room_kept, size, room, ap length c.deref-in-Some.ensures.value) in
    let full = c.catch_up.ensures.items start refl (omega (arith, ap length read, ap length was, stands.may_stay.no_shorter)) fits (λ place lt out.
    ap (λ (l : List ℕ). get_or l place 0) read
    ∙ stands.may_stay.outside place (omega (arith, lt, ap length was)) (subst (λ (s : DiskState). IsOutside place s.written) replayed out)
    ∙ ap (λ (l : List ℕ). get_or l place 0) (sym was)) in
    stands_after _ _ Sync d stands (ap (λ (v : Vec ℕ Global). v.items) first) c.in_ok-take_note.ensures.ok seen (full ∙ read) (synced_may_stay d)
    (omega (arith, stands.room_kept, size, room, c.catch_up.ensures.capacity)) (omega (arith, stands.room_first, size, room_first))
