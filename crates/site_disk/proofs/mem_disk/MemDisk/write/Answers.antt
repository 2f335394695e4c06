use Rattle.std.proofs.Common.{◌≡◌, ◌≤◌, ◌+◌, max, length, vec_capacity, Vec, List, ℕ, ◌∙◌, ap, arith, rules}
use Rattle.std.specs.declared.alloc.Global.{Global}
use Rattle.site_disk.specs.Model.{overwritten}
use Rattle.site_disk.proofs.Bytes.{length-overwritten}
use Rattle.site_disk.proofs.Replay.{stands_written}
use Rattle.site_disk.proofs.mem_disk.MemDisk.write.Goals as goal

pub returns-clause-written : goal.returns-clause-written
returns-clause-written c = λ d stands.
    let copy : c.in_ok-copy.copy.items ≡ c.args.bytes.now = search rules in
    let first = c.take_note.ensures.same.0 in
    let kept = c.take_note.ensures.same.1 in
    let bytes = c.take_note.ensures.same.2 in
    let was : c.take_note.new.self.bytes.items ≡ d.seen = ap (λ (v : Vec ℕ Global). v.items) bytes ∙ c.reserve_to-3.ensures.items ∙ stands.seen in
    let within : c.args.at ≤ length d.seen = omega (arith, c.if-at-len.false, c.len-2.ensures, c.len.ensures, ap length stands.seen) in
    let seen : c.overwrite.new.file.items ≡ overwritten d.seen c.args.at c.args.bytes.now = c.overwrite.ensures.items ∙ ap (λ (l : List ℕ). overwritten l c.args.at c.args.bytes.now) was in
    let size : length c.overwrite.new.file.items ≡ max (length d.seen) (c.args.at + length c.args.bytes.now) = ap length seen ∙ length-overwritten d.seen c.args.at c.args.bytes.now within in
    let first_room : c.max-size.result ≤ vec_capacity c.take_note.new.self.first = omega (arith, ap (λ (v : Vec ℕ Global). vec_capacity v) first, c.in_ok-reserve_to.ensures.room) in
    let kept_room : c.max-size.result ≤ vec_capacity c.take_note.new.self.kept = omega (arith, ap (λ (v : Vec ℕ Global). vec_capacity v) kept, c.in_ok-reserve_to-2.ensures.room) in
    let longest : length d.seen ≤ c.max-size.result = grind (arith, c.max-size.ensures, c.len.ensures, ap length stands.seen) in
    let all : length c.overwrite.new.file.items ≤ c.max-size.result = omega (arith, size, longest, within, c.if-size-at.false) in
    stands_written _ _ c.args.at c.args.bytes.now c.in_ok-copy.copy d copy within stands (ap (λ (v : Vec ℕ Global). v.items) first ∙ c.reserve_to.ensures.items)
    (ap (λ (v : Vec ℕ Global). v.items) kept ∙ c.reserve_to-2.ensures.items) c.in_ok-take_note.ensures.ok seen (omega (arith, all, kept_room)) (omega (arith, all, first_room))
