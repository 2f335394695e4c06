use Rattle.std.proofs.Common.{ℕ, List, sym, ◌∙◌, arith, subst}
use Rattle.std.proofs.lemmas.Grind.{common_steps}
use Rattle.durable.specs.Entries.{Entry, Learned}
use Rattle.durable.specs.Histories.{MayFollow}
use Rattle.durable.specs.Puts.{IsFullFor, Remembers}
use Rattle.durable.specs.Reading.{IsKept}
use Rattle.durable.proofs.Endings.{measured, written_put}
use Rattle.durable.proofs.record.Record.put_learned.Goals as goal

pub returns-in_err-write : goal.returns-in_err-write
returns-in_err-write g c = grind (arith, common_steps, measured _ _ c.as_bytes.ensures)

pub returns : goal.returns
returns g c =
    let old = c.args.self.now in
    let value = c.args.value.now in
    let entry = Learned c.args.instance value in
    let made = c.in_ok-bytes.ensures in
    let checked = c.in_ok-check_room.ensures.running in
    let room : ¬ IsFullFor old entry = λ full. omega (arith, full, checked.1, measured _ _ c.as_bytes.ensures) in
    let follows : (entries : List Entry) → IsKept entries old.recorded → MayFollow old.cluster entries entry
    = λ entries kept. record { in_range = (made.in_range, c.requires.fits); advances = sym (kept.learned c.args.instance) ∙ c.requires.new } in
    let remembers = subst (λ (v : List ℕ). Remembers c.write.new.self.recorded c.keep_learned.new.self (Learned c.args.instance v)) made.value c.keep_learned.ensures.remembers in
    written_put g.D.Disk.stands_for g.D.Disk.failed old entry checked.0 room c.room_for_learned.new.self made.slots c.deref.result.now (c.deref.ensures.value ∙ made.bytes) follows c.write.new.self c.in_ok-write.ensures
    c.keep_learned.new.self remembers c.keep_learned.ensures.tail
