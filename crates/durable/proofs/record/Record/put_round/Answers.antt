use Rattle.std.proofs.Common.{List, refl, arith}
use Rattle.durable.specs.Entries.{Entry, Round}
use Rattle.durable.specs.Histories.{MayFollow}
use Rattle.durable.specs.Puts.{IsFullFor}
use Rattle.durable.specs.Reading.{IsKept}
use Rattle.durable.proofs.Endings.{written_put}
use Rattle.durable.proofs.record.Record.put_round.Goals as goal

pub returns-clause-put : goal.returns-clause-put
returns-clause-put g c =
    let old = c.args.self.now in
    let entry = Round c.args.round in
    let checked = c.in_ok-check_room.ensures.running in
    let room : ¬ IsFullFor old entry = λ full. omega (arith, full, checked.1) in
    let follows : (entries : List Entry) → IsKept entries old.recorded → MayFollow old.cluster entries entry
    = λ entries kept. record { in_range = (omega (arith, c.requires), c.ranges.round.fits); advances = omega (arith, c.requires, kept.round) } in
    written_put g.D.Disk.stands_for g.D.Disk.failed old entry checked.0 room old.recorded.slots (λ i. refl) c.round_behind.result c.round_behind.ensures follows c.write.new.self c.in_ok-write.ensures
    c.keep_round.new.self c.keep_round.ensures.remembers c.keep_round.ensures.tail
