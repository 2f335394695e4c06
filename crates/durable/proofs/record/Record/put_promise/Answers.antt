use Rattle.std.proofs.Common.{List, arith}
use Rattle.durable.specs.Entries.{Entry, Promised}
use Rattle.durable.specs.Histories.{MayFollow}
use Rattle.durable.specs.Puts.{IsFullFor}
use Rattle.durable.specs.Reading.{IsKept}
use Rattle.durable.proofs.Advances.{promise_advances}
use Rattle.durable.proofs.Endings.{written_put}
use Rattle.durable.proofs.record.Record.put_promise.Goals as goal

pub returns : goal.returns
returns g c =
    let old = c.args.self.now in
    let entry = Promised c.args.instance c.args.ballot in
    let range = c.promise_behind.ensures.in_range in
    let checked = c.in_ok-check_room.ensures.running in
    let room : ¬ IsFullFor old entry = λ full. omega (arith, full, checked.1) in
    let follows : (entries : List Entry) → IsKept entries old.recorded → MayFollow old.cluster entries entry
    = λ entries kept. record { in_range = (range.0, (range.1, range.2, c.requires.of_cluster)); advances = promise_advances entries c.args.instance c.args.ballot _ (kept.slots c.args.instance) c.requires.above } in
    written_put g.D.Disk.stands_for g.D.Disk.failed old entry checked.0 room c.make_room.new.self c.make_room.ensures.same c.promise_behind.result c.promise_behind.ensures.bytes follows c.write.new.self c.in_ok-write.ensures
    c.keep_promise.new.self c.keep_promise.ensures.remembers c.keep_promise.ensures.tail
