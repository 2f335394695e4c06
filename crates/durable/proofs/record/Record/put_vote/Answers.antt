use Rattle.std.proofs.Common.{List, ◌∙◌, arith, subst}
use Rattle.std.proofs.lemmas.Grind.{common_steps}
use Rattle.site_ids.specs.declared.value.Vote.{Vote}
use Rattle.durable.specs.Entries.{Entry, Voted}
use Rattle.durable.specs.Histories.{MayFollow}
use Rattle.durable.specs.Puts.{IsFullFor, Remembers}
use Rattle.durable.specs.Reading.{IsKept}
use Rattle.durable.proofs.Advances.{vote_advances}
use Rattle.durable.proofs.Endings.{measured, written_put}
use Rattle.durable.proofs.record.Record.put_vote.Goals as goal

pub returns-in_err-write : goal.returns-in_err-write
returns-in_err-write g c = grind (arith, common_steps, measured _ _ c.as_bytes.ensures)

pub returns : goal.returns
returns g c =
    let old = c.args.self.now in
    let value = c.args.value.now in
    let entry = Voted c.args.instance c.args.ballot value in
    let made = c.in_ok-bytes.ensures in
    let range = made.in_range in
    let checked = c.in_ok-check_room.ensures.running in
    let room : ¬ IsFullFor old entry = λ full. omega (arith, full, checked.1, measured _ _ c.as_bytes.ensures) in
    let follows : (entries : List Entry) → IsKept entries old.recorded → MayFollow old.cluster entries entry
    = λ entries kept. record {
      in_range = (range.0, (range.1, range.2, c.requires.of_cluster), c.requires.fits);
      advances = vote_advances entries c.args.instance c.args.ballot value _ (kept.slots c.args.instance) c.requires.free c.requires.new;
    } in
    let remembers = subst (λ (v : Vote). Remembers c.write.new.self.recorded c.keep_vote.new.self (Voted c.args.instance v.ballot v.value)) made.vote c.keep_vote.ensures.remembers in
    written_put g.D.Disk.stands_for g.D.Disk.failed old entry checked.0 room c.room_for_vote.new.self made.slots c.deref.result.now (c.deref.ensures.value ∙ made.bytes) follows c.write.new.self c.in_ok-write.ensures
    c.keep_vote.new.self remembers c.keep_vote.ensures.tail
