use Rattle.std.proofs.Common.{Err, refl, ap, rules}
use Rattle.site_drive.specs.Posting.{bytes_of}
use Rattle.site_drive.proofs.Failing.{none_failed, counts_on}
use Rattle.site_drive.proofs.Growth.{ends_after, not_grown}
use Rattle.site_drive.proofs.Results.{err_gives}
use Rattle.site_drive.proofs.Sealing.{of_others}
use Rattle.site_drive.proofs.desk.Desk.take_with_room.Goals as goal

pub returns-in_err-make_room-clause-ends : goal.returns-in_err-make_room-clause-ends
returns-in_err-make_room-clause-ends g c =
    let why = c.in_err-make_room.field-0.0 in
    record {
      ok = search rules;
      fault = err_gives c.from_residual.result c.from_residual.ensures.1 λ e is.
          not_grown g.D.Disk.stands_for c.args.node.now c.make_room.new.node c.args.last (bytes_of c.args.came.now) why e is c.in_err-make_room.ensures.others
          (λ stopped. c.in_err-make_room.ensures.refused (ap Err stopped)) (λ device. c.in_err-make_room.ensures.lost (ap Err device));
      whose = of_others c.args.node.now c.make_room.new.node c.make_room.ensures.keeps;
      counts = counts_on c.from_residual.result why _ _ _ c.from_residual.ensures.1 refl c.in_err-make_room.ensures.counts;
    }

pub returns-clause-ends : goal.returns-clause-ends
returns-clause-ends g c =
    let old = c.args.node.now in
    let mid = c.make_room.new.node in
    let ok = c.in_ok-make_room.ensures in
    ends_after g.D.Disk.stands_for old mid c.take_sealed.new.node (record { same = ok.same; on_disk = ok.stays; others = c.make_room.ensures.keeps })
    g.D.Disk.failed c.args.last (bytes_of c.args.came.now) c.take_sealed.new.self.outbox.items c.take_sealed.result (none_failed _ _ _ ok.counts) c.take_sealed.ensures.ends
