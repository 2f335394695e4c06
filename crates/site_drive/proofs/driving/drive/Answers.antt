use Rattle.std.proofs.Common.{refl, rules}
use Rattle.site_drive.specs.declared.last_call.LastCall.TheVariants.{TickOrAsk}
use Rattle.site_drive.proofs.Results.{err_gives}
use Rattle.site_drive.proofs.ManyTurns.{none_taken}
use Rattle.site_drive.proofs.Closing.{given_up_first}
use Rattle.site_drive.proofs.Failing.{memory_alone}
use Rattle.site_drive.proofs.driving.drive.Goals as goal

pub returns-in_err-desk : goal.returns-in_err-desk
returns-in_err-desk g c = record {
  ok = search rules;
  fault = err_gives c.from_residual.result c.from_residual.ensures.1 λ e is.
      given_up_first g.D.Disk.stands_for g.L.Link.received g.L.Link.given TickOrAsk c.args.node.now c.args.node.now c.args.link.now c.args.link.now _ _ _ e e refl
      (none_taken g.D.Disk.stands_for g.L.Link.received g.L.Link.given c.args.node.now c.args.link.now _ _ _ e is);
  whose = search rules;
  calls = record { receives = search rules; fewer = search rules; told = search rules; not_told = search rules };
  counts = memory_alone c.from_residual.result _ _ _ c.from_residual.ensures.1 refl refl;
}
