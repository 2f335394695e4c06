use Rattle.std.proofs.Common.{refl, sym, subst, rules, ◌∙◌}
use Rattle.durable.proofs.Results.{on_err}
use Rattle.site_drive.specs.Drives.{Exchanges}
use Rattle.site_drive.specs.Leading.{LeadsTo}
use Rattle.site_drive.proofs.Counting.{counted_on}
use Rattle.site_drive.proofs.Results.{err_gives}
use Rattle.site_drive.proofs.Closing.{driven, given_up_last, given_up_first}
use Rattle.site_drive.proofs.Failing.{none_failed, all_fine, counts_on}
use Rattle.site_drive.proofs.desk.Desk.drive_with.Goals as goal

pub returns-in_err-malformed : goal.returns-in_err-malformed
returns-in_err-malformed g c = record {
  ok = search rules;
  fault = err_gives c.from_residual.result c.from_residual.ensures.1 λ e is.
      given_up_first g.D.Disk.stands_for g.L.Link.received g.L.Link.given c.args.last c.args.node.now c.take_turns.new.node c.args.link.now c.take_turns.new.link _ _ _ _ e is c.in_err-malformed.ensures.fault;
  whose = search rules;
  calls = record { receives = search rules; fewer = search rules; told = search rules; not_told = search rules };
  counts = counts_on c.from_residual.result c.in_err-malformed.field-0.0 _ _ _ c.from_residual.ensures.1 refl c.in_err-malformed.ensures.counts;
}

pub returns-in_err-close : goal.returns-in_err-close
returns-in_err-close g c = record {
  ok = search rules;
  fault = err_gives c.from_residual-in_err-close.result c.from_residual-in_err-close.ensures.1 λ e is.
      given_up_last g.D.Disk.stands_for g.L.Link.received g.L.Link.given c.args.last c.args.node.now c.take_turns.new.node c.close.new.node c.args.link.now c.take_turns.new.link c.close.new.link
      c.take_turns.ensures.whose c.args.turns c.in_ok-malformed.malformed c.take_turns.new.node.releases c.in_ok-malformed.ensures.ok _ e is c.in_err-close.ensures.fault;
  whose = search rules;
  calls = record {
    receives = search rules;
    fewer = search rules;
    told = search rules;
    not_told = on_err c.from_residual-in_err-close.result (let all = counted_on _ _ _ _ _ _ c.take_turns.ensures.counted c.close.ensures.counted in (all.calls, all.there));
  };
  counts = counts_on c.from_residual-in_err-close.result c.in_err-close.field-0.0 _ _ _ c.from_residual-in_err-close.ensures.1 (none_failed _ _ _ c.in_ok-malformed.ensures.counts) c.in_err-close.ensures.counts;
}

pub returns : goal.returns
returns g c = record {
  ok = driven g.D.Disk.stands_for g.L.Link.received g.L.Link.given c.args.last c.args.node.now c.take_turns.new.node c.close.new.node c.args.link.now c.take_turns.new.link c.close.new.link
      c.take_turns.ensures.whose c.args.turns c.in_ok-malformed.malformed c.close.new.node.releases
      (subst (λ fed. LeadsTo g.D.Disk.stands_for g.L.Link.received g.L.Link.given c.args.node.now c.take_turns.new.node c.args.link.now c.take_turns.new.link
      (Exchanges c.args.node.now.cluster c.args.node.now.me c.args.turns c.in_ok-malformed.malformed fed))
      (sym c.close.ensures.others.releases) c.in_ok-malformed.ensures.ok)
      c.in_ok-close.ensures.ok;
  fault = search rules;
  whose = search rules;
  calls = record { receives = search rules; fewer = search rules; told = search rules; not_told = search rules };
  counts = all_fine _ _ _ (none_failed _ _ _ c.in_ok-close.ensures.counts ∙ none_failed _ _ _ c.in_ok-malformed.ensures.counts);
}
