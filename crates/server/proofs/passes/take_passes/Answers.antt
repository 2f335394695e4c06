use Rattle.std.proofs.Common.{[], append-nil, arith, refl, sym, ◌∙◌}
use Rattle.site_drive.proofs.ManyTurns.{stays_on}
use Rattle.site_drive.proofs.Results.{err_gives}
use Rattle.server.proofs.ManyPasses.{no_passes, one_pass_more, pass_ends}
use Rattle.server.proofs.Failing.{counts_on, none_failed}
use Rattle.server.proofs.Noting.{noted_on}
use Rattle.server.proofs.passes.take_passes.Goals as goal

pub loop-init : goal.loop-init
loop-init g c = record {
  within = omega arith;
  leads = no_passes g.D.Disk.stands_for c.args.server.now.served.node _ _ _;
  whose = record { me = refl; cluster = refl; more = ([], sym (append-nil c.args.server.now.served.node.releases)) };
  noted = (0, (λ no. refl), (refl, refl));
  counts = refl;
}

pub returns-in_err-take_pass-clause-fault : goal.returns-in_err-take_pass-clause-fault
returns-in_err-take_pass-clause-fault g c = err_gives c.from_residual.result c.from_residual.ensures.1 λ e is.
    pass_ends g.D.Disk.stands_for c.args.server.now.served.node c.loop.server.served.node c.take_pass.new.server.served.node
    c.loop.invariant.whose c.loop.counter _ c.loop.invariant.leads c.args.count _ e is c.loop-test.true c.in_err-take_pass.ensures.fault

pub loop-preserved : goal.loop-preserved
loop-preserved g c = record {
  within = omega (arith, c.loop-test.true);
  leads =
      one_pass_more g.D.Disk.stands_for c.args.server.now.served.node c.loop.server.served.node c.take_pass.new.server.served.node
      c.loop.invariant.whose c.loop.counter _ c.loop.invariant.leads c.take_pass.new.server.served.node.releases c.in_ok-take_pass.ensures.ok;
  whose = stays_on _ _ _ c.loop.invariant.whose c.take_pass.ensures.whose;
  noted = noted_on c.args.options.now.verbose _ _ _ _ _ _ c.loop.invariant.noted c.tell_notes.ensures;
  counts = none_failed _ _ _ c.in_ok-take_pass.ensures.counts ∙ c.loop.invariant.counts;
}

pub returns-in_err-take_pass-clause-counts : goal.returns-in_err-take_pass-clause-counts
returns-in_err-take_pass-clause-counts g c = counts_on c.from_residual.result c.in_err-take_pass.field-0.0 _ _ _ c.from_residual.ensures.1 c.loop.invariant.counts c.in_err-take_pass.ensures.counts

pub returns-clause-counts : goal.returns-clause-counts
returns-clause-counts g c = λ _. c.loop.invariant.counts
