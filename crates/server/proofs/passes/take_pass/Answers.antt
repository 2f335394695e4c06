use Rattle.std.proofs.Common.{inl, sym, subst}
use Rattle.site_drive.proofs.Results.{err_gives}
use Rattle.server.specs.Mailing.{waiting_of, posted_of}
use Rattle.site_drive.specs.Batches.{LeadsSealed}
use Rattle.server.specs.Passes.{TakesPass}
use Rattle.server.proofs.ManyPasses.{not_begun, passed, step_broke}
use Rattle.server.proofs.passes.take_pass.Goals as goal

pub returns-in_err-heard-clause-fault : goal.returns-in_err-heard-clause-fault
returns-in_err-heard-clause-fault g c = err_gives c.from_residual.result c.from_residual.ensures.1 λ e is.
    inl (not_begun _ c.args.server.now.served.node _ _ e is)

pub returns-in_err-stepped-clause-fault : goal.returns-in_err-stepped-clause-fault
returns-in_err-stepped-clause-fault g c = err_gives c.from_residual-in_err-stepped.result c.from_residual-in_err-stepped.ensures.1 λ e is.
    step_broke g.D.Disk.stands_for c.args.server.now.served.node c.step.new.self.served.node _ _ (waiting_of c.take_in.new.mail) _ e is c.in_err-stepped.ensures.fault.leaves

pub returns-clause-ok : goal.returns-clause-ok
returns-clause-ok g c =
    let old = c.args.server.now.served.node in
    let new = c.step.new.self.served.node in
    subst (λ v. LeadsSealed g.D.Disk.stands_for old v.node (TakesPass old.cluster old.me v.node.releases)) (sym c.rest_behind.ensures)
    (passed g.D.Disk.stands_for old new old.cluster old.me (waiting_of c.take_in.new.mail) (posted_of c.step.new.self.mail) new.releases c.in_ok-stepped.ensures.ok)
