use Rattle.std.proofs.Common.{subst, ◌∙◌}
use Rattle.site_drive.proofs.ManyTurns.{stays_on}
use Rattle.site_drive.proofs.Results.{err_gives}
use Rattle.site_drive.proofs.Sealing.{of_others}
use Rattle.server.specs.Returning.{AnswersOrLeaves}
use Rattle.server.proofs.Failing.{requests_kept, none_failed}
use Rattle.server.proofs.ManySteps.{many_others}
use Rattle.server.proofs.ManyPasses.{answered, not_answered}
use Rattle.server.proofs.server.Server.step.Goals as goal

pub returns-in_err-answered-clause-fault : goal.returns-in_err-answered-clause-fault
returns-in_err-answered-clause-fault g c = err_gives c.from_residual-in_err-answered.result c.from_residual-in_err-answered.ensures.1 λ e is.
    let taken = c.answer.ensures.taken in
    not_answered g.D.Disk.stands_for c.args.self.now.served.node c.take_batch.new.self.served c.answer.new.served _ _ _ c.take_batch.ensures.whose (c.in_ok-batched.ensures.ok.0, c.in_ok-batched.ensures.ok.1) taken.0 taken.1 taken.2 e is

pub returns-in_err-answered-clause-whose : goal.returns-in_err-answered-clause-whose
returns-in_err-answered-clause-whose g c =
    let taken = c.answer.ensures.taken in
    stays_on _ _ _ c.take_batch.ensures.whose (of_others _ _ (many_others taken.0 c.take_batch.new.self.served c.answer.new.served taken.2))

pub returns-in_err-answered-clause-counts : goal.returns-in_err-answered-clause-counts
returns-in_err-answered-clause-counts g c = λ _.
    let taken = c.answer.ensures.taken in
    requests_kept g.D.Disk.failed taken.0 c.take_batch.new.self.served c.answer.new.served taken.2 ∙ none_failed _ _ _ c.in_ok-batched.ensures.counts

pub returns-clause-ok : goal.returns-clause-ok
returns-clause-ok g c =
    let taken = c.answer.ensures.taken in
    answered g.D.Disk.stands_for c.args.self.now.served.node c.take_batch.new.self.served c.answer.new.served _ _ _ c.take_batch.ensures.whose (c.in_ok-batched.ensures.ok.0, c.in_ok-batched.ensures.ok.1) taken.0 taken.1 taken.2

pub returns-clause-whose : goal.returns-clause-whose
returns-clause-whose g c =
    let taken = c.answer.ensures.taken in
    stays_on _ _ _ c.take_batch.ensures.whose (of_others _ _ (many_others taken.0 c.take_batch.new.self.served c.answer.new.served taken.2))

pub returns-clause-counts : goal.returns-clause-counts
returns-clause-counts g c = λ _.
    let taken = c.answer.ensures.taken in
    requests_kept g.D.Disk.failed taken.0 c.take_batch.new.self.served c.answer.new.served taken.2 ∙ none_failed _ _ _ c.in_ok-batched.ensures.counts

pub returns-clause-clients : goal.returns-clause-clients
returns-clause-clients g c =
    let mid = c.take_batch.new.self in
    let served = c.answer.new.served in
    let seated = c.answer.new.seats in
    let each = subst (λ returning. AnswersOrLeaves returning c.args.now mid.seats.times mid.served served mid.seats.seats.items seated.seats.items)
    c.take_batch.ensures.returning c.in_ok-answered.ensures.each in (
      mid.served,
      c.in_ok-batched.ensures.ok.0,
      c.in_ok-batched.ensures.ok.1,
      c.in_ok-batched.ensures.ok.2,
      subst (λ seats. AnswersOrLeaves c.args.self.now.returning c.args.now seats.times mid.served served seats.seats.items seated.seats.items)
          c.take_batch.ensures.seats each,
    )
