use Rattle.std.proofs.Common.{subst}
use Rattle.http_serve.specs.declared.submission.Submission.TheVariants.{Queued, Already}
use Rattle.http_serve.specs.declared.submission.SubmitFault.TheVariants.{Command, Busy, Stopped, OutOfMemory}
use Rattle.node.specs.Faults.{IsSubmitCause}
use Rattle.server_clients.proofs.Serving.{taken, not_taken, stays, not_made, unchanged}
use Rattle.server_clients.proofs.serving_node.ServedService.submit.Goals as goal

pub returns-in_err-value-clause-outcome : goal.returns-in_err-value-clause-outcome
returns-in_err-value-clause-outcome g c = not_made c.args.self.now c.args.ticket c.args.text.now c.from_residual.result c.from_residual.ensures.1

pub returns-in_err-value-clause-refused : goal.returns-in_err-value-clause-refused
returns-in_err-value-clause-refused g c = unchanged c.args.self.now c.from_residual.result

pub returns-in-Ok-Queued-clause-outcome : goal.returns-in-Ok-Queued-clause-outcome
returns-in-Ok-Queued-clause-outcome g c =
    let e = c.in-Ok-Queued.ensures in
    taken g.D.Disk.stands_for c.args.self.now _ c.args.ticket c.args.text.now _ _ Queued c.in-Ok-Queued.field-0-is c.in_ok-value.ensures e.others e.no_put.1 e.event e.answered

pub returns-in-Ok-Already-clause-outcome : goal.returns-in-Ok-Already-clause-outcome
returns-in-Ok-Already-clause-outcome g c =
    let e = c.in-Ok-Already.ensures in
    taken g.D.Disk.stands_for c.args.self.now _ c.args.ticket c.args.text.now _ _ Already c.in-Ok-Already.field-0-is c.in_ok-value.ensures e.others e.no_put.1 e.event e.answered

pub returns-in-Err-NotACommand-clause-outcome : goal.returns-in-Err-NotACommand-clause-outcome
returns-in-Err-NotACommand-clause-outcome g c =
    let e = c.in-Err-NotACommand.ensures in
    not_taken g.D.Disk.stands_for c.args.self.now _ c.args.ticket c.args.text.now _ _ (Command c.in-Err-NotACommand.fault) c.in-Err-NotACommand.field-0-is c.in_ok-value.ensures e.others e.no_put.1 e.event

pub returns-in-Err-NotACommand-clause-refused : goal.returns-in-Err-NotACommand-clause-refused
returns-in-Err-NotACommand-clause-refused g c =
    let e = c.in-Err-NotACommand.ensures in
    stays g.D.Disk.stands_for c.args.self.now _ _ _ (Command c.in-Err-NotACommand.fault) c.in-Err-NotACommand.field-0-is e.others e.no_put.1 e.event

pub returns-in-Err-NotACommand-clause-told : goal.returns-in-Err-NotACommand-clause-told
returns-in-Err-NotACommand-clause-told g c = subst IsSubmitCause c.in-Err-NotACommand.field-0-is c.in-Err-NotACommand.ensures.cause

pub returns-in-Err-QueueFull-clause-outcome : goal.returns-in-Err-QueueFull-clause-outcome
returns-in-Err-QueueFull-clause-outcome g c =
    let e = c.in-Err-QueueFull.ensures in
    not_taken g.D.Disk.stands_for c.args.self.now _ c.args.ticket c.args.text.now _ _ Busy c.in-Err-QueueFull.field-0-is c.in_ok-value.ensures e.others e.no_put.1 e.event

pub returns-in-Err-QueueFull-clause-refused : goal.returns-in-Err-QueueFull-clause-refused
returns-in-Err-QueueFull-clause-refused g c =
    let e = c.in-Err-QueueFull.ensures in
    stays g.D.Disk.stands_for c.args.self.now _ _ _ Busy c.in-Err-QueueFull.field-0-is e.others e.no_put.1 e.event

pub returns-in-Err-Stopped-clause-outcome : goal.returns-in-Err-Stopped-clause-outcome
returns-in-Err-Stopped-clause-outcome g c =
    let e = c.in-Err-Stopped.ensures in
    not_taken g.D.Disk.stands_for c.args.self.now _ c.args.ticket c.args.text.now _ _ Stopped c.in-Err-Stopped.field-0-is c.in_ok-value.ensures e.others e.no_put.1 e.event

pub returns-in-Err-Stopped-clause-refused : goal.returns-in-Err-Stopped-clause-refused
returns-in-Err-Stopped-clause-refused g c =
    let e = c.in-Err-Stopped.ensures in
    stays g.D.Disk.stands_for c.args.self.now _ _ _ Stopped c.in-Err-Stopped.field-0-is e.others e.no_put.1 e.event

pub returns-in-Err-OutOfMemory-clause-outcome : goal.returns-in-Err-OutOfMemory-clause-outcome
returns-in-Err-OutOfMemory-clause-outcome g c =
    let e = c.in-Err-OutOfMemory.ensures in
    not_taken g.D.Disk.stands_for c.args.self.now _ c.args.ticket c.args.text.now _ _ OutOfMemory c.in-Err-OutOfMemory.field-0-is c.in_ok-value.ensures e.others e.no_put.1 e.event

pub returns-in-Err-OutOfMemory-clause-refused : goal.returns-in-Err-OutOfMemory-clause-refused
returns-in-Err-OutOfMemory-clause-refused g c =
    let e = c.in-Err-OutOfMemory.ensures in
    stays g.D.Disk.stands_for c.args.self.now _ _ _ OutOfMemory c.in-Err-OutOfMemory.field-0-is e.others e.no_put.1 e.event
