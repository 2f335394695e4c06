use Rattle.std.proofs.Common.{◌∙◌, sym, subst, Ok}
use Rattle.engine_schedule.specs.ScheduleView.{line_view}
use Rattle.engine_schedule.specs.Stepping.{HappenEnds}
use Rattle.engine_schedule.proofs.Simulating.{settle_ends, quiet_ends, event_ends, asked_page, happened_trace}
use Rattle.engine_schedule.proofs.simulator.Simulation.happen.Goals as goal

pub returns-in-Settle : goal.returns-in-Settle
returns-in-Settle c =
    subst (λ l. HappenEnds c.args.self.now c.settle.new.self (line_view l) c.silent.result) (sym c.in-Settle.is)
    (settle_ends c.args.self.now c.settle.new.self c.settle.result c.silent.result c.silent.ensures.ok c.silent.ensures.err c.settle.ensures.all c.settle.ensures.ok c.settle.ensures.faults c.settle.ensures.bad)

pub returns-in-Quiet : goal.returns-in-Quiet
returns-in-Quiet c =
    subst (λ l. HappenEnds c.args.self.now c.quiet.new.self (line_view l) c.silent-in-Quiet.result) (sym c.in-Quiet.is)
    (quiet_ends c.args.self.now c.quiet.new.self c.in-Quiet.node c.quiet.result c.silent-in-Quiet.result c.silent-in-Quiet.ensures.ok c.silent-in-Quiet.ensures.err c.quiet.ensures.ok c.quiet.ensures.faults c.quiet.ensures.bad)

pub returns-in-Some : goal.returns-in-Some
returns-in-Some c =
    event_ends c.args.self.now c.take.new.self (line_view c.args.line.now) c.in-Some.event c.take.result c.silent-in-Some.result (sym c.in_ok-event-in_default.ensures ∙ c.in-Some.is) c.silent-in-Some.ensures.ok c.silent-in-Some.ensures.err
    c.take.ensures.settled c.take.ensures.ok c.take.ensures.faults c.take.ensures.bad

pub returns-in-Get : goal.returns-in-Get
returns-in-Get c =
    subst (λ l. HappenEnds c.args.self.now c.args.self.now (line_view l) c.got.result) (sym c.in-Get.is) (asked_page c.args.self.now _ _ _ c.got.result c.got.ensures.ok c.got.ensures.bad c.got.ensures.faults)

pub returns-in_ok-traced-in-Trace : goal.returns-in_ok-traced-in-Trace
returns-in_ok-traced-in-Trace c =
    subst (λ l. HappenEnds c.args.self.now c.args.self.now (line_view l) (Ok c.in_ok-traced-in-Trace.field-0)) (sym c.in-Trace.is)
    (happened_trace c.args.self.now c.in_ok-traced-in-Trace.field-0 c.in_ok-traced-in-Trace.ensures)
