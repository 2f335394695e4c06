use Rattle.std.proofs.Common.{ap, sym}
use Rattle.server.specs.Passes.{TakesPasses, passes_of}
use Rattle.server.proofs.Ending.{has_worked}
use Rattle.server.proofs.Runs.{on_ok_gives, opened_as, run_of}
use Rattle.server.proofs.engine.run.Goals as goal

pub returns-clause-said : goal.returns-clause-said
returns-clause-said g c = has_worked _ _ _ _ c.in_ok-server.ensures.ok c.start-done.ensures.said

pub returns-clause-laps : goal.returns-clause-laps
returns-clause-laps g c = on_ok_gives c.start-done.result c.start-done.ensures.laps.passes λ led.
    run_of _ _ (λ n p fed. TakesPasses n p (passes_of c.args.options.now.id c.args.options.now.rounds) fed) _ c.start-done.new.server.served.node (opened_as (ap (λ s. s.served.node) (sym c.deref_mut.ensures.value)) c.in_ok-server.ensures.opened) led
