use Rattle.std.proofs.Common.{inl, inr, refl}
use Rattle.server.proofs.Ending.{not_ready, ready_halts, ends_done, passed_on, done_halts}
use Rattle.server.proofs.ManyPasses.{not_ready as not_led, halts, passes_end, all_told}
use Rattle.server.proofs.engine.work.Goals as goal

pub returns-in_err-say_ready-clause-said : goal.returns-in_err-say_ready-clause-said
returns-in_err-say_ready-clause-said g c = passed_on _ _ _ _ c.from_residual.result _ c.from_residual.ensures.1 (not_ready _ _ _ _ _ (refl, refl) c.in_err-say_ready.ensures)

pub returns-in_err-say_ready-clause-laps : goal.returns-in_err-say_ready-clause-laps
returns-in_err-say_ready-clause-laps g c =
    halts _ c.args.server.now.served.node _ _ c.from_residual.result _ c.from_residual.ensures.1 (inl (not_led _ c.args.server.now.served.node _ _ _ _ (ready_halts _ _ _ c.in_err-say_ready.ensures)))

pub returns-in_err-take_passes-clause-said : goal.returns-in_err-take_passes-clause-said
returns-in_err-take_passes-clause-said g c =
    passed_on _ _ _ _ c.from_residual-in_err-take_passes.result _ c.from_residual-in_err-take_passes.ensures.1 (inr (inl (c.in_err-take_passes.ensures.ends, c.in_ok-say_ready.ensures, c.take_passes.ensures.noted)))

pub returns-in_err-take_passes-clause-laps : goal.returns-in_err-take_passes-clause-laps
returns-in_err-take_passes-clause-laps g c =
    halts _ c.args.server.now.served.node c.take_passes.new.server.served.node _ c.from_residual-in_err-take_passes.result _ c.from_residual-in_err-take_passes.ensures.1
    (passes_end _ c.args.server.now.served.node c.take_passes.new.server.served.node _ _ c.in_err-take_passes.ensures.fault)

pub returns-clause-said : goal.returns-clause-said
returns-clause-said g c = ends_done _ _ _ _ _ _ _ _ _ _ c.take_passes.ensures.noted c.in_ok-say_ready.ensures c.say_done.ensures

pub returns-clause-laps : goal.returns-clause-laps
returns-clause-laps g c = all_told _ c.args.server.now.served.node c.take_passes.new.server.served.node _ c.say_done.result (done_halts _ c.say_done.result c.say_done.ensures) c.in_ok-take_passes.ensures.ok
