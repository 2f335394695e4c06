use Rattle.std.proofs.Common.{◌∙◌, ◌⊎◌, sym, ap₂, subst, arith, ℕ, List}
use Rattle.site_ids.specs.Ids.{IsNode}
use Rattle.engine_schedule.specs.Simulation.{got, IsPage, IsNoPage}
use Rattle.engine_schedule.specs.Stepping.{moment_of}
use Rattle.engine_schedule.proofs.simulator.Simulation.got.Goals as goal

pub returns-clause-ok : goal.returns-clause-ok
returns-clause-ok c =
    let world = c.args.self.now.world in
    let node : IsNode world.cluster c.args.node =
    (omega (arith, c.number-number.ensures.is, c.number-number.ensures.range), omega (arith, c.number-number.ensures.is, c.if-size-number.false, c.size.ensures.is, c.cluster.ensures)) in
    let told = c.in_ok-got_text.ensures ∙ ap₂ (λ (k : ℕ) (rest : List ℕ). got k c.args.release c.args.path.now rest) c.number-number.ensures.is c.as_str.ensures.value in (
      node,
      λ n events m. subst (λ t. IsPage (moment_of c.args.self.now events) c.args.node c.args.release c.args.path.now t ⊎ IsNoPage (moment_of c.args.self.now events) c.args.node c.args.release c.args.path.now t) (sym told) (c.in_ok-page.ensures n events m),
    )
