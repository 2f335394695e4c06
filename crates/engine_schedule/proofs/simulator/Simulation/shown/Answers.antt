use Rattle.std.proofs.Common.{◌≡◌, ◌++◌, ℕ, codes, decimal, string_bytes, length, subst, arith, rules}
use Rattle.command.specs.Effective.{effective}
use Rattle.command.specs.Releases.{release_count}
use Rattle.site_ids.specs.Ids.{IsNode}
use Rattle.world.specs.Telling.{fed_at}
use Rattle.world.proofs.Fed.{fed_whole}
use Rattle.engine_schedule.specs.Simulation.{state_word}
use Rattle.engine_schedule.proofs.Simulating.{fed_length}
use Rattle.engine_schedule.proofs.simulator.Simulation.shown.Goals as goal

pub returns-clause-ok : goal.returns-clause-ok
returns-clause-ok c =
    let world = c.args.self.now.world in
    let fed = fed_at world c.args.node in
    let node : IsNode world.cluster c.args.node =
    (omega (arith, c.number-number.ensures.is, c.number-number.ensures.range), omega (arith, c.number-number.ensures.is, c.if-size-number.false, c.size.ensures.is, c.cluster.ensures)) in
    let line : string_bytes c.in_ok-line.line
    ≡ codes "node " ++ (decimal c.args.node ++ (codes ": " ++ (state_word c.state.result ++ (codes " known " ++ (decimal c.known-known.result ++ (codes " newest " ++ (decimal (release_count (effective fed)) ++ codes "\n")))))))
    = search rules
    in (
      node,
      λ n events m.
          let known : c.known-known.result ≡ length fed = fed_length world m.reached.world c.args.node c.known-known.result node m.reached.stands (m.published m.reached.world m.reached.stands c.args.node) (c.known-known.ensures.is m.reached.world m.reached.stands) in
          record {
            state = c.state.result;
            values = fed;
            state_is = c.state.ensures;
            known = λ w stands. fed_whole world w c.args.node node stands (m.published w stands c.args.node);
            printed_is = subst (λ (k : ℕ). string_bytes c.in_ok-line.line
                ≡ codes "node " ++ (decimal c.args.node ++ (codes ": " ++ (state_word c.state.result ++ (codes " known " ++ (decimal k ++ (codes " newest " ++ (decimal (release_count (effective fed)) ++ codes "\n")))))))) known line;
          },
    )
