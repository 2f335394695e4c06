use Rattle.std.proofs.Common.{ap, Err, inl, inr}
use Rattle.std.proofs.lemmas.Result.{IfOk-weaker}
use Rattle.release.specs.Standing.{answer_view}
use Rattle.world.specs.Telling.{fed_at}
use Rattle.world.proofs.Fed.{fed_whole}
use Rattle.engine_schedule.specs.Simulation.{got}
use Rattle.engine_schedule.proofs.Simulating.{has_release_of, has_no_release}
use Rattle.engine_schedule.proofs.simulator.Simulation.page_or_none.Goals as goal

pub returns-in-Ok : goal.returns-in-Ok
returns-in-Ok c =
    let world = c.args.self.now.world in
    IfOk-weaker c.page_text.result _ _
    (λ text told n events m. inl (record {
      page = answer_view c.in-Ok.answer;
      up = λ w stands down. let told = (c.in-Ok.ensures.down w stands).1 down in cc;
      has = λ w stands.
          has_release_of (w.node c.args.node) (fed_at world c.args.node) c.args.release (fed_whole world w c.args.node c.requires stands (m.published w stands c.args.node))
          (λ none. let told = (c.in-Ok.ensures.none w stands).1 ((λ down. let other = (c.in-Ok.ensures.down w stands).1 down in cc), none) in cc);
      answers = c.in-Ok.ensures.ok events m.reached;
      printed_is = ap (λ rest. got c.args.node c.args.release c.args.path.now rest) told;
    }))
    c.page_text.ensures

pub returns-in-Err-NoSuchRelease : goal.returns-in-Err-NoSuchRelease
returns-in-Err-NoSuchRelease c =
    let world = c.args.self.now.world in
    IfOk-weaker c.format.result _ _
    (λ text told n events m. inr (record {
      none = λ w stands. inr (has_no_release (w.node c.args.node) (fed_at world c.args.node) c.args.release (fed_whole world w c.args.node c.requires stands (m.published w stands c.args.node))
          ((c.in-Err-NoSuchRelease.ensures.none w stands).0 (ap Err c.in-Err-NoSuchRelease.field-0-is)).1);
      printed_is = ap (λ rest. got c.args.node c.args.release c.args.path.now rest) told;
    }))
    c.format.ensures.ok
