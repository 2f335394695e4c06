use Rattle.std.proofs.Common.{◌≡◌, ◌++◌, ◌∙◌, ap₂, arith, rules}
use Rattle.node.specs.Effects.{messages_of}
use Rattle.std.proofs.Common.{slice_get}
use Rattle.engine_schedule.specs.Tracing.{line_or_nothing}
use Rattle.engine_schedule.proofs.Traced.{one_more_line}
use Rattle.engine_schedule.proofs.tracing.traced.Goals as goal

pub loop-index-preserved : goal.loop-index-preserved
loop-index-preserved c =
    let ms = messages_of c.args.world.now.sent.items in
    let line : c.as_str.result.now ≡ line_or_nothing (slice_get ms c.loop-index.index) = search rules in
    c.in_ok-push_str.ensures.bytes ∙ (ap₂ (λ a b. a ++ b) c.loop-index.invariant line ∙ one_more_line ms c.loop-index.index _ (omega arith))
