use Rattle.std.proofs.Common.{◌+◌, rules}
use Rattle.world.proofs.Pushing.{to_each_more, after_one, one_and}
use Rattle.world.proofs.plan.push_to_each.Goals as goal

pub loop-told-preserved : goal.loop-told-preserved
loop-told-preserved c =
    let told = c.loop-told.told in
    record {
      most = search rules;
      small = c.loop-told.invariant.small;
      items = to_each_more c.args.events.now.items c.loop-told.events.items c.push.new.self.items c.args.index 1 told (told + 1) _ c.loop-told.invariant.items c.in_ok-push.ensures.items
          (one_and c.args.index c.in-Some.node told c.in-Some.ensures.0) (after_one told);
    }
