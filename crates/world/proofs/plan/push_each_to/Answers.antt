use Rattle.std.proofs.Common.{◌+◌, refl, rules}
use Rattle.world.proofs.Pushing.{each_to_more, after_one}
use Rattle.world.proofs.plan.push_each_to.Goals as goal

pub loop-told-preserved : goal.loop-told-preserved
loop-told-preserved c =
    let told = c.loop-told.told in
    record {
      most = search rules;
      items = each_to_more c.args.events.now.items c.loop-told.events.items c.push.new.self.items c.args.node c.args.first told (told + 1) _ c.loop-told.invariant.items c.in_ok-push.ensures.items refl (after_one told);
    }
