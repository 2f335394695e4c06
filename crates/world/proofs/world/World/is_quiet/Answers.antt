use Rattle.std.proofs.Common.{rules}
use Rattle.site_ids.specs.Ids.{IsNode}
use Rattle.world.proofs.AllQuiet.{quiet_both, quiet_none, all_known_unquiet}
use Rattle.world.proofs.world.World.is_quiet.Goals as goal

pub returns-in_default : goal.returns-in_default
returns-in_default c w stands = all_known_unquiet c.args.self.now.cluster c.args.node w (c.in_default.ensures w stands)

pub returns-then-not-are_quiet : goal.returns-then-not-are_quiet
returns-then-not-are_quiet c w stands = quiet_none c.args.self.now.cluster c.args.node w c.are_quiet.result (c.are_quiet.ensures w stands) c.if-not-are_quiet.true

pub returns : goal.returns
returns c w stands =
    let n = c.args.self.now.cluster in
    let node : IsNode n c.args.node = (search rules, c.requires) in
    quiet_both n c.args.node c.in-Some.instance w c.are_quiet.result c.may_decide.result node (c.in-Some.ensures w stands) (c.are_quiet.ensures w stands) (c.may_decide.ensures w stands) c.if-not-are_quiet.false
