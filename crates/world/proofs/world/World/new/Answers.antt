use Rattle.std.proofs.Common.{◌≡◌, ◌+◌, length, ap, arith, rules}
use Rattle.world.proofs.Beginning.{none_new, one_new, stands_at_start, reached_at_start}
use Rattle.world.proofs.world.World.new.Goals as goal

pub loop-me-init : goal.loop-me-init
loop-me-init c = record {
  few = let none = ap length c.new-machines.ensures.items in omega (arith, none);
  small = search rules;
  stands = none_new c.args.cluster c.new-machines.result.items c.new-machines.ensures.items;
}

pub loop-me-preserved : goal.loop-me-preserved
loop-me-preserved c =
    let machines = c.loop-me.machines in
    let me : c.in-Some.me ≡ length machines.items + 1 = omega (arith, c.in-Some.ensures.0, c.len.ensures, machines.ok.0) in
    record {
      few = search rules;
      small = c.loop-me.invariant.small;
      stands = one_new c.args.cluster c.in-Some.me machines.items c.push.new.self.items c.in_ok-machine.machine me c.in_ok-push.ensures.items c.in_ok-machine.ensures c.loop-me.invariant.stands;
    }

pub returns-clause-start : goal.returns-clause-start
returns-clause-start c = stands_at_start _ c.loop-me.invariant.stands c.new.ensures.items

pub returns-clause-reached : goal.returns-clause-reached
returns-clause-reached c = reached_at_start _ c.loop-me.invariant.stands c.new.ensures.items
