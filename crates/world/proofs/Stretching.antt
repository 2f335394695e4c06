-- A run over a plan.
use Rattle.std.proofs.Common.{◌≡◌, ℕ, zero, suc, Result, Ok, Err, List, sym, ap, subst, ◌∙◌, arith}
use Rattle.site_ids.specs.Ids.{IsNode}
use Rattle.node.specs.Nodes.{Node}
use Rattle.world.specs.declared.event.Event.{Event}
use Rattle.world.specs.declared.fault.WorldFault.{WorldFault}
use Rattle.world.specs.declared.fault.WorldFault.TheVariants.{OutOfMemory, BadEvent}
use Rattle.world.specs.declared.machine.Machine.{Machine}
use Rattle.world.specs.declared.machine.Machine.TheVariants.{Open, Bare}
use Rattle.world.specs.declared.world.World.{World as Code}
use Rattle.world.specs.Worlds.{World}
use Rattle.world.specs.Standing.{IsMachineOf, IsWorldOf}
use Rattle.world.specs.Steps.{RunEnds, Reached}
use Rattle.world.proofs.Fed.{there_at}
use Rattle.world.specs.Quiet.{IsQuiet, IsPlan}
use Rattle.world.specs.Quieting.{Learns, LearnsBy, AreUp, QuietRunsLearn}
use Rattle.world.proofs.Quieting.{quiet_decides, plans_are_good}

-- ---- what a value knows

known_at : (n p : ℕ) (machine : Machine) (s t : Node) (i : ℕ) → IsMachineOf n p machine s → IsMachineOf n p machine t → s.known i ≡ t.known i
known_at n p (Open code armed) s t i a b = sym (a.stands.parts.known.values i) ∙ b.stands.parts.known.values i
known_at n p (Bare disk) s t i a b = ap (λ (x : Node). x.known i) a.down ∙ ap (λ (x : Node). x.known i) (sym b.down)

pub same_known : (code : Code) (w u : World) (p i : ℕ) → IsNode code.cluster p → IsWorldOf code w → IsWorldOf code u → (w.node p).known i ≡ (u.node p).known i
same_known code w u zero i node a b = absurd (let low = node.0 in omega (arith, low))
same_known code w u (suc k) i node a b =
    let high = node.1 in
    let machine = there_at code.machines.items k (omega (arith, high, code.all_there)) in
    known_at code.cluster (suc k) machine.0 (w.node (suc k)) (u.node (suc k)) i (a.machines k machine.0 machine.1) (b.machines k machine.0 machine.1)

-- ---- a run

module _ (old new : Code) (past events : List Event) (reached : Reached old past) (p : ℕ) (node : IsNode old.cluster p) (same : new.cluster ≡ old.cluster) (quiet : IsQuiet old.cluster reached.world p)
    (plan : IsPlan old.cluster reached.world p events) (up : AreUp old.cluster new)
  where
    learned : (after u : World) → IsWorldOf new after → IsWorldOf new u → Learns old.cluster reached.world p after → Learns old.cluster reached.world p u
    learned after u a b how = record {
      instance = how.instance;
      unknown = how.unknown;
      value = how.value;
      known = same_known new u after p how.instance (subst (λ (n : ℕ). IsNode n p) (sym same) node) b a ∙ how.known;
      own = how.own;
    }

    by_result : (result : Result (Unit {0}) WorldFault) → RunEnds old new events result → LearnsBy old.cluster reached.world p new result
    by_result (Ok x) ends =
        let led = ends.leads reached.world reached.stands in
        λ u b. learned led.after u led.stands b (quiet_decides old.cluster p past events reached.world led.after reached.runs node quiet plan led.how.0 (up led.after led.stands))
    by_result (Err (OutOfMemory k)) ends = tt
    by_result (Err (BadEvent k)) ends =
        let led = ends.leads reached.world reached.stands in
        let bad = led.how.0 in
        plans_are_good old.cluster p k past events reached.world led.after bad.event reached.runs node quiet plan bad.takes (up led.after led.stands) bad.next bad.bad

pub quiet_runs_learn : QuietRunsLearn
quiet_runs_learn old new past events reached p result node same quiet plan ends up = by_result old new past events reached p node same quiet plan up result ends
