-- A quiet stretch decides.
use Rattle.std.specs.Prelude.{◌≡◌, ◌++◌, ℕ, Some, None, Result, Ok, Err, List, take, slice_get, ⊤}
use Rattle.site_ids.specs.Ids.{IsNode}
use Rattle.durable.specs.Entries.{last_vote}
use Rattle.node.specs.Nodes.{Value, IsFirstUnknown}
use Rattle.node.specs.Calls.{oldest}
use Rattle.world.specs.declared.event.Event.{Event}
use Rattle.world.specs.declared.fault.WorldFault.{WorldFault}
use Rattle.world.specs.declared.fault.WorldFault.TheVariants.{OutOfMemory, BadEvent}
use Rattle.world.specs.declared.world.World.{World as Code}
use Rattle.world.specs.Worlds.{World, Runs, start}
use Rattle.world.specs.Standing.{IsWorldOf}
use Rattle.world.specs.Steps.{RunEnds, Reached}
use Rattle.world.specs.Taking.{TakesAll, IsBad}
use Rattle.world.specs.Quiet.{AllRun, IsQuiet, IsPlan, IsShort}

-- Node p knows the instance that was its first unknown one. If no node had voted there, the value is the
-- oldest one that was pending at p, or the no-op if none was pending
pub record Learns (n : ℕ) (w : World) (p : ℕ) (after : World) : Type 0 where
  pub instance : ℕ
  pub unknown : IsFirstUnknown (w.node p).known instance
  pub value : Value
  pub known : (after.node p).known instance ≡ Some value
  pub own : ((q : ℕ) → IsNode n q → last_vote instance (w.node q).entries ≡ None)
      → value ≡ oldest (w.node p).pending

-- a plan is short
abbrev pub PlansAreShort : Type 0
PlansAreShort = (n p : ℕ) (w : World) (events : List Event) → IsNode n p → IsPlan n w p events
    → IsShort n events

-- if the plan is taken and all nodes still run after it, so that no device failed, the node has learned
abbrev pub QuietDecides : Type 0
QuietDecides = (n p : ℕ) (past events : List Event) (w after : World) → Runs n start past w → IsNode n p
    → IsQuiet n w p → IsPlan n w p events
    → TakesAll n w events after → AllRun n after → Learns n w p after

-- as long as all nodes run, none of the plan's events is a bad one
abbrev pub PlansAreGood : Type 0
PlansAreGood = (n p k : ℕ) (past events : List Event) (w after : World) (event : Event) → Runs n start past w
    → IsNode n p → IsQuiet n w p → IsPlan n w p events
    → TakesAll n w (take k events) after → AllRun n after → slice_get events k ≡ Some event
    → ¬ IsBad n after event

-- ---- calls

-- some more events. In a quiet state they are its plan, and they are short
pub record PushesPlan (code : Code) (p : ℕ) (old new : List Event) : Type 0 where
  pub plan : List Event
  pub pushed : new ≡ old ++ plan
  pub short : IsShort code.cluster plan
  pub is : (w : World) → IsWorldOf code w → IsQuiet code.cluster w p → IsPlan code.cluster w p plan

-- ---- a run

-- all nodes run, in each world that the value stands for
abbrev pub AreUp : ℕ → Code → Type 0
AreUp n code = (u : World) → IsWorldOf code u → AllRun n u

-- If the result is Ok, the node has learned, in each world that the value stands for. Otherwise an allocation
-- failed: the run meets no bad event
abbrev pub LearnsBy : ℕ → World → ℕ → Code → Result (Unit {0}) WorldFault → Type 0
LearnsBy n w p new (Ok x) = (u : World) → IsWorldOf new u → Learns n w p u
LearnsBy n w p new (Err (OutOfMemory k)) = ⊤
LearnsBy n w p new (Err (BadEvent k)) = ⊥

-- a run over a plan, after which all nodes still run, so that no device failed in it
abbrev pub QuietRunsLearn : Type 0
QuietRunsLearn =
    (old new : Code) (past events : List Event) (reached : Reached old past) (p : ℕ)
    (result : Result (Unit {0}) WorldFault) → IsNode old.cluster p → new.cluster ≡ old.cluster
    → IsQuiet old.cluster reached.world p → IsPlan old.cluster reached.world p events
    → RunEnds old new events result → AreUp old.cluster new → LearnsBy old.cluster reached.world p new result
