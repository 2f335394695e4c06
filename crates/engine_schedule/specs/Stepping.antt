-- What the simulator's calls make of a world and of the bytes that were read.
use Rattle.std.specs.Prelude.{ℕ, ◌≡◌, ◌⊎◌, List, [], ◌++◌, Option, Some, None, Result}
use Rattle.std.specs.Prelude.{Ok, Err, String, string_bytes, codes, ⊤}
use Rattle.std.specs.declared.alloc.Global.{Global}
use Rattle.std.specs.Io.KnownBytes.{IsAtEnd}
use Rattle.http_read.specs.Bytes.{End, HasFailed, IsSound}
use Rattle.world.specs.declared.event.Event.{Event}
use Rattle.engine_common.specs.declared.ends.InputFault.{InputFault}
use Rattle.engine_common.specs.declared.ends.InputFault.TheVariants as input
use Rattle.engine_schedule.specs.declared.simulator.SimFault.{SimFault}
use Rattle.engine_schedule.specs.declared.simulator.SimFault.TheVariants as sim
use Rattle.engine_schedule.specs.declared.simulator.Simulation.{Simulation}
use Rattle.site_ids.specs.Ids.{IsNode}
use Rattle.engine_schedule.specs.Schedule.{Line, spelled, Fits, spelled_nodes}
use Rattle.engine_schedule.specs.Simulation.{Moment, IsMoment, Does, AsksNone, IsBadEvent}
use Rattle.engine_schedule.specs.SimulationEnds.{HasBadNodes, HasBadLine, HasBadEvent, IsStart}
use Rattle.engine_common.specs.Faults.{fault_at}
use Rattle.engine_common.specs.Feeds.{Grown, HasTaken}

abbrev pub sim_fault : InputFault → SimFault
sim_fault input.Read = sim.Read
sim_fault input.OutOfMemory = sim.OutOfMemory

abbrev pub moment_of : Simulation → List Event → Moment
moment_of s events = record { world = s.world; events = events; settled = s.settled }

-- ---- lines

-- some events lead to the simulation after the line
abbrev pub DoesTo : ℕ → Moment → Line → List ℕ → Simulation → Type 0
DoesTo n old line printed new =
    (events : List Event) × IsMoment n (moment_of new events) × Does n old line printed (moment_of new events)

abbrev pub HappenEnds : Simulation → Simulation → Line → Result (String Global) SimFault → Type 0
HappenEnds old new line (Ok text) =
    (n : ℕ) (events : List Event) → IsMoment n (moment_of old events)
    → DoesTo n (moment_of old events) line (string_bytes text) new
HappenEnds old new line (Err sim.BadLine) = AsksNone old.world.cluster line
HappenEnds old new line (Err sim.BadEvent) =
    (n : ℕ) (events : List Event) → IsMoment n (moment_of old events)
    → IsBadEvent n (moment_of old events) line
HappenEnds old new line (Err sim.OutOfMemory) = ⊤
HappenEnds old new line (Err sim.Read) = ⊥

-- ---- bytes

-- a line was read and done
pub record HasStepped (reader : End) (before after : Simulation) (old new : List ℕ)
    (text : List ℕ) : Type 0 where
  pub line : Line
  pub held : List ℕ
  pub grown : Grown reader old held
  pub sound : IsSound reader
  pub fits : Fits line
  pub whole : held ≡ spelled line ++ new
  pub does : (n : ℕ) (events : List Event) → IsMoment n (moment_of before events)
      → DoesTo n (moment_of before events) line text after

abbrev pub NextEnds : End → Simulation → Simulation → List ℕ → List ℕ
    → Result (Option (String Global)) SimFault → Type 0
NextEnds reader before after old new (Ok (Some text)) =
    HasStepped reader before after old new (string_bytes text)
NextEnds reader before after old new (Ok None) =
    Grown reader old [] × IsSound reader × IsAtEnd reader.after × (after ≡ before)
NextEnds reader before after old new (Err sim.BadLine) =
    (held : List ℕ) × Grown reader old held × HasBadLine reader before.world.cluster held
NextEnds reader before after old new (Err sim.BadEvent) =
    (held : List ℕ) × Grown reader old held
    × ((n : ℕ) (events : List Event) → IsMoment n (moment_of before events)
    → HasBadEvent n (moment_of before events) held)
NextEnds reader before after old new (Err sim.OutOfMemory) = HasTaken reader
NextEnds reader before after old new (Err sim.Read) = HasTaken reader × HasFailed reader

-- the first line was read, and its world made
pub record HasBegun (reader : End) (s : Simulation) (old new : List ℕ) : Type 0 where
  pub n : ℕ
  pub held : List ℕ
  pub grown : Grown reader old held
  pub sound : IsSound reader
  pub node : IsNode 9 n
  pub whole : held ≡ spelled_nodes n ++ new
  pub fresh : IsStart n (moment_of s [])

abbrev pub BeginEnds : End → List ℕ → List ℕ → Result Simulation SimFault → Type 0
BeginEnds reader old new (Ok s) = HasBegun reader s old new
BeginEnds reader old new (Err sim.BadLine) = (held : List ℕ) × Grown reader old held × HasBadNodes reader held
BeginEnds reader old new (Err sim.BadEvent) = ⊥
BeginEnds reader old new (Err sim.OutOfMemory) = HasTaken reader
BeginEnds reader old new (Err sim.Read) = HasTaken reader × HasFailed reader

-- an earlier part of a run and a later one together: they begin as the earlier one, and end as the later one
abbrev pub behind : Option (List ℕ) → ℕ → End → End
behind before failures later = record {
  before = before;
  after = later.after;
  failures = failures;
  failures_after = later.failures_after;
}

-- the line that reports a fault at line k, or that an allocation for it failed
abbrev pub IsSaid : ℕ → SimFault → List ℕ → Type 0
IsSaid k sim.BadLine said = (said ≡ fault_at k (codes "bad line")) ⊎ (said ≡ codes "out of memory\n")
IsSaid k sim.BadEvent said = (said ≡ fault_at k (codes "bad event")) ⊎ (said ≡ codes "out of memory\n")
IsSaid k sim.OutOfMemory said = said ≡ codes "out of memory\n"
IsSaid k sim.Read said = said ≡ codes "read failed\n"
