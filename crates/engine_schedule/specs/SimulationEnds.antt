-- How a run of the simulator ends.
use Rattle.std.specs.Prelude.{ℕ, ◌≡◌, ◌≢◌, ◌⊎◌, ◌+◌, List, [], ◌++◌, length, codes}
use Rattle.std.specs.List.{flat_map, AllByRecursion}
use Rattle.std.specs.Io.KnownBytes.{Consumes, IsAtEnd}
use Rattle.http_read.specs.Bytes.{End, HasFailed, IsRead, IsSilent, IsWritten, IsBroken, IsGiven}
use Rattle.site_ids.specs.Ids.{IsNode}
use Rattle.engine_schedule.specs.Schedule.{Line, spelled, Fits, spelled_nodes}
use Rattle.engine_schedule.specs.Simulation.{Moment, IsMoment, DoesAll, AsksNone, IsBadEvent}
use Rattle.engine_common.specs.Faults.{fault_at}
use Rattle.engine_common.specs.Founds.{HasNoLine, GetsNoLine}

-- the nodes, each opened over an empty record
pub record IsStart (n : ℕ) (m : Moment) : Type 0 where
  pub moment : IsMoment n m
  pub events : m.events ≡ []
  pub settled : m.settled ≡ 0

-- what was read is the first line, these lines and a rest, and the lines were done
pub record HasDone (taken : List ℕ) (n : ℕ) (lines : List Line) (printed : List ℕ) (last : Moment)
    (rest : List ℕ) : Type 0 where
  pub node : IsNode 9 n
  pub fits : AllByRecursion Fits lines
  pub whole : taken ≡ spelled_nodes n ++ (flat_map spelled lines ++ rest)
  pub start : Moment
  pub fresh : IsStart n start
  pub does : DoesAll n start lines printed last

-- the whole file is lines, all of them were done, and all that they print was written
pub record Finished (reader out err : End) (status : ℕ) : Type 0 where
  pub input : List ℕ
  pub read : IsRead reader input
  pub n : ℕ
  pub lines : List Line
  pub printed : List ℕ
  pub last : Moment
  pub done : HasDone input n lines printed last []
  pub written : IsWritten out printed
  pub silent : IsSilent err
  pub status_is : status ≡ 0

-- ---- faults

-- no first line is in what was read, and none ever will be
abbrev pub HasBadNodes : End → List ℕ → Type 0
HasBadNodes reader taken =
    (IsAtEnd reader.after × HasNoLine (IsNode 9) spelled_nodes taken)
    ⊎ GetsNoLine (IsNode 9) spelled_nodes taken

-- no line is there, and none ever will be; or the line names a node that does not exist
abbrev pub HasBadLine : End → ℕ → List ℕ → Type 0
HasBadLine reader n rest =
    (IsAtEnd reader.after × HasNoLine Fits spelled rest × (rest ≢ [])) ⊎ GetsNoLine Fits spelled rest
    ⊎ ((line : Line) × (more : List ℕ) × Fits line × (rest ≡ spelled line ++ more) × AsksNone n line)

-- the event of the line there can't be taken
abbrev pub HasBadEvent : ℕ → Moment → List ℕ → Type 0
HasBadEvent n m rest =
    (line : Line) × (more : List ℕ) × Fits line × (rest ≡ spelled line ++ more) × IsBadEvent n m line

-- what is reported at line k, the first that was not done: the line or its event is bad, or the reader
-- failed, or an allocation failed
abbrev pub IsFault : End → ℕ → Moment → ℕ → List ℕ → List ℕ → Type 0
IsFault reader n m k rest said =
    ((said ≡ fault_at k (codes "bad line")) × HasBadLine reader n rest)
    ⊎ ((said ≡ fault_at k (codes "bad event")) × HasBadEvent n m rest)
    ⊎ ((said ≡ codes "read failed\n") × HasFailed reader)
    ⊎ (said ≡ codes "out of memory\n")

-- the same at the first line
abbrev pub IsFirstFault : End → List ℕ → List ℕ → Type 0
IsFirstFault reader taken said =
    ((said ≡ fault_at 1 (codes "bad line")) × HasBadNodes reader taken)
    ⊎ ((said ≡ codes "read failed\n") × HasFailed reader)
    ⊎ (said ≡ codes "out of memory\n")

-- the first line was not done
pub record NotBegun (reader out err : End) (status : ℕ) : Type 0 where
  pub taken : List ℕ
  pub read : Consumes reader.before reader.after taken
  pub said : List ℕ
  pub why : IsFirstFault reader taken said
  pub silent : IsSilent out
  pub given : IsGiven err said
  pub status_is : status ≡ 1

-- a line was not done; what the earlier lines print was written
pub record Stopped (reader out err : End) (status : ℕ) : Type 0 where
  pub taken : List ℕ
  pub read : Consumes reader.before reader.after taken
  pub n : ℕ
  pub lines : List Line
  pub printed : List ℕ
  pub last : Moment
  pub rest : List ℕ
  pub done : HasDone taken n lines printed last rest
  pub said : List ℕ
  pub why : IsFault reader n last (length lines + 2) rest said
  pub written : IsWritten out printed
  pub given : IsGiven err said
  pub status_is : status ≡ 1

-- the writer failed; a beginning of what the lines print was written
pub record Broken (reader out err : End) (status : ℕ) : Type 0 where
  pub taken : List ℕ
  pub read : Consumes reader.before reader.after taken
  pub n : ℕ
  pub lines : List Line
  pub printed : List ℕ
  pub last : Moment
  pub rest : List ℕ
  pub done : HasDone taken n lines printed last rest
  pub broken : IsBroken out printed
  pub given : IsGiven err (codes "write failed\n")
  pub status_is : status ≡ 1

abbrev pub HasSimulated : End → End → End → ℕ → Type 0
HasSimulated reader out err status =
    Finished reader out err status ⊎ NotBegun reader out err status ⊎ Stopped reader out err status
    ⊎ Broken reader out err status
