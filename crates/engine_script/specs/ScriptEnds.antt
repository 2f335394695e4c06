-- What a script's lines print, and how its run ends.
use Rattle.std.specs.Prelude.{ℕ, ◌≡◌, ◌≢◌, ◌⊎◌, ◌+◌, List, [], ◌∷◌, ◌++◌, length, codes, ⊤}
use Rattle.std.specs.List.{flat_map, AllByRecursion}
use Rattle.std.specs.Io.KnownBytes.{Consumes, IsAtEnd}
use Rattle.http_read.specs.Bytes.{End, HasFailed, IsRead, IsSilent, IsWritten, IsBroken, IsGiven}
use Rattle.engine_script.specs.Client.{IsShown}
use Rattle.engine_script.specs.Script.{Line, post_line, get_line, turns_line, drive_line, spelled, Fits}
use Rattle.engine_common.specs.Faults.{fault_at}
use Rattle.engine_common.specs.Founds.{HasNoLine, GetsNoLine}

-- a line of a request
abbrev pub IsRequest : Line → Type 0
IsRequest (post_line p ticket text) = ⊤
IsRequest (get_line p target) = ⊤
IsRequest (turns_line k) = ⊥
IsRequest (drive_line p k) = ⊥

-- a request's line prints what was received, whatever that was; another line prints nothing
abbrev pub Prints : Line → List ℕ → Type 0
Prints (post_line p ticket text) printed = (received : List ℕ) × IsShown received printed
Prints (get_line p target) printed = (received : List ℕ) × IsShown received printed
Prints (turns_line k) printed = printed ≡ []
Prints (drive_line p k) printed = printed ≡ []

-- the lines one after another, and all that they print
abbrev pub PrintsAll : List Line → List ℕ → Type 0
PrintsAll [] printed = printed ≡ []
PrintsAll (line ∷ lines) printed =
    (first : List ℕ) × (later : List ℕ) × Prints line first × (printed ≡ first ++ later)
    × PrintsAll lines later

-- what was read is these lines and a rest, and the lines printed this
pub record HasDone (taken : List ℕ) (lines : List Line) (printed rest : List ℕ) : Type 0 where
  pub fits : AllByRecursion Fits lines
  pub whole : taken ≡ flat_map spelled lines ++ rest
  pub prints : PrintsAll lines printed

-- the whole input is lines, all of them were done, and all that they print was written
pub record Finished (reader out err : End) (status : ℕ) : Type 0 where
  pub input : List ℕ
  pub read : IsRead reader input
  pub lines : List Line
  pub printed : List ℕ
  pub done : HasDone input lines printed []
  pub written : IsWritten out printed
  pub silent : IsSilent err
  pub status_is : status ≡ 0

-- ---- faults

-- no line is there, and none ever will be
abbrev pub HasBadLine : End → List ℕ → Type 0
HasBadLine reader rest =
    (IsAtEnd reader.after × HasNoLine Fits spelled rest × (rest ≢ [])) ⊎ GetsNoLine Fits spelled rest

-- a request's line is there
abbrev pub HasRequest : List ℕ → Type 0
HasRequest rest = (line : Line) × (more : List ℕ) × Fits line × (rest ≡ spelled line ++ more) × IsRequest line

-- what is reported at line k, the first that was not done: the line is bad, or the reader failed, or a
-- request's socket failed, or an allocation failed
abbrev pub IsFault : End → ℕ → List ℕ → List ℕ → Type 0
IsFault reader k rest said =
    ((said ≡ fault_at k (codes "bad line")) × HasBadLine reader rest)
    ⊎ ((said ≡ codes "read failed\n") × HasFailed reader)
    ⊎ ((said ≡ codes "socket failed\n") × HasRequest rest)
    ⊎ (said ≡ codes "out of memory\n")

-- the servers were not opened: nothing was read or printed
pub record NotOpened (reader out err : End) (status : ℕ) : Type 0 where
  pub unread : IsSilent reader
  pub silent : IsSilent out
  pub said : List ℕ
  pub why : (said ≡ codes "socket failed\n") ⊎ (said ≡ codes "out of memory\n")
  pub given : IsGiven err said
  pub status_is : status ≡ 1

-- a line was not done; what the earlier lines print was written
pub record Stopped (reader out err : End) (status : ℕ) : Type 0 where
  pub taken : List ℕ
  pub read : Consumes reader.before reader.after taken
  pub lines : List Line
  pub printed : List ℕ
  pub rest : List ℕ
  pub done : HasDone taken lines printed rest
  pub said : List ℕ
  pub why : IsFault reader (length lines + 1) rest said
  pub written : IsWritten out printed
  pub given : IsGiven err said
  pub status_is : status ≡ 1

-- the writer failed; a beginning of what the lines print was written
pub record Broken (reader out err : End) (status : ℕ) : Type 0 where
  pub taken : List ℕ
  pub read : Consumes reader.before reader.after taken
  pub lines : List Line
  pub printed : List ℕ
  pub rest : List ℕ
  pub done : HasDone taken lines printed rest
  pub broken : IsBroken out printed
  pub given : IsGiven err (codes "write failed\n")
  pub status_is : status ≡ 1

-- over servers that were opened
abbrev pub HasRun : End → End → End → ℕ → Type 0
HasRun reader out err status =
    Finished reader out err status ⊎ Stopped reader out err status ⊎ Broken reader out err status

abbrev pub HasDriven : End → End → End → ℕ → Type 0
HasDriven reader out err status = NotOpened reader out err status ⊎ HasRun reader out err status
