-- What the steps of a script's run make of the bytes that were read.
use Rattle.std.specs.Prelude.{ℕ, ◌≡◌, ◌⊎◌, List, [], ◌++◌, Option, Some, None, Result, Ok}
use Rattle.std.specs.Prelude.{Err, Vec, codes, ⊤}
use Rattle.std.specs.declared.alloc.Global.{Global}
use Rattle.std.specs.Io.KnownBytes.{IsAtEnd}
use Rattle.http_read.specs.Bytes.{End, HasFailed, IsSound}
use Rattle.engine_script.specs.declared.cluster.ScriptFault.{ScriptFault}
use Rattle.engine_script.specs.declared.cluster.ScriptFault.TheVariants as script
use Rattle.engine_common.specs.declared.ends.InputFault.{InputFault}
use Rattle.engine_common.specs.declared.ends.InputFault.TheVariants as input
use Rattle.engine_script.specs.declared.loopback_fault.LoopbackFault.{LoopbackFault}
use Rattle.engine_script.specs.declared.loopback_fault.LoopbackFault.TheVariants as loopback
use Rattle.engine_script.specs.Script.{Line, spelled, Fits}
use Rattle.engine_script.specs.ScriptEnds.{IsRequest, Prints, HasBadLine, HasRequest}
use Rattle.engine_common.specs.Faults.{fault_at}
use Rattle.engine_common.specs.Feeds.{Grown, HasTaken}

abbrev pub of_servers : LoopbackFault → ScriptFault
of_servers loopback.Socket = script.Socket
of_servers loopback.OutOfMemory = script.OutOfMemory

abbrev pub of_input : InputFault → ScriptFault
of_input input.Read = script.Read
of_input input.OutOfMemory = script.OutOfMemory

-- a line that was done prints this. A socket fails only at a request's line
abbrev pub HappenEnds : Line → Result (Vec ℕ Global) LoopbackFault → Type 0
HappenEnds line (Ok text) = Prints line text.items
HappenEnds line (Err loopback.Socket) = IsRequest line
HappenEnds line (Err loopback.OutOfMemory) = ⊤

-- a line was read and done
pub record HasStepped (reader : End) (old new : List ℕ) (text : List ℕ) : Type 0 where
  pub line : Line
  pub held : List ℕ
  pub grown : Grown reader old held
  pub sound : IsSound reader
  pub fits : Fits line
  pub whole : held ≡ spelled line ++ new
  pub prints : Prints line text

abbrev pub NextEnds : End → List ℕ → List ℕ → Result (Option (Vec ℕ Global)) ScriptFault → Type 0
NextEnds reader old new (Ok (Some text)) = HasStepped reader old new text.items
NextEnds reader old new (Ok None) = Grown reader old [] × IsSound reader × IsAtEnd reader.after
NextEnds reader old new (Err script.BadLine) =
    (held : List ℕ) × Grown reader old held × HasBadLine reader held
NextEnds reader old new (Err script.Socket) = (held : List ℕ) × Grown reader old held × HasRequest held
NextEnds reader old new (Err script.OutOfMemory) = HasTaken reader
NextEnds reader old new (Err script.Read) = HasTaken reader × HasFailed reader

-- the line that reports a fault at line k, or that an allocation for it failed
abbrev pub IsSaid : ℕ → ScriptFault → List ℕ → Type 0
IsSaid k script.BadLine said = (said ≡ fault_at k (codes "bad line")) ⊎ (said ≡ codes "out of memory\n")
IsSaid k script.Socket said = said ≡ codes "socket failed\n"
IsSaid k script.OutOfMemory said = said ≡ codes "out of memory\n"
IsSaid k script.Read said = said ≡ codes "read failed\n"
