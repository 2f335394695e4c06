-- What one reading more makes of the bytes that are held.
use Rattle.std.specs.Prelude.{ℕ, ◌≡◌, ◌<◌, List, ◌++◌, length, Bool, true, false, Result, Ok, Err}
use Rattle.std.specs.Io.KnownBytes.{Consumes, IsAtEnd}
use Rattle.http_read.specs.Bytes.{End, HasFailed, IsSound}
use Rattle.engine_common.specs.declared.ends.InputFault.{InputFault}
use Rattle.engine_common.specs.declared.ends.InputFault.TheVariants as input

-- more bytes were read, and are held after the others
pub record Grown (reader : End) (old new : List ℕ) : Type 0 where
  pub more : List ℕ
  pub taken : Consumes reader.before reader.after more
  pub longer : new ≡ old ++ more

-- some bytes were read
abbrev pub HasTaken : End → Type 0
HasTaken reader = (more : List ℕ) × Consumes reader.before reader.after more

abbrev pub ReadEnds : End → List ℕ → List ℕ → Result Bool InputFault → Type 0
ReadEnds reader old new (Ok true) = Grown reader old new × IsSound reader × (length old < length new)
ReadEnds reader old new (Ok false) =
    Grown reader old new × IsSound reader × IsAtEnd reader.after × (new ≡ old)
ReadEnds reader old new (Err input.Read) = HasTaken reader × HasFailed reader
ReadEnds reader old new (Err input.OutOfMemory) = HasTaken reader
