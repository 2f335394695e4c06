-- What reading on, until what is held is enough, makes of the bytes that are held.
use Rattle.std.specs.Prelude.{ℕ, ◌⊎◌, List, Result, Ok, Err}
use Rattle.std.specs.Io.KnownBytes.{IsAtEnd}
use Rattle.http_read.specs.Bytes.{End, IsSound}
use Rattle.engine_common.specs.declared.ends.InputFault.{InputFault}
use Rattle.engine_common.specs.Feeds.{Grown, ReadEnds}

-- what is held is enough, or the input has ended; or a reading failed
abbrev pub FillEnds : (List ℕ → Type 0) → End → List ℕ → List ℕ → Result Unit InputFault → Type 0
FillEnds IsEnough reader old new (Ok u) =
    Grown reader old new × IsSound reader × (IsEnough new ⊎ IsAtEnd reader.after)
FillEnds IsEnough reader old new (Err e) = ReadEnds reader old new (Err e)
