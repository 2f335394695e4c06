-- What is printed of a record's file.
use Rattle.std.specs.Prelude.{◌≡◌, ◌⊎◌, ℕ, List, Option, None, Some, codes}
use Rattle.http_read.specs.Bytes.{End, IsSilent, IsWritten, IsBroken, IsGiven}
use Rattle.durable.specs.declared.fault.RecordFault.{RecordFault}
use Rattle.server_faults.specs.ServerFaults.{IsSaid, of_record}
use Rattle.server_faults.specs.Why.{GivesLine, GivesNone, GivesWhy, behind, damaged_line, up_to}
use Rattle.server_inspect.specs.Views.{text_of}
use Rattle.server_inspect.specs.declared.view.View.{View}

-- the lines were printed, and nothing else
abbrev HasPrinted : End → End → ℕ → Type 0
HasPrinted out err status = (view : View) × IsWritten out (text_of view) × GivesNone err × (status ≡ 0)

-- the writer failed, and a beginning of the lines was written. One line says so
abbrev HasBroken : End → End → ℕ → Type 0
HasBroken out err status = (view : View) × IsBroken out (text_of view) × IsGiven err (codes "write failed\n")
    × (status ≡ 1)

-- an allocation failed for the lines
abbrev HasNoMemory : End → End → ℕ → Type 0
HasNoMemory out err status = IsSilent out × IsGiven err (codes "out of memory\n") × (status ≡ 1)

abbrev pub HasShown : End → End → ℕ → Type 0
HasShown out err status = HasPrinted out err status ⊎ HasBroken out err status ⊎ HasNoMemory out err status

-- what is said after the line: the byte from which on the record is damaged, if that was found; or else
-- perhaps a line that says why
abbrev pub SaysMore : End → List ℕ → Option ℕ → Type 0
SaysMore e path (Some at) = GivesLine e (damaged_line path at)
SaysMore e path None = GivesWhy e (codes "record ") path

-- the line of an opening's fault, and more
abbrev pub Refuses : End → List ℕ → RecordFault → Option ℕ → ℕ → Type 0
Refuses err path fault place status = (said : List ℕ) × IsSaid (of_record fault) said
    × (held : Option (List ℕ)) × (failures : ℕ)
    × IsGiven (up_to err held failures) said × SaysMore (behind err held failures) path place × (status ≡ 1)

abbrev pub HasInspected : End → End → List ℕ → ℕ → Type 0
HasInspected out err path status = HasShown out err status
    ⊎ (IsSilent out × (fault : RecordFault) × (place : Option ℕ) × Refuses err path fault place status)
