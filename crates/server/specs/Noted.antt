-- Lines of notes on standard error.
use Rattle.std.specs.Prelude.{◌≡◌, ℕ, zero, suc, List, Option, Bool, false}
use Rattle.http_read.specs.Bytes.{End, IsGiven}
use Rattle.server_faults.specs.Why.{GivesNone, behind, up_to}
use Rattle.server_notes.specs.Lines.{line_of_note}
use Rattle.server_notes.specs.declared.note.Note.{Note}

-- some lines were given one after another. Each is that of a note, whole, or a beginning of it if the writer
-- failed. If there is no line, all is as it was
abbrev pub GivesNotes : ℕ → End → Type 0
GivesNotes zero e = GivesNone e
GivesNotes (suc k) e = (held : Option (List ℕ)) × (failures : ℕ) × (note : Note)
    × GivesNotes k (up_to e held failures) × IsGiven (behind e held failures) (line_of_note note)

-- some lines were given if that was asked for, and none if not
abbrev pub HasNoted : Bool → End → Type 0
HasNoted asked e = (k : ℕ) × (asked ≡ false → k ≡ 0) × GivesNotes k e

-- such lines were given, and then this was done
abbrev pub EndsBy : Bool → End → (End → Type 0) → Type 0
EndsBy asked e Last = (held : Option (List ℕ)) × (failures : ℕ) × HasNoted asked (up_to e held failures)
    × Last (behind e held failures)
