-- What a server reports of its node's muteness: once that it is mute, and later that it no longer is.
use Rattle.std.specs.Prelude.{ℕ, nat_eq, nat_le, if◌then◌else◌, Option, Some, None}
use Rattle.server_notes.specs.declared.muteness.Muteness.{Muteness}
use Rattle.server_notes.specs.declared.muteness.Muteness.TheVariants.{Over, Unsaid, Said}
use Rattle.server_notes.specs.declared.note.Note.{Note}
use Rattle.server_notes.specs.declared.note.Note.TheVariants as note

-- nothing is reported of a record that did not take the place of a lost one
abbrev pub first_muteness : ℕ → Muteness
first_muteness floor = if nat_eq floor 0 then Over else Unsaid floor

abbrev pub mute_note : Muteness → Option Note
mute_note (Unsaid floor) = Some (note.Mute floor)
mute_note m = None

-- the end is reported as soon as all values up to the floor are known
abbrev pub ended_note : Muteness → ℕ → Option Note
ended_note (Said floor) known = if nat_le floor known then Some note.NoLongerMute else None
ended_note m known = None
