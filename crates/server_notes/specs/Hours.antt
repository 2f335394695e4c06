-- What a server reports of its size, each hour. Moments are milliseconds since it began.
use Rattle.std.specs.Prelude.{ℕ, ◌+◌, ◌/◌, Bool, nat_le, Option, Some, None}
use Rattle.server_notes.specs.declared.hours.Figures.{Figures}
use Rattle.server_notes.specs.declared.hours.Hours.{Hours}
use Rattle.server_notes.specs.declared.hours.TheConstants.{HOUR}
use Rattle.server_notes.specs.declared.note.Note.{Note}
use Rattle.server_notes.specs.declared.note.Note.TheVariants as note

abbrev pub no_hour : Hours
no_hour = record { next = 0; taken = None }

-- once in the first hour, and once in each hour after it
abbrev pub is_hour : Hours → ℕ → Bool
is_hour h now = nat_le h.next (now / HOUR)

-- figures are due next in the hour after that moment
abbrev pub hour_after : ℕ → Hours
hour_after now = record { next = now / HOUR + 1; taken = None }

abbrev pub taken_note : Option Figures → ℕ → ℕ → Option Note
taken_note None known newest = None
taken_note (Some f) known newest = Some (note.Figures known newest f.bytes f.memory)

abbrev pub figures_note : Hours → ℕ → ℕ → Option Note
figures_note h known newest = taken_note h.taken known newest
