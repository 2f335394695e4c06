-- What a server reports of releases, and of commands after them.
use Rattle.std.specs.Prelude.{ℕ, ◌+◌, false, nat_lt, nat_le, ◌&&◌, not, if◌then◌else◌, Option, Some, None}
use Rattle.server_notes.specs.declared.note.Note.{Note}
use Rattle.server_notes.specs.declared.note.Note.TheVariants as note
use Rattle.server_notes.specs.declared.publishing.Publishing.{Publishing}

abbrev pub nothing_said : Publishing
nothing_said = record { release = 0; known = 0; began = false }

-- a release is published that is newer than the last one reported
abbrev pub release_note : Publishing → ℕ → ℕ → Option Note
release_note p known newest = if nat_lt p.release newest then Some (note.Published newest known) else None

-- no newer release is published, more is known than when the last one was reported, and that was not reported
abbrev pub began_note : Publishing → ℕ → ℕ → Option Note
began_note p known newest =
    if nat_le newest p.release && nat_lt p.known known
    && not p.began then Some (note.Began (p.known + 1)) else None
