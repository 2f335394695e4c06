-- What a server has to report, and what it may report. Moments are milliseconds since it began.
use Rattle.std.specs.Prelude.{◌≡◌, ℕ, ◌-◌, ◌/◌, ◌<◌, List, [], ◌∷◌, replicate, get_or, set, Bool, true, false}
use Rattle.std.specs.Prelude.{nat_eq, nat_le, if◌then◌else◌, Option, Some, None}
use Rattle.server_notes.specs.Listening.{first_listening, silence_at, FindsSilent, FindsEnded}
use Rattle.server_notes.specs.Hours.{no_hour, hour_after, figures_note}
use Rattle.server_notes.specs.Muteness.{first_muteness, mute_note, ended_note}
use Rattle.server_notes.specs.Publishing.{nothing_said, began_note, release_note}
use Rattle.server_notes.specs.Noting.{silence_of, told_at, ended_told, joined_at, learned_at, has_settled}
use Rattle.server_notes.specs.Noting.{is_long}
use Rattle.server_notes.specs.declared.catching.Catching.{Catching}
use Rattle.server_notes.specs.declared.catching.Catching.TheVariants.{Done, Alone}
use Rattle.server_notes.specs.declared.muteness.Muteness.TheVariants.{Over, Said}
use Rattle.server_notes.specs.declared.note.Note.{Note}
use Rattle.server_notes.specs.declared.note.Note.TheVariants as note
use Rattle.server_notes.specs.declared.notes.Notes.{Notes}
use Rattle.server_notes.specs.declared.notes.TheConstants.{EACH}

abbrev pub first_notes : ℕ → ℕ → ℕ → ℕ → Notes
first_notes n me votes floor = record {
  votes = Some votes;
  muteness = first_muteness floor;
  catching = Alone;
  listening = first_listening n me;
  malformed = 0;
  displaced = 0;
  full = false;
  publishing = nothing_said;
  hours = no_hour;
  said = replicate 14 None;
}

-- how far it has caught up, with `known` values known, values up to `reached` heard of, and a majority heard
-- or not
abbrev pub following : Catching → Bool → ℕ → ℕ → ℕ → Catching
following c majority now known reached =
    learned_at (if majority then joined_at c now known reached else c) now known reached

abbrev pub due_if : Bool → Note → Option Note
due_if is note = if is then Some note else None

-- a count is due if it is not 0
abbrev pub counted : ℕ → Note → Option Note
counted count note = if nat_eq count 0 then None else Some note

abbrev pub opened_of : Option ℕ → Option Note
opened_of None = None
opened_of (Some votes) = Some (note.Opened votes)

-- the first node whose silence is to be reported, and the first whose silence has ended, which is to be
-- reported; `millis` is the length of that silence
abbrev pub silent_of : Option (ℕ × ℕ) → Option Note
silent_of None = None
silent_of (Some (p, millis)) = Some (note.Silent p (millis / 1000))

abbrev pub heard_of : Option (ℕ × ℕ) → Option Note
heard_of None = None
heard_of (Some (p, millis)) = Some (note.Heard p (millis / 1000))

-- what is due, each kind at its index, if these nodes are silent or heard again
abbrev pub due_notes : Notes → ℕ → ℕ → ℕ → Option (ℕ × ℕ) → Option (ℕ × ℕ) → List (Option Note)
due_notes n now known newest silent ended =
    let m = n.listening.majority in
    opened_of n.votes
    ∷ mute_note n.muteness
    ∷ ended_note n.muteness known
    ∷ due_if (has_settled n.catching now known) (note.CaughtUp known)
    ∷ due_if (is_long m now) (note.NoMajority (silence_of m now / 1000))
    ∷ counted m.ended (note.Majority (m.ended / 1000))
    ∷ silent_of silent
    ∷ heard_of ended
    ∷ counted n.malformed (note.Malformed n.malformed)
    ∷ counted n.displaced (note.Displaced n.displaced)
    ∷ due_if n.full note.Full
    ∷ release_note n.publishing known newest
    ∷ began_note n.publishing known newest
    ∷ figures_note n.hours known newest
    ∷ []

-- a line of a kind may be reported if none was, or a second has passed since the last one
abbrev pub is_free : Option ℕ → ℕ → Bool
is_free None now = true
is_free (Some said) now = nat_le EACH (now - said)

abbrev pub may_say : List (Option ℕ) → ℕ → List (Option Note) → ℕ → Option Note
may_say said now due kind = if is_free (get_or said kind None) now then get_or due kind None else None

-- this was reported: it is no longer due
abbrev pub settled : Notes → ℕ → Note → Notes
settled n now (note.Opened votes) = record n { votes = None }
settled n now (note.Mute instance) = record n { muteness = Said instance }
settled n now note.NoLongerMute = record n { muteness = Over }
settled n now (note.CaughtUp instance) = record n { catching = Done }
settled n now (note.NoMajority seconds) = record n {
  catching = Alone;
  listening = record n.listening { majority = told_at n.listening.majority now };
}
settled n now (note.Majority seconds) =
    record n { listening = record n.listening { majority = ended_told n.listening.majority } }
settled n now (note.Silent p seconds) =
    record n {
      listening = record n.listening {
        silences = set n.listening.silences (p - 1)
            (told_at (silence_at n.listening.silences (p - 1)) now);
      };
    }
settled n now (note.Heard p seconds) =
    record n {
      listening = record n.listening {
        silences = set n.listening.silences (p - 1)
            (ended_told (silence_at n.listening.silences (p - 1)));
      };
    }
settled n now (note.Malformed count) = record n { malformed = 0 }
settled n now (note.Displaced count) = record n { displaced = 0 }
settled n now note.Full = record n { full = false }
settled n now (note.Published release instance) =
    record n { publishing = record { release = release; known = instance; began = false } }
settled n now (note.Began instance) = record n { publishing = record n.publishing { began = true } }
settled n now (note.Figures instance release bytes memory) = record n { hours = hour_after now }

-- this is the first line that is due and may be reported; then a second passes before another line of its
-- kind
pub record IsNext (old : Notes) (now : ℕ) (due : List (Option Note)) (note : Note)
    (new : Notes) : Type 0 where
  pub kind : ℕ
  pub below : kind < 14
  pub is : may_say old.said now due kind ≡ Some note
  pub first : (k : ℕ) → k < kind → may_say old.said now due k ≡ None
  pub after : new ≡ record (settled old now note) { said = set old.said kind (Some now) }

-- that line is reported, or there is none
abbrev pub SaysOf : Notes → ℕ → List (Option Note) → Option Note → Notes → Type 0
SaysOf old now due (Some note) new = IsNext old now due note new
SaysOf old now due None new = ((k : ℕ) → k < 14 → may_say old.said now due k ≡ None) × (new ≡ old)

-- The server reports this next, if `known` values are known and `newest` is the newest release
pub record Says (old : Notes) (now known newest : ℕ) (next : Option Note) (new : Notes) : Type 0 where
  pub silent : Option (ℕ × ℕ)
  pub ended : Option (ℕ × ℕ)
  pub finds_silent : FindsSilent old.listening now silent
  pub finds_ended : FindsEnded old.listening ended
  pub says : SaysOf old now (due_notes old now known newest silent ended) next new
