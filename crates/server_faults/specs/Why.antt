-- The line after that of a fault, which says why the fault happened.
use Rattle.std.specs.Prelude.{◌≡◌, ◌⊎◌, ℕ, List, ◌++◌, codes, decimal, Option, Bool, true, false}
use Rattle.http_read.specs.Bytes.{End, IsGiven}
use Rattle.server_faults.specs.declared.server_fault.ServerFault.{ServerFault}
use Rattle.server_faults.specs.declared.server_fault.ServerFault.TheVariants as server_fault
use Rattle.server_faults.specs.declared.serve_options.ServeOptions.{ServeOptions}

-- what was done with a writer up to a moment, and what was done from then on. At that moment it held this,
-- and this many calls had failed
abbrev pub up_to : End → Option (List ℕ) → ℕ → End
up_to e held failures = record e { after = held; failures_after = failures }

abbrev pub behind : End → Option (List ℕ) → ℕ → End
behind e held failures = record e { before = held; failures = failures }

-- nothing was given
abbrev pub GivesNone : End → Type 0
GivesNone e = (e.after ≡ e.before) × (e.failures_after ≡ e.failures)

-- what it is about, which one, and the cause
abbrev pub why_line : List ℕ → List ℕ → List ℕ → List ℕ
why_line what which cause = what ++ (which ++ (codes ": " ++ (cause ++ codes "\n")))

-- the line of a record that is damaged from a byte on
abbrev pub damaged_line : List ℕ → ℕ → List ℕ
damaged_line path at =
    codes "record " ++ (path
    ++ (codes ": it has bytes that no node wrote, from byte " ++ (decimal at ++ codes " on\n")))

-- the line was given, or nothing if an allocation failed
abbrev pub GivesLine : End → List ℕ → Type 0
GivesLine e line = GivesNone e ⊎ IsGiven e line

-- such a line was given, or none
abbrev pub GivesWhy : End → List ℕ → List ℕ → Type 0
GivesWhy e what which = GivesNone e ⊎ ((cause : List ℕ) × IsGiven e (why_line what which cause))

-- If the fault is the record's, the line is about the record that was named. If it is a socket's, the line is
-- about an address; if it is the command line's, about a word or an option. After any other fault there is no
-- such line. Nothing is claimed about the cause
abbrev pub SaysWhy : End → ServeOptions → ServerFault → Type 0
SaysWhy e o server_fault.BadAddress = (word : List ℕ) × GivesWhy e (codes "bad address ") word
SaysWhy e o (server_fault.BadFloor _) = GivesWhy e (codes "bad floor ") (codes "--above")
SaysWhy e o (server_fault.Record _) = GivesWhy e (codes "record ") o.record.now
SaysWhy e o server_fault.Stopped = GivesWhy e (codes "record ") o.record.now
SaysWhy e o server_fault.Socket = (word : List ℕ) × GivesWhy e (codes "address ") word
SaysWhy e o _ = GivesNone e

-- why the fault happened is said if it was asked for, and otherwise nothing is said
abbrev pub SaysWhyIf : Bool → End → ServeOptions → ServerFault → Type 0
SaysWhyIf true e o why = SaysWhy e o why
SaysWhyIf false e o why = GivesNone e

-- a line, and what is said after it
abbrev pub GivesFault : End → ServeOptions → ServerFault → List ℕ → Type 0
GivesFault e o why said = (held : Option (List ℕ)) × (failures : ℕ) × IsGiven (up_to e held failures) said
    × SaysWhyIf o.verbose (behind e held failures) o why
