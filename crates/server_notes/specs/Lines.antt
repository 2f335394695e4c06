-- The lines of a server on standard error.
use Rattle.std.specs.Prelude.{ℕ, List, ◌++◌, codes, decimal}
use Rattle.server_notes.specs.declared.note.Note.{Note}
use Rattle.server_notes.specs.declared.note.Note.TheVariants as note

-- without the newline
abbrev pub text_of : Note → List ℕ
text_of (note.Opened votes) = codes "opened: votes on record: " ++ decimal votes
text_of (note.Mute instance) = codes "mute up to instance " ++ decimal instance
text_of note.NoLongerMute = codes "no longer mute"
text_of (note.CaughtUp instance) = codes "caught up to instance " ++ decimal instance
text_of (note.NoMajority seconds) = codes "no majority heard for " ++ (decimal seconds ++ codes " s")
text_of (note.Majority seconds) = codes "a majority is heard again, after " ++ (decimal seconds ++ codes " s")
text_of (note.Silent node seconds) =
    codes "node " ++ (decimal node ++ (codes " not heard for " ++ (decimal seconds ++ codes " s")))
text_of (note.Heard node seconds) =
    codes "node " ++ (decimal node ++ (codes " is heard again, after " ++ (decimal seconds ++ codes " s")))
text_of (note.Malformed count) = codes "datagrams that are no message: " ++ decimal count
text_of (note.Displaced count) = codes "silent connections closed for other clients: " ++ decimal count
text_of note.Full = codes "all 64 connections wait for a response: further clients wait"
text_of (note.Published release instance) =
    codes "published release=" ++ (decimal release ++ (codes " instance=" ++ decimal instance))
text_of (note.Began instance) = codes "publishing instance=" ++ decimal instance
text_of (note.Figures instance release bytes memory) =
    codes "figures instance="
    ++ (decimal instance
    ++ (codes " release=" ++ (decimal release ++ (codes " record_bytes=" ++ (decimal bytes
    ++ (codes " memory_bytes=" ++ decimal memory))))))

abbrev pub line_of_note : Note → List ℕ
line_of_note n = text_of n ++ codes "\n"
