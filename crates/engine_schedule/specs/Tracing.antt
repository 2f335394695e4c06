-- What `trace` prints of a message.
use Rattle.std.specs.Prelude.{ℕ, List, [], ◌++◌, Option, Some, None, length, codes, decimal, nat_le}
use Rattle.std.specs.Prelude.{if◌then◌else◌}
use Rattle.site_ids.specs.Ids.{BallotOf}
use Rattle.site_ids.specs.declared.TheConstants.{TICKET_BYTES}
use Rattle.site_ids.specs.declared.value.Vote.{Vote}
use Rattle.command.specs.Reading.{ticket_of}
use Rattle.wire.specs.declared.message.Message.{Message}
use Rattle.wire.specs.declared.message.Message.TheVariants.{Prepare, Promise, Propose, Accepted, Nack, Ask}
use Rattle.wire.specs.declared.message.Message.TheVariants.{Chosen}

-- a ballot by its round and node, and what follows
abbrev pub ballot_words : BallotOf → List ℕ → List ℕ
ballot_words b rest = decimal b.round ++ (codes " " ++ (decimal b.node ++ rest))

-- a value by its ticket. A value that is too short for a ticket, such as the no-op, has none
abbrev pub value_words : List ℕ → List ℕ
value_words v =
    if nat_le TICKET_BYTES (length v) then
    (decimal (ticket_of v).editor ++ (codes " " ++ decimal (ticket_of v).number)) else codes "none"

-- the vote that a promise reports, if any
abbrev pub prior_words : Option Vote → List ℕ
prior_words None = codes " prior none\n"
prior_words (Some vote) =
    codes " prior " ++ ballot_words vote.ballot (codes " value " ++ (value_words vote.value ++ codes "\n"))

-- whose message it is and about which instance, after its kind
abbrev pub sender_words : ℕ → ℕ → List ℕ → List ℕ
sender_words p i rest = codes " from " ++ (decimal p ++ (codes " instance " ++ (decimal i ++ rest)))

abbrev pub message_line : Message → List ℕ
message_line (Prepare p i b k) =
    codes "prepare" ++ sender_words p i
    (codes " count " ++ (decimal k ++ (codes " ballot " ++ ballot_words b (codes "\n"))))
message_line (Promise p i b prior) =
    codes "promise" ++ sender_words p i (codes " ballot " ++ ballot_words b (prior_words prior))
message_line (Propose p i b v) =
    codes "propose" ++ sender_words p i
    (codes " ballot " ++ ballot_words b (codes " value " ++ (value_words v ++ codes "\n")))
message_line (Accepted p i b v) =
    codes "accepted" ++ sender_words p i
    (codes " ballot " ++ ballot_words b (codes " value " ++ (value_words v ++ codes "\n")))
message_line (Nack p i b c) =
    codes "nack" ++ sender_words p i
    (codes " asked " ++ ballot_words b (codes " promised " ++ ballot_words c (codes "\n")))
message_line (Ask p i) = codes "ask" ++ sender_words p i (codes "\n")
message_line (Chosen p i v) =
    codes "chosen" ++ sender_words p i (codes " value " ++ (value_words v ++ codes "\n"))

-- the line's first word, and what the line says after the sender and the instance
abbrev pub kind_word : Message → List ℕ
kind_word (Prepare p i b k) = codes "prepare"
kind_word (Promise p i b prior) = codes "promise"
kind_word (Propose p i b v) = codes "propose"
kind_word (Accepted p i b v) = codes "accepted"
kind_word (Nack p i b c) = codes "nack"
kind_word (Ask p i) = codes "ask"
kind_word (Chosen p i v) = codes "chosen"

abbrev pub own_words : Message → List ℕ
own_words (Prepare p i b k) =
    codes " count " ++ (decimal k ++ (codes " ballot " ++ ballot_words b (codes "\n")))
own_words (Promise p i b prior) = codes " ballot " ++ ballot_words b (prior_words prior)
own_words (Propose p i b v) =
    codes " ballot " ++ ballot_words b (codes " value " ++ (value_words v ++ codes "\n"))
own_words (Accepted p i b v) =
    codes " ballot " ++ ballot_words b (codes " value " ++ (value_words v ++ codes "\n"))
own_words (Nack p i b c) =
    codes " asked " ++ ballot_words b (codes " promised " ++ ballot_words c (codes "\n"))
own_words (Ask p i) = codes "\n"
own_words (Chosen p i v) = codes " value " ++ (value_words v ++ codes "\n")

-- the line of a message, and nothing if there is none
abbrev pub line_or_nothing : Option Message → List ℕ
line_or_nothing None = []
line_or_nothing (Some m) = message_line m
