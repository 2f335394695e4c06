-- What a node reports again: values that it knows or learned, and votes on its record.
use Rattle.std.specs.Prelude.{◌≡◌, ◌≢◌, ◌⊎◌, ℕ, zero, suc, ◌-◌, Option, Some, None, List, [], ◌∷◌, ◌++◌, map}
use Rattle.std.specs.Prelude.{length, nat_le, if◌then◌else◌}
use Rattle.site_ids.specs.declared.value.Vote.{Vote}
use Rattle.wire.specs.declared.message.Message.{Message}
use Rattle.wire.specs.declared.message.Message.TheVariants.{Accepted, Chosen}
use Rattle.durable.specs.Entries.{last_vote, learned_at}
use Rattle.node.specs.declared.TheConstants.{MAX_TOLD, MAX_TOLD_BYTES}
use Rattle.node.specs.declared.to.To.{To}
use Rattle.node.specs.Nodes.{Value, Node}
use Rattle.node.specs.Effects.{Effect}

abbrev pub or_else : Option Value → Option Value → Option Value
or_else (Some v) other = Some v
or_else None other = other

-- the value that the node knows, or else the one that it has on record as learned
abbrev pub remembered : Node → ℕ → Option Value
remembered s i = or_else (s.known i) (learned_at i s.entries)

-- the message about an instance: its value as chosen if one is given, or else the vote, if there is one
abbrev pub message_of : ℕ → ℕ → Option Value → Option Vote → Option Message
message_of p i (Some v) vote = Some (Chosen p i v)
message_of p i None (Some vote) = Some (Accepted p i vote.ballot vote.value)
message_of p i None None = None

-- what node p reports of an instance: the value that it remembers there, or else its last vote
abbrev pub telling : ℕ → Node → ℕ → Option Message
telling p s i = message_of p i (remembered s i) (last_vote i s.entries)

-- the node knows a value there, or has one on record as learned
abbrev pub IsRemembered : Node → ℕ → Type 0
IsRemembered s i = remembered s i ≢ None

-- the node has something to report of the instance
abbrev pub IsTellable : Node → ℕ → Type 0
IsTellable s i = IsRemembered s i ⊎ (last_vote i s.entries ≢ None)

abbrev pub with_first : Option Message → List Message → List Message
with_first None ms = ms
with_first (Some m) ms = m ∷ ms

-- what the node reports of k instances from i on, in their order
abbrev pub tellings : ℕ → Node → ℕ → ℕ → List Message
tellings p s zero i = []
tellings p s (suc k) i = with_first (telling p s i) (tellings p s k (suc i))

-- the bytes of the value that a message reports
abbrev pub value_in : Message → Value
value_in (Accepted q i b v) = v
value_in (Chosen q i v) = v
value_in m = []

-- the first of the messages, as long as their values have at most `room` bytes in all
abbrev pub fitting : ℕ → List Message → List Message
fitting room [] = []
fitting room (m ∷ ms) =
    if nat_le (length (value_in m)) room then m ∷ fitting (room - length (value_in m)) ms else []

-- what the node reports of 64 instances from i on, with 65,536 bytes of values at most
abbrev pub told_from : ℕ → Node → ℕ → List Message
told_from p s i = fitting MAX_TOLD_BYTES (tellings p s MAX_TOLD i)

abbrev pub addressed : To → Message → To × Message
addressed to m = (to, m)

-- the node reports that, and nothing else happens
abbrev pub tells : ℕ → Node → To → ℕ → Effect
tells p s to i = record { entry = None; after = s; out = map (addressed to) (told_from p s i) }

-- ---- for the code: agreement does not need it

abbrev pub value_size : Option Value → Option Vote → ℕ
value_size (Some v) vote = length v
value_size None (Some vote) = length vote.value
value_size None None = 0

-- the bytes of the value that a telling has of an instance, if it has one
abbrev pub told_size : Node → ℕ → ℕ
told_size s i = value_size (remembered s i) (last_vote i s.entries)

-- how many of the k instances from i on come before the first whose value does not fit, if `room` bytes are
-- left
abbrev pub covered : ℕ → Node → ℕ → ℕ → ℕ
covered room s zero i = 0
covered room s (suc k) i =
    if nat_le (told_size s i) room then suc (covered (room - told_size s i) s k (suc i)) else 0

-- how many instances a telling from i on covers
abbrev pub covered_from : Node → ℕ → ℕ
covered_from s i = covered MAX_TOLD_BYTES s MAX_TOLD i

-- What is reported of instance i is put after the messages that are there. `Some left`: it fit, and this much
-- room is left for the instances after i. `None`: there was not enough room, and nothing more is reported
abbrev pub TellsOn : ℕ → Node → To → ℕ → ℕ → List (To × Message) → List (To × Message) → Option ℕ → Type 0
TellsOn p s to i room before after None = (later : List Message)
    → before ++ map (addressed to) (fitting room (with_first (telling p s i) later)) ≡ after
TellsOn p s to i room before after (Some left) = (later : List Message)
    → before ++ map (addressed to) (fitting room (with_first (telling p s i) later))
    ≡ after ++ map (addressed to) (fitting left later)
