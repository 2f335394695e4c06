-- Which other nodes read packets. Times are milliseconds since the server began.
use Rattle.std.specs.Prelude.{◌≡◌, ◌⊎◌, ℕ, ◌-◌, ◌<◌, List, ◌∷◌, ◌++◌, length, take, replicate, get_or, set}
use Rattle.std.specs.Prelude.{Bool, false, not, Some, None, []}
use Rattle.site_drive.specs.Posting.{letters_of}
use Rattle.site_drive.specs.declared.letter.Letter.{Letter}
use Rattle.wire.specs.Decoding.{Spells}
use Rattle.wire.specs.Messages.{sender_of}
use Rattle.wire.specs.declared.message.Message.{Message}
use Rattle.server_packets.specs.Making.{HasRoom}
use Rattle.server_packets.specs.Packets.{framed, IsPacket}
use Rattle.server_packets.specs.declared.TheConstants.{MARK}
use Rattle.server_times.specs.Timing.{passed}
use Rattle.server_times.specs.declared.times.Times.{Times}
use Rattle.server.specs.Mailing.{own_of}
use Rattle.server.specs.declared.peers.Peers.{Peers}

abbrev pub no_peers : Times → Peers
no_peers times = record { times = times; heard = replicate 9 None; shown = replicate 9 None }

-- a packet came from node p
abbrev pub heard_of : ℕ → ℕ → Peers → Peers
heard_of p now peers = record peers { heard = set peers.heard (p - 1) (Some now) }

-- node p reads packets: one came from it not long ago
abbrev pub reads : Peers → ℕ → ℕ → Bool
reads peers p now = not (passed (get_or peers.heard (p - 1) None) now peers.times.packets)

-- what follows a packet's mark shows, in a group of n, that the sender of its first message reads packets
abbrev pub HearsFrames : ℕ → List ℕ → ℕ → Peers → Peers → Type 0
HearsFrames n frames now old new = (d rest : List ℕ) × (m : Message) × (frames ≡ framed d ++ rest)
    × Spells n d m × (new ≡ heard_of (sender_of m) now old)

-- a piece that came shows this if it is a packet. Nothing else shows that a node reads packets
abbrev pub HearsPiece : ℕ → List ℕ → ℕ → Peers → Peers → Type 0
HearsPiece n piece now old new =
    (IsPacket piece × (frames : List ℕ) × (piece ≡ MARK ∷ frames) × HearsFrames n frames now old new)
    ⊎ (new ≡ old)

-- a datagram of `len` bytes may go with these: it is the first, or it need not go alone and there is room
abbrev pub MayJoin : List (List ℕ) → ℕ → Bool → Type 0
MayJoin ds len alone = (ds ≡ []) ⊎ ((alone ≡ false) × HasRoom ds len)

-- after what the first n letters have for node p, the next letter, if there is one, may not join
abbrev pub IsFull : ℕ → List Letter → ℕ → Bool → Type 0
IsFull p letters n alone = (x : Letter) → n < length letters → x ≡ get_or letters n x
    → ¬ (MayJoin (own_of p (letters_of (take n letters))) (length x.bytes.items) alone)
