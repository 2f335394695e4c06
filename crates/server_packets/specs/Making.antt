-- A packet as it is made.
use Rattle.std.specs.Prelude.{◌≡◌, ◌⊎◌, ◌≤◌, ◌+◌, ℕ, List, [], ◌∷◌, length, drop}
use Rattle.server_packets.specs.Packets.{framed_all}
use Rattle.server_packets.specs.declared.TheConstants.{MARK, MAX_PACKET}
use Rattle.server_packets.specs.declared.packet.Packet.{Packet}

-- a datagram of `len` bytes may go with these: it is the first, or the packet then has no more bytes than it
-- may
abbrev pub HasRoom : List (List ℕ) → ℕ → Type 0
HasRoom ds len = (ds ≡ []) ⊎ (length (framed_all ds) + 5 + len ≤ MAX_PACKET)

-- The bytes of a packet with `count` datagrams, which are these. After the mark each datagram comes after its
-- length. A datagram by itself may be of any length
pub record IsMadeOf (bytes : List ℕ) (count : ℕ) (ds : List (List ℕ)) : Type 0 where
  pub counted : count ≡ length ds
  pub frames : List ℕ
  pub marked : bytes ≡ MARK ∷ frames
  pub sized : length frames ≡ length (framed_all ds)
  pub framed : length bytes ≤ MAX_PACKET → frames ≡ framed_all ds
  pub several : 2 ≤ count → length bytes ≤ MAX_PACKET
  pub alone : (d : List ℕ) → ds ≡ d ∷ [] → drop 4 frames ≡ d

-- the packet has these datagrams, in order
abbrev pub Packs : Packet → List (List ℕ) → Type 0
Packs packet ds = IsMadeOf packet.bytes.items packet.count ds
