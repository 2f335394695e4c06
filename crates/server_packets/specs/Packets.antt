-- Packets: what goes between servers in one piece is one datagram, or holds several of them.
use Rattle.std.specs.Prelude.{◌≡◌, ◌⊎◌, ◌≤◌, ℕ, List, [], ◌∷◌, ◌++◌, length}
use Rattle.byteorder.specs.Endian.{big_bytes}
use Rattle.server_packets.specs.declared.TheConstants.{MARK, MAX_PACKET}

-- a datagram among others: its length in four bytes, the highest first, and then the datagram
abbrev pub framed : List ℕ → List ℕ
framed d = big_bytes 4 (length d) ++ d

abbrev pub framed_all : List (List ℕ) → List ℕ
framed_all [] = []
framed_all (d ∷ ds) = framed d ++ framed_all ds

-- several datagrams in one: a mark with which no message begins, and then each of them, in order; at most
-- 1,400 bytes
pub record IsPacketOf (ds : List (List ℕ)) (bytes : List ℕ) : Type 0 where
  pub is : bytes ≡ MARK ∷ framed_all ds
  pub short : length bytes ≤ MAX_PACKET

abbrev pub IsPacket : List ℕ → Type 0
IsPacket bytes = (ds : List (List ℕ)) × IsPacketOf ds bytes

-- What came holds these datagrams: those of the packet that it is, or only itself if it is not a packet
abbrev pub Holds : List ℕ → List (List ℕ) → Type 0
Holds bytes ds = IsPacketOf ds bytes ⊎ ((¬ IsPacket bytes) × (ds ≡ bytes ∷ []))

-- These datagrams are sent in this way: one by itself as it is, several as a packet
abbrev pub IsSent : List (List ℕ) → List ℕ → Type 0
IsSent (d ∷ []) bytes = bytes ≡ d
IsSent ds bytes = IsPacketOf ds bytes
