-- What holds of packets.
use Rattle.std.specs.Prelude.{◌≡◌, ◌≢◌, ℕ, List, [], ◌∷◌, ⊤}
use Rattle.server_packets.specs.Packets.{Holds, IsSent}
use Rattle.server_packets.specs.declared.TheConstants.{MARK}

-- the bytes hold one list of datagrams
abbrev pub OneList : Type 0
OneList = (bytes : List ℕ) (ds es : List (List ℕ)) → Holds bytes ds → Holds bytes es → ds ≡ es

-- the datagram doesn't begin with the mark
abbrev pub IsUnmarked : List ℕ → Type 0
IsUnmarked d = (rest : List ℕ) → d ≢ MARK ∷ rest

-- no datagram that goes by itself begins with the mark
abbrev pub MayGo : List (List ℕ) → Type 0
MayGo (d ∷ []) = IsUnmarked d
MayGo ds = ⊤

-- what is sent for some datagrams holds these
abbrev pub SentIsHeld : Type 0
SentIsHeld = (bytes : List ℕ) (ds : List (List ℕ)) → MayGo ds → IsSent ds bytes → Holds bytes ds
