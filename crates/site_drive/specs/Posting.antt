-- Datagrams that came, and letters to send.
use Rattle.std.specs.Prelude.{ℕ, List, map, Vec}
use Rattle.std.specs.declared.alloc.Global.{Global}
use Rattle.wire.specs.declared.message.Message.{Message}
use Rattle.wire.specs.Spelling.{spelled}
use Rattle.node.specs.declared.to.To.{To}
use Rattle.site_drive.specs.declared.letter.Letter.{Letter}

-- the bytes of these datagrams
abbrev pub bytes_of : List (Vec ℕ Global) → List (List ℕ)
bytes_of came = map (λ d. d.items) came

-- letters: to whom, and the bytes
abbrev pub letters_of : List Letter → List (To × List ℕ)
letters_of letters = map (λ l. (l.to, l.bytes.items)) letters

-- messages as letters have them
abbrev pub spelled_of : List (To × Message) → List (To × List ℕ)
spelled_of out = map (λ x. (x.0, spelled x.1)) out
