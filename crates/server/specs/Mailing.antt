-- Datagrams that wait for a step, and letters that a step handed out.
use Rattle.std.specs.Prelude.{ℕ, ◌+◌, ◌-◌, ◌^◌, ◌<◌, min, vec_len, length, nat_eq, Bool, true, if◌then◌else◌}
use Rattle.std.specs.Prelude.{List, [], ◌∷◌}
use Rattle.node.specs.declared.to.To.{To}
use Rattle.node.specs.declared.to.To.TheVariants.{One, All}
use Rattle.site_drive.specs.Posting.{bytes_of, letters_of}
use Rattle.server.specs.declared.mail.Mail.{Mail}
use Rattle.server.specs.declared.mail.TheConstants.{DATAGRAMS, BYTES}

-- what came and waits, in order
abbrev pub waiting_of : Mail → List (List ℕ)
waiting_of mail = bytes_of mail.came.items

-- a datagram may be received before the next step
abbrev pub HasRoom : Mail → Type 0
HasRoom mail = (vec_len mail.came < DATAGRAMS) × (mail.bytes < BYTES)

-- how many bytes are counted after these datagrams came, too. The count stays at the last value of its type
abbrev pub counted : ℕ → List (List ℕ) → ℕ
counted bytes [] = bytes
counted bytes (d ∷ ds) = counted (min (bytes + length d) (2 ^ 64 - 1)) ds

-- what is to be sent: to whom, and the bytes
abbrev pub posted_of : Mail → List (To × List ℕ)
posted_of mail = letters_of mail.letters.items

-- whether a letter is for node p. One for all is
abbrev pub is_for : ℕ → To → Bool
is_for p (One q) = nat_eq q p
is_for p All = true

-- what these letters have for node p
abbrev pub own_of : ℕ → List (To × List ℕ) → List (List ℕ)
own_of p [] = []
own_of p (x ∷ xs) = if is_for p x.0 then x.1 ∷ own_of p xs else own_of p xs

-- whether datagrams came for a step, or these wait for the next one
abbrev pub has_come : Bool → List (List ℕ) → Bool
has_come came [] = came
has_come came (x ∷ xs) = true
