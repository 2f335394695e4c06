-- What passes on a connection whose bytes come and go in many steps, between which other things happen to the
-- service.
use Rattle.std.specs.Prelude.{◌≡◌, ℕ, zero, suc, true, List, [], ◌∷◌, ◌++◌, length}
use Rattle.http_serve.specs.Connections.{IsExchange, IsLast, HasServed, IsServed}
use Rattle.http_serve.specs.Services.{Offered}

-- an exchange, with the states of the service of its own moment, and its response
pub record Exchange (S : Type 0) : Type 0 where
  pub now : S
  pub after : S
  pub text : List ℕ

-- Exchanges after k earlier ones, after each of which the connection stays: each request is at the front of
-- what the ones before it left.
abbrev pub AreExchanges : {S : Type 0} → Offered S → ℕ → List ℕ → List ℕ → List ℕ → List (Exchange S) → Type 0
AreExchanges service k input left text [] = (left ≡ input) × (text ≡ [])
AreExchanges service k input left text (x ∷ xs) =
    (between : List ℕ) × (later : List ℕ)
    × IsExchange service (suc k) x.now input between x.after true x.text
    × AreExchanges service (suc k) between left later xs × (text ≡ x.text ++ later)

-- what passed on a connection that is still open: all that came, what of it is left, all responses, and how
-- many they are
pub record IsOpenTalk {S : Type 0} (service : Offered S) (came left text : List ℕ) (count : ℕ) : Type 0 where
  pub exchanges : List (Exchange S)
  pub are : AreExchanges service zero came left text exchanges
  pub counted : count ≡ length exchanges

-- what passed on a connection whose last response was made: all that came, and all responses
pub record IsWholeTalk {S : Type 0} (service : Offered S) (came text : List ℕ) : Type 0 where
  pub left : List ℕ
  pub earlier : List ℕ
  pub count : ℕ
  pub talk : IsOpenTalk service came left earlier count
  pub now : S
  pub after : S
  pub response : List ℕ
  pub last : IsLast service (suc count) now left after response
  pub spelled : text ≡ earlier ++ response

-- each exchange begins in the state that the one before it left
abbrev pub IsAlone : {S : Type 0} → S → List (Exchange S) → S → Type 0
IsAlone now [] after = after ≡ now
IsAlone now (x ∷ xs) after = (x.now ≡ now) × IsAlone x.after xs after

-- ---- laws

-- with more bytes the same exchanges were made, and more is left
abbrev pub TalksStand : {S : Type 0} → Offered S → Type 0
TalksStand service =
    (came left text more : List ℕ) (count : ℕ) → IsOpenTalk service came left text count
    → IsOpenTalk service (came ++ more) (left ++ more) text count

-- a request that was whole and is answered is one exchange more
abbrev pub OneMore : {S : Type 0} → Offered S → Type 0
OneMore {S} service =
    (came left behind text response : List ℕ) (count : ℕ) (now after : S)
    → IsOpenTalk service came left text count
    → IsExchange service (suc count) now left behind after true response
    → IsOpenTalk service came behind (text ++ response) (suc count)

-- Exchanges with nothing between them are those of a connection that is served by itself.
pub record AloneIsServed {S : Type 0} (service : Offered S) : Type 0 where
  -- as far as it came
  pub so_far : (now after : S) (came left text : List ℕ) (xs : List (Exchange S))
      → AreExchanges service zero came left text xs → IsAlone now xs after
      → HasServed service (length xs) now came after left text
  -- up to its last response
  pub whole : (now : S) (came text : List ℕ) (w : IsWholeTalk service came text)
      → IsAlone now w.talk.exchanges w.now
      → IsServed service now came w.after text

-- a last response stays the last one, whatever more comes
abbrev pub FarewellStands : {S : Type 0} → Offered S → Type 0
FarewellStands {S} service =
    (n : ℕ) (now after : S) (input more text : List ℕ) → IsLast service n now input after text
    → IsLast service n now (input ++ more) after text
