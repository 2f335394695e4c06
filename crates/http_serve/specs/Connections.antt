-- What is written on a connection: the responses to its requests, one after another.
use Rattle.std.specs.Prelude.{◌≡◌, ℕ, zero, suc, ◌⊎◌, Bool, true, false, ◌&&◌, nat_lt, List, [], ◌++◌, codes}
use Rattle.std.specs.Prelude.{bytes_eq, Option, Some, Result, Ok, Err}
use Rattle.http_read.specs.Input.{StopsAt}
use Rattle.http_read.specs.Requests.{Asked, asks, refuses, stops, ends, Answers, IsCutShort}
use Rattle.http_serve.specs.declared.fault.ServeFault.{ServeFault}
use Rattle.http_serve.specs.declared.fault.ServeFault.TheVariants.{Read, Write, OutOfMemory, EndedEarly}
use Rattle.http_serve.specs.Paths.{Resource, Names}
use Rattle.http_serve.specs.Replies.{Reply, stays_behind, print_reply}
use Rattle.http_serve.specs.Responses.{RepliesTo, refusal, Refuses}
use Rattle.http_serve.specs.Services.{Offered}

-- the connection may be kept after its n-th request: the client lets it stay, and fewer than 100 were
-- answered, this one included
abbrev pub may_keep : ℕ → Bool → Bool
may_keep n keep = keep && nat_lt n 100

-- whether a connection stays after the response to its n-th request
abbrev pub may_stay : ℕ → Asked → Reply → Bool
may_stay n request reply = stays_behind (may_keep n request.keep) reply

-- the response to a request: what its path names, its reply, and the service as it leaves it
pub record IsResponse {S : Type 0} (service : Offered S) (now : S) (request : Asked) (after : S)
    (reply : Reply) (stays : Bool) (text : List ℕ) : Type 0 where
  pub resource : Resource
  pub names : Names request.path resource
  pub replies : RepliesTo service now request resource after reply
  pub spelled : text ≡ print_reply stays (bytes_eq request.method (codes "HEAD")) reply

-- the n-th request is at the front of the input, left is what follows it, and this is its response
pub record IsExchange {S : Type 0} (service : Offered S) (n : ℕ) (now : S) (input left : List ℕ) (after : S)
    (stays : Bool) (text : List ℕ) : Type 0 where
  pub request : Asked
  pub reply : Reply
  pub asked : Answers input (asks request left)
  pub stays_is : stays ≡ may_stay n request reply
  pub answered : IsResponse service now request after reply stays text

-- the n-th response is the last: to a request, or a refusal
abbrev pub IsLast : {S : Type 0} → Offered S → ℕ → S → List ℕ → S → List ℕ → Type 0
IsLast service n now input after text =
    ((left : List ℕ) × IsExchange service n now input left after false text)
    ⊎ ((status : ℕ) × (to_head : Bool) × Answers input (refuses status to_head) × (after ≡ now)
    × (text ≡ print_reply false to_head (refusal status)))

-- n whole exchanges, after each of which the connection stays: the service, the input after them, and all
-- that was written
abbrev pub HasServed : {S : Type 0} → Offered S → ℕ → S → List ℕ → S → List ℕ → List ℕ → Type 0
HasServed service zero now input after left text = (after ≡ now) × (left ≡ input) × (text ≡ [])
HasServed {S} service (suc n) now input after left text =
    (mid : S) × (between : List ℕ) × (earlier : List ℕ) × (response : List ℕ)
    × HasServed service n now input mid between earlier
    × IsExchange service (suc n) mid between left after true response
    × (text ≡ earlier ++ response)

-- exchanges, and then a last response, which is whole
abbrev pub IsServed : {S : Type 0} → Offered S → S → List ℕ → S → List ℕ → Type 0
IsServed {S} service now input after text =
    (n : ℕ) × (mid : S) × (left : List ℕ) × (earlier : List ℕ) × (response : List ℕ)
    × HasServed service n now input mid left earlier × IsLast service (suc n) mid left after response
    × (text ≡ earlier ++ response)

-- exchanges, one at least, after which the client sent no more
abbrev pub IsLeft : {S : Type 0} → Offered S → S → List ℕ → S → List ℕ → Type 0
IsLeft service now input after text =
    (n : ℕ) × (left : List ℕ) × HasServed service (suc n) now input after left text × Answers left ends

-- exchanges, and then a beginning of the next response
abbrev pub IsCutOff : {S : Type 0} → Offered S → S → List ℕ → S → List ℕ → Type 0
IsCutOff {S} service now input after text =
    (n : ℕ) × (mid : S) × (left : List ℕ) × (earlier : List ℕ) × (front : List ℕ) × (rest : List ℕ)
    × HasServed service n now input mid left earlier × (text ≡ earlier ++ front)
    × (IsLast service (suc n) mid left after (front ++ rest)
    ⊎ ((behind : List ℕ) × IsExchange service (suc n) mid left behind after true (front ++ rest)))

-- exchanges, and nothing after them. P holds of the input that was left, and of the service before and after
abbrev pub IsGivenUp : {S : Type 0} → Offered S → (List ℕ → S → S → Type 0) → S → List ℕ → S → List ℕ → Type 0
IsGivenUp {S} service P now input after text =
    (n : ℕ) × (mid : S) × (left : List ℕ) × HasServed service n now input mid left text × P left mid after

-- the service is as it was, or the submission that the request at the front of the input asks for was refused
abbrev pub MayRefuse : {S : Type 0} → Offered S → List ℕ → S → S → Type 0
MayRefuse service input now after =
    (after ≡ now) ⊎ ((request : Asked) × (left : List ℕ) × Answers input (asks request left)
    × Refuses service now request after)

-- What comes of a connection with this input, of which the reader has rest: the text that is written, and the
-- service. Ok: the last response was written, or the client sent no more. Read: what was taken of the next
-- request ends before it does. OutOfMemory: its submission was refused at most. EndedEarly: the input ends
-- within a request, or before the first.
abbrev pub Serves : {S T : Type 0} → Offered S → S → List ℕ → Option (List ℕ) → S → List ℕ
    → Result T ServeFault → Type 0
Serves service now input rest after text (Ok _) =
    IsServed service now input after text ⊎ IsLeft service now input after text
Serves service now input rest after text (Err Read) =
    IsGivenUp service (λ left s t. StopsAt (Some left) rest IsCutShort × (t ≡ s)) now input after text
Serves service now input rest after text (Err Write) = IsCutOff service now input after text
Serves service now input rest after text (Err OutOfMemory) =
    IsGivenUp service (MayRefuse service) now input after text
Serves service now input rest after text (Err EndedEarly) =
    IsGivenUp service (λ left s t. Answers left stops × (t ≡ s)) now input after text
    ⊎ (Answers input ends × (after ≡ now) × (text ≡ []))
