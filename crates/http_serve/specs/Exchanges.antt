-- One step of a connection: what comes of its next request.
use Rattle.std.specs.Prelude.{◌≡◌, ℕ, zero, suc, Bool, true, false, List, [], ◌++◌, Option, Some, None}
use Rattle.std.specs.Prelude.{Result, Ok, Err, ⊤}
use Rattle.http_read.specs.Input.{StopsAt}
use Rattle.http_read.specs.Requests.{stops, ends, Answers, IsCutShort}
use Rattle.http_serve.specs.declared.fault.ServeFault.{ServeFault}
use Rattle.http_serve.specs.declared.fault.ServeFault.TheVariants.{Read, Write, OutOfMemory, EndedEarly}
use Rattle.http_serve.specs.declared.next.Next.{Next}
use Rattle.http_serve.specs.declared.next.Next.TheVariants.{Stays, Closes, Ended}
use Rattle.http_serve.specs.declared.replies.Message.{Message}
use Rattle.http_serve.specs.Connections.{IsExchange, IsLast, MayRefuse}
use Rattle.http_serve.specs.Services.{Offered}

-- this is the response to the n-th request, at the front of the input, and whether the connection stays after
-- it. If so, left is what follows
abbrev pub Responds : {S : Type 0} → Offered S → ℕ → S → List ℕ → Option (List ℕ) → S → Bool → List ℕ → Type 0
Responds service n now input left after true text =
    (behind : List ℕ) × IsExchange service n now input behind after true text × (left ≡ Some behind)
Responds service n now input left after false text = IsLast service n now input after text

-- What becomes of the n-th request of a connection: the text that is written, and the service after it.
-- `input` is what is left before the request, `left` is what is left after it, and the reader still has
-- `rest` of it.
abbrev pub Exchanges : {S : Type 0} → Offered S → ℕ → S → List ℕ → Option (List ℕ) → Option (List ℕ) → S
    → List ℕ → Result Next ServeFault → Type 0
Exchanges service n now input left rest after text (Ok Stays) =
    Responds service n now input left after true text
Exchanges service n now input left rest after text (Ok Closes) =
    Responds service n now input left after false text
Exchanges service n now input left rest after text (Ok Ended) =
    Answers input ends × (after ≡ now) × (text ≡ [])
Exchanges service n now input left rest after text (Err Read) =
    StopsAt (Some input) rest IsCutShort × (after ≡ now) × (text ≡ [])
Exchanges service n now input left rest after text (Err Write) =
    (stays : Bool) × (others : List ℕ) × (next : Option (List ℕ))
    × Responds service n now input next after stays (text ++ others)
Exchanges service n now input left rest after text (Err OutOfMemory) =
    MayRefuse service input now after × (text ≡ [])
Exchanges service n now input left rest after text (Err EndedEarly) =
    Answers input stops × (after ≡ now) × (text ≡ [])

-- how the connection goes on after a response
abbrev pub next_behind : Bool → Next
next_behind true = Stays
next_behind false = Closes

-- how a connection ends if its client sends no more, after this many requests
abbrev pub end_behind : ℕ → Result ⊤ ServeFault
end_behind zero = Err EndedEarly
end_behind (suc n) = Ok tt

-- How a connection ends with an exchange, after this many others. If it stays, it does not end.
abbrev pub ends_with : ℕ → Result Next ServeFault → Option (Result ⊤ ServeFault)
ends_with n (Ok Stays) = None
ends_with n (Ok Closes) = Some (Ok tt)
ends_with n (Ok Ended) = Some (end_behind n)
ends_with n (Err fault) = Some (Err fault)

-- a response that was found, or word that the client sent no more
abbrev pub Finds : {S : Type 0} → Offered S → ℕ → S → List ℕ → Option (List ℕ) → S → Option Message → Type 0
Finds service n now input left after None = Answers input ends × (after ≡ now)
Finds service n now input left after (Some m) = Responds service n now input left after m.stays m.bytes.items
