-- What follows from the definitions.
use Rattle.std.specs.Prelude.{◌≡◌, ℕ, suc, List, ◌++◌, Option, Some, Result, Ok, ⊤}
use Rattle.http_serve.specs.declared.fault.ServeFault.{ServeFault}
use Rattle.http_serve.specs.declared.next.Next.{Next}
use Rattle.http_serve.specs.declared.next.Next.TheVariants.{Stays}
use Rattle.http_serve.specs.Connections.{HasServed, Serves}
use Rattle.http_serve.specs.Exchanges.{Exchanges, ends_with}
use Rattle.http_serve.specs.Paths.{Resource, Names}
use Rattle.http_serve.specs.Services.{Offered}

-- a path names one resource
abbrev pub NamesOne : Type 0
NamesOne = (path : List ℕ) (a b : Resource) → Names path a → Names path b → a ≡ b

-- Exchanges one after another are a connection.
pub record AreConnection {S : Type 0} (service : Offered S) : Type 0 where
  -- one more, after which it stays
  pub more : (n : ℕ) (now mid after : S) (input between left earlier response : List ℕ)
      (rest : Option (List ℕ))
      → HasServed service n now input mid between earlier
      → Exchanges service (suc n) mid between (Some left) rest after response (Ok Stays)
      → HasServed service (suc n) now input after left (earlier ++ response)
  -- the one that ends it
  pub last : (n : ℕ) (now mid after : S) (input between earlier text : List ℕ) (left rest : Option (List ℕ))
      (end : Result Next ServeFault) (r : Result ⊤ ServeFault)
      → HasServed service n now input mid between earlier
      → Exchanges service (suc n) mid between left rest after text end
      → ends_with n end ≡ Some r → Serves service now input rest after (earlier ++ text) r
