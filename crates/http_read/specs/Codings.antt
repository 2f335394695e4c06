-- What is kept of the transfer codings while they are read.
use Rattle.std.specs.Prelude.{◌≡◌, ℕ, not, ◌==◌, List, length, nat_lt}
use Rattle.std.specs.List.{flat_map}
use Rattle.http_read.specs.declared.codings.Codings.{Codings}
use Rattle.http_read.specs.Checks.{coding_in, comma_parts, is_chunked_last}

-- whether there are any, whether there are several, and whether the last is `chunked`
pub record Tells (c : Codings) (codings : List (List ℕ)) : Type 0 where
  pub any : c.any ≡ not (length codings == 0)
  pub several : c.several ≡ nat_lt 1 (length codings)
  pub last : c.is_chunked_last ≡ is_chunked_last codings

-- the codings in a value
abbrev pub codings_in : List ℕ → List (List ℕ)
codings_in value = flat_map coding_in (comma_parts value)
