-- How the code represents the framing of a body.
use Rattle.std.specs.Prelude.{◌≡◌, ℕ, ◌≤◌, ◌⊎◌, List, Some, None}
use Rattle.std.specs.String.{string_bytes}
use Rattle.httparse.specs.Grammar.{RequestHead}
use Rattle.http_read.specs.declared.lengths.TheConstants.{BODY_LIMIT}
use Rattle.http_read.specs.declared.checks.Cut.{Cut}
use Rattle.http_read.specs.declared.checks.Cut.TheVariants.{Length, Chunks}
use Rattle.http_read.specs.declared.checks.Passed.{Passed}
use Rattle.http_read.specs.declared.judging.Judged.{Judged}
use Rattle.http_read.specs.declared.judging.Judged.TheVariants.{Asks, Refused}
use Rattle.http_read.specs.Methods.{method_name}
use Rattle.http_read.specs.Targets.{AsksFor}
use Rattle.http_read.specs.Checks.{FieldPair, Framing, fixed, chunked, framing_of, fault_of, head_fault}
use Rattle.http_read.specs.Checks.{keeps, pairs_of}

-- the framing that is meant
abbrev pub framing_meant : Cut → Framing
framing_meant (Length n) = fixed n
framing_meant Chunks = chunked

-- the stated length, or 0
abbrev pub stated : Cut → ℕ
stated (Length n) = n
stated Chunks = 0

-- the head passes all tests, and this is its method, how its body is cut, and whether the connection may stay
pub record Passes (minor : ℕ) (method : List ℕ) (fields : List FieldPair) (passed : Passed) : Type 0 where
  pub sound : fault_of minor method fields ≡ None
  pub named : method_name passed.method ≡ method
  pub framed : framing_meant passed.cut ≡ framing_of fields
  pub small : stated passed.cut ≤ BODY_LIMIT
  pub keep : passed.keep ≡ keeps minor fields

-- what is known of a whole head before its body is read
abbrev pub Judges : RequestHead → Judged → Type 0
Judges head (Asks passed path) =
    Passes head.minor head.method (pairs_of head) passed × AsksFor head.target (string_bytes path)
Judges head (Refused status) =
    (head_fault head ≡ Some status)
    ⊎ ((head_fault head ≡ None) × (status ≡ 400) × ((path : List ℕ) → ¬ (AsksFor head.target path)))
