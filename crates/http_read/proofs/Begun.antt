-- From an input of which a byte is held, to the input of a call.
use Rattle.std.proofs.Common.{◌≡◌, ℕ, ◌<◌, ◌≤◌, List, [], ◌∷◌, ◌++◌, length, arith, sym, ap, subst, refl, ◌∙◌, length-append, Option, Some, None, IfSome, IfOk, Result}
use Rattle.std.proofs.lemmas.Result.{IfOk-weaker}
use Rattle.std.specs.Io.KnownBytes.{Keeps, IsAtEnd}
use Rattle.std.proofs.KnownBytes.{Keeps-refl}
use Rattle.http_read.specs.declared.fault.ReadFault.{ReadFault}
use Rattle.http_read.specs.declared.incoming.Incoming.{Incoming}
use Rattle.http_read.specs.declared.incoming.Incoming.TheVariants as came
use Rattle.http_read.specs.Input.{input_of, StopsAt}
use Rattle.http_read.specs.Requests.{Answers, IsCutShort, stops}
use Rattle.http_read.specs.Incoming.{Shows}
use Rattle.http_read.proofs.Windows.{of_kept, stops_here}
use Rattle.http_read.proofs.Nothing.{nothing_cut}

-- what is shown of the input as it is now is shown of it as it was
pub shown_before : (r : Result Incoming ReadFault) (old new after : Option (List ℕ)) → Keeps old new
    → IfOk r (λ x. IfSome new (Shows x after)) → IfOk r (λ x. IfSome old (Shows x after))
shown_before r old new after kept shows = IfOk-weaker r _ _ (λ x shown. of_kept old new (Shows x after) kept shown) shows

-- so is what was taken of it
pub stops_before : (old new left : Option (List ℕ)) (P : List ℕ → Type 0) → Keeps old new → StopsAt new left P → StopsAt old left P
stops_before None new left P kept holds = tt
stops_before (Some xs) None left P kept holds = absurd kept
stops_before (Some xs) (Some ys) left P kept holds = subst (λ t. StopsAt (Some t) left P) kept holds

-- an input of which a byte is held isn't empty
pub begun_stops : (old : Option (List ℕ)) (held : List ℕ) (left : Option (List ℕ)) → Keeps old (input_of held left) → 0 < length held
    → IfSome (input_of held left) IsCutShort → IfSome old (λ input. Answers input stops)
begun_stops None held left kept some cut = tt
begun_stops (Some xs) held None kept some cut = absurd kept
begun_stops (Some xs) held (Some more) kept some cut = (
  λ none. absurd (omega (arith, some, ap length (kept ∙ none), length-append held more)),
  subst IsCutShort kept cut,
)

-- where nothing is held and nothing left, the input has ended
pub over_ended : (old : Option (List ℕ)) (held : List ℕ) (left : Option (List ℕ)) → Keeps old (input_of held left) → held ≡ [] → IsAtEnd left
    → IfSome old (Shows came.Ended (input_of held left))
over_ended None held left kept none end = tt
over_ended (Some xs) held None kept none end = absurd kept
over_ended (Some xs) held (Some more) kept none end =
    let all : held ++ more ≡ [] = ap (λ t. t ++ more) none ∙ end in
    (sym kept ∙ all, ap Some all)

pub no_bytes : (held : List ℕ) → length held ≤ 0 → held ≡ []
no_bytes [] few = refl
no_bytes (b ∷ bytes) few = absurd (omega (arith, few))

-- a first reading that failed took nothing
pub nothing_stops : (held after : List ℕ) (left left_now : Option (List ℕ)) → held ≡ [] → Keeps (input_of held left) (input_of after left_now)
    → after ≡ held → StopsAt (input_of held left) left_now IsCutShort
nothing_stops held after left left_now none kept same =
    stops_here _ held after left left_now IsCutShort (Keeps-refl (input_of held left)) kept same (subst IsCutShort (sym none) nothing_cut)
