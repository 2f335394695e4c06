-- A connection as it is served: what its ends tell of it.
use Rattle.std.proofs.Common.{◌≡◌, ℕ, zero, suc, ◌+◌, ◌<◌, ◌≤◌, Bool, true, false, true≢false, List, [], ◌++◌, Option, Some, None, IfSome, Result, Ok, Err, arith, refl, sym, ap, subst, ◌∙◌}
use Rattle.std.specs.Bool.{⊤}
use Rattle.std.specs.Io.KnownBytes.{Appends}
use Rattle.std.proofs.KnownBytes.{Appends-nil, Appends-trans}
use Rattle.http_read.specs.Bytes.{AppendsPart}
use Rattle.http_read.specs.Input.{input_of, StopsAt}
use Rattle.http_read.specs.Requests.{Answers, IsCutShort, stops, ends}
use Rattle.http_serve.specs.declared.fault.ServeFault.{ServeFault}
use Rattle.http_serve.specs.declared.fault.ServeFault.TheVariants.{Read, Write, OutOfMemory, EndedEarly}
use Rattle.http_serve.specs.declared.next.Next.{Next}
use Rattle.http_serve.specs.declared.next.Next.TheVariants.{Stays, Closes, Ended}
use Rattle.http_serve.specs.Connections.{HasServed, MayRefuse, Serves}
use Rattle.http_serve.specs.Exchanges.{Responds, Exchanges, next_behind, ends_with}
use Rattle.http_serve.specs.Services.{Offered, MaySubmit, MaySubmitMany}
use Rattle.http_serve.proofs.Connecting.{connection_ends}

-- ---- one exchange

-- what an exchange comes to, over ends of which this is known
abbrev pub Comes : {S : Type 0} → Offered S → ℕ → S → Option (List ℕ) → Option (List ℕ) → Option (List ℕ) → S → Option (List ℕ) → Option (List ℕ) → Result Next ServeFault → Type 0
Comes service n now input left rest after before behind end =
    IfSome input (λ i. (text : List ℕ) × Exchanges service n now i left rest after text end × Appends before behind text)

as_next : {S : Type 0} (service : Offered S) (n : ℕ) (now after : S) (i : List ℕ) (left rest : Option (List ℕ)) (text : List ℕ) (kept : Bool)
    → Responds service n now i left after kept text → Exchanges service n now i left rest after text (Ok (next_behind kept))
as_next service n now after i left rest text true responds = responds
as_next service n now after i left rest text false responds = responds

-- the response was written
pub answered : {S : Type 0} (service : Offered S) (n : ℕ) (now after : S) (input left rest before behind : Option (List ℕ)) (kept : Bool) (text : List ℕ) (next : Next)
    → IfSome input (λ i. Responds service n now i left after kept text) → Appends before behind text → next ≡ next_behind kept
    → Comes service n now input left rest after before behind (Ok next)
answered service n now after None left rest before behind kept text next responds all is = tt
answered service n now after (Some i) left rest before behind kept text next responds all is = (
  text,
  subst (λ x. Exchanges service n now i left rest after text (Ok x)) (sym is) (as_next service n now after i left rest text kept responds),
  all,
)

abbrev is_staying : Next → Bool
is_staying Stays = true
is_staying Closes = false
is_staying Ended = false

abbrev is_over : Next → Bool
is_over Stays = false
is_over Closes = false
is_over Ended = true

-- it goes on so where the connection stays alone
pub stays_where : (kept : Bool) (next : Next) → next ≡ next_behind kept → next ≡ Stays → kept ≡ true
stays_where true next is so = refl
stays_where false next is so = absurd (true≢false (ap is_staying (sym so ∙ is)))

-- and is never over
pub not_over : {P : Type 0} (kept : Bool) (next : Next) → next ≡ next_behind kept → next ≡ Ended → P
not_over true next is so = absurd (true≢false (ap is_over (sym so ∙ is)))
not_over false next is so = absurd (true≢false (ap is_over (sym so ∙ is)))

-- a beginning of it was
pub cut_off : {S : Type 0} (service : Offered S) (n : ℕ) (now after : S) (input left rest before behind : Option (List ℕ)) (kept : Bool) (text : List ℕ)
    → IfSome input (λ i. Responds service n now i left after kept text) → AppendsPart before behind text
    → Comes service n now input left rest after before behind (Err Write)
cut_off service n now after None left rest before behind kept text responds part = tt
cut_off service n now after (Some i) left rest before behind kept text responds (front, others, whole, begun) =
    (front, (kept, others, left, subst (λ t. Responds service n now i left after kept t) whole responds), begun)

-- the client sent no more
pub sent_no_more : {S : Type 0} (service : Offered S) (n : ℕ) (now after : S) (input left rest known : Option (List ℕ))
    → IfSome input (λ i. Answers i ends × (after ≡ now)) → Comes service n now input left rest after known known (Ok Ended)
sent_no_more service n now after None left rest known over = tt
sent_no_more service n now after (Some i) left rest known (none, same) = ([], (none, same, refl), Appends-nil known)

-- no response was found
pub given_up : {S : Type 0} (service : Offered S) (n : ℕ) (now after : S) (input left rest known : Option (List ℕ)) (fault : ServeFault)
    → (fault ≡ Read → StopsAt input rest IsCutShort)
    → (fault ≡ EndedEarly → IfSome input (λ i. Answers i stops))
    → (fault ≡ Read → after ≡ now) → (fault ≡ EndedEarly → after ≡ now)
    → (fault ≡ OutOfMemory → IfSome input (λ i. MayRefuse service i now after))
    → ¬ (fault ≡ Write)
    → Comes service n now input left rest after known known (Err fault)
given_up service n now after None left rest known fault unread ended same same_too refused unwritten = tt
given_up service n now after (Some i) left rest known Read unread ended same same_too refused unwritten =
    ([], (unread refl, same refl, refl), Appends-nil known)
given_up service n now after (Some i) left rest known Write unread ended same same_too refused unwritten = absurd (unwritten refl)
given_up service n now after (Some i) left rest known OutOfMemory unread ended same same_too refused unwritten =
    ([], (refused refl, refl), Appends-nil known)
given_up service n now after (Some i) left rest known EndedEarly unread ended same same_too refused unwritten =
    ([], (ended refl, same_too refl, refl), Appends-nil known)

-- ---- one after another

-- so many whole exchanges, over ends of which this is known
abbrev pub HasRun : {S : Type 0} → Offered S → ℕ → S → Option (List ℕ) → S → Option (List ℕ) → Option (List ℕ) → Option (List ℕ) → Type 0
HasRun service n now input after left before behind =
    IfSome input (λ i. (here : List ℕ) × (text : List ℕ) × HasServed service n now i after here text × (left ≡ Some here) × Appends before behind text)

pub none_run : {S : Type 0} (service : Offered S) (now : S) (held : List ℕ) (input known : Option (List ℕ)) → held ≡ []
    → HasRun service 0 now input now (input_of held input) known known
none_run service now held None known none = tt
none_run service now held (Some i) known none = (i, [], (refl, refl, refl), ap (λ h. Some (h ++ i)) none, Appends-nil known)

pub more_run : {S : Type 0} (service : Offered S) (n : ℕ) (now mid after : S) (input between left rest before middle behind : Option (List ℕ))
    → HasRun service n now input mid between before middle
    → Comes service (suc n) mid between left rest after middle behind (Ok Stays)
    → HasRun service (n + 1) now input after left before behind
more_run service n now mid after None between left rest before middle behind so_far one = tt
more_run service n now mid after (Some i) between left rest before middle behind (here, text, served, is, appended) one =
    let step : (more : List ℕ) × Exchanges service (suc n) mid here left rest after more (Ok Stays) × Appends middle behind more =
    subst (λ m. Comes service (suc n) mid m left rest after middle behind (Ok Stays)) is one in
    let at : suc n ≡ n + 1 = omega arith in (
      step.1.0,
      text ++ step.0,
      subst (λ k. HasServed service k now i after step.1.0 (text ++ step.0)) at (mid, here, text, step.0, served, step.1.1, refl),
      step.1.2,
      Appends-trans before middle behind text step.0 appended step.2,
    )

pub run_ends : {S : Type 0} (service : Offered S) (n : ℕ) (now mid after : S) (input between left rest before middle behind : Option (List ℕ)) (end : Result Next ServeFault) (r : Result ⊤ ServeFault)
    → HasRun service n now input mid between before middle
    → Comes service (suc n) mid between left rest after middle behind end
    → ends_with n end ≡ Some r
    → IfSome input (λ i. (said : List ℕ) × Serves service now i rest after said r × Appends before behind said)
run_ends service n now mid after None between left rest before middle behind end r so_far one ends_so = tt
run_ends service n now mid after (Some i) between left rest before middle behind end r (here, text, served, is, appended) one ends_so =
    let step : (more : List ℕ) × Exchanges service (suc n) mid here left rest after more end × Appends middle behind more =
    subst (λ m. Comes service (suc n) mid m left rest after middle behind end) is one in (
      text ++ step.0,
      connection_ends service n now mid after i here text step.0 left rest end r served step.1 ends_so,
      Appends-trans before middle behind text step.0 appended step.2,
    )

-- where the client sent nothing at all
pub ended_first : (n : ℕ) → n ≡ 0 → ends_with n (Ok Ended) ≡ Some (Err EndedEarly)
ended_first zero none = refl
ended_first (suc n) none = absurd (omega (arith, none))

-- and where it sent no more
pub ended_later : (n : ℕ) → 0 < n → ends_with n (Ok Ended) ≡ Some (Ok tt)
ended_later zero some = absurd (omega (arith, some))
ended_later (suc n) some = refl

-- one submission more, if any
pub many_more : {S : Type 0} (service : Offered S) (n : ℕ) (now mid after : S) → MaySubmitMany service n now mid → MaySubmit service mid after
    → MaySubmitMany service (n + 1) now after
many_more service n now mid after earlier one =
    let at : suc n ≡ n + 1 = omega arith in
    subst (λ k. MaySubmitMany service k now after) at (mid, earlier, one)

pub submitted_more : {S : Type 0} (service : Offered S) (n : ℕ) (now mid after : S) → n < 100 → MaySubmitMany service n now mid → MaySubmit service mid after
    → (k : ℕ) × (k ≤ 100) × MaySubmitMany service k now after
submitted_more service n now mid after few earlier one = (n + 1, omega (arith, few), many_more service n now mid after earlier one)
