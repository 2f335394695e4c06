-- Exchanges one after another are a connection.
use Rattle.std.proofs.Common.{◌≡◌, ◌∙◌, ℕ, zero, suc, ◌⊎◌, Bool, true, false, true≢false, List, [], ◌++◌, append-nil, Option, Some, Result, Ok, Err, refl, sym, ap, subst, inl, inr}
use Rattle.std.specs.Prelude.{is_some}
use Rattle.std.specs.Bool.{⊤}
use Rattle.http_serve.specs.declared.fault.ServeFault.{ServeFault}
use Rattle.http_serve.specs.declared.fault.ServeFault.TheVariants.{Read, Write, OutOfMemory, EndedEarly}
use Rattle.http_serve.specs.declared.next.Next.{Next}
use Rattle.http_serve.specs.declared.next.Next.TheVariants.{Stays, Closes, Ended}
use Rattle.http_serve.specs.Connections.{IsExchange, IsLast, HasServed, Serves}
use Rattle.http_serve.specs.Exchanges.{Responds, Exchanges, ends_with}
use Rattle.http_serve.specs.Laws.{AreConnection}
use Rattle.http_serve.specs.Services.{Offered}

pub some_same : {X : Type 0} (x y : X) → ◌≡◌ {A = Option X} (Some x) (Some y) → x ≡ y
some_same x y is = cc

-- one more, after which the connection stays
pub one_more : {S : Type 0} (service : Offered S) (n : ℕ) (now mid after : S) (input between left earlier response : List ℕ) (rest : Option (List ℕ))
    → HasServed service n now input mid between earlier → Exchanges service (suc n) mid between (Some left) rest after response (Ok Stays)
    → HasServed service (suc n) now input after left (earlier ++ response)
one_more service n now mid after input between left earlier response rest before (behind, one, same) = (
  mid,
  between,
  earlier,
  response,
  before,
  subst (λ l. IsExchange service (suc n) mid between l after true response) (sym (some_same left behind same)) one,
  refl,
)

-- what was written, and nothing more
more_text : {S : Type 0} (service : Offered S) (n : ℕ) (now mid : S) (input left earlier text : List ℕ)
    → HasServed service n now input mid left earlier → text ≡ [] → HasServed service n now input mid left (earlier ++ text)
more_text service n now mid input left earlier text before none =
    subst (λ t. HasServed service n now input mid left t) (sym (ap (λ t. earlier ++ t) none ∙ append-nil earlier)) before

-- a beginning of the next response
cut_short : {S : Type 0} (service : Offered S) (n : ℕ) (mid after : S) (left : List ℕ) (next : Option (List ℕ)) (kept : Bool) (text : List ℕ)
    → Responds service n mid left next after kept text
    → IsLast service n mid left after text ⊎ ((behind : List ℕ) × IsExchange service n mid left behind after true text)
cut_short service n mid after left next true text (behind, one, same) = inr (behind, one)
cut_short service n mid after left next false text last = inl last

-- the one that ends it
pub connection_ends : {S : Type 0} (service : Offered S) (n : ℕ) (now mid after : S) (input between earlier text : List ℕ) (left rest : Option (List ℕ)) (end : Result Next ServeFault) (r : Result ⊤ ServeFault)
    → HasServed service n now input mid between earlier → Exchanges service (suc n) mid between left rest after text end
    → ends_with n end ≡ Some r → Serves service now input rest after (earlier ++ text) r
connection_ends service n now mid after input between earlier text left rest (Ok Stays) r before one is =
    absurd (true≢false (ap is_some (sym is)))
connection_ends service n now mid after input between earlier text left rest (Ok Closes) r before one is =
    subst (Serves service now input rest after (earlier ++ text)) (some_same (Ok tt) r is)
    (inl (n, mid, between, earlier, text, before, one, refl))
connection_ends service zero now mid after input between earlier text left rest (Ok Ended) r (same, all, nothing) (none, same_too, no_text) is =
    subst (Serves service now input rest after (earlier ++ text)) (some_same (Err EndedEarly) r is)
    (inr (sym all ∙ none, same_too ∙ same, ap (λ e. e ++ text) nothing ∙ no_text))
connection_ends service (suc n) now mid after input between earlier text left rest (Ok Ended) r before (none, same, no_text) is =
    subst (Serves service now input rest after (earlier ++ text)) (some_same (Ok tt) r is)
    (inr (
      n,
      between,
      subst (λ s. HasServed service (suc n) now input s between (earlier ++ text)) (sym same)
          (more_text service (suc n) now mid input between earlier text before no_text),
      none,
    ))
connection_ends service n now mid after input between earlier text left rest (Err Read) r before (stopped, same, no_text) is =
    subst (Serves service now input rest after (earlier ++ text)) (some_same (Err Read) r is)
    (n, mid, between, more_text service n now mid input between earlier text before no_text, (stopped, same))
connection_ends service n now mid after input between earlier text left rest (Err Write) r before (kept, others, next, responds) is =
    subst (Serves service now input rest after (earlier ++ text)) (some_same (Err Write) r is)
    (n, mid, between, earlier, text, others, before, refl, cut_short service (suc n) mid after between next kept (text ++ others) responds)
connection_ends service n now mid after input between earlier text left rest (Err OutOfMemory) r before (refused, no_text) is =
    subst (Serves service now input rest after (earlier ++ text)) (some_same (Err OutOfMemory) r is)
    (n, mid, between, more_text service n now mid input between earlier text before no_text, refused)
connection_ends service n now mid after input between earlier text left rest (Err EndedEarly) r before (stopped, same, no_text) is =
    subst (Serves service now input rest after (earlier ++ text)) (some_same (Err EndedEarly) r is)
    (inl (n, mid, between, more_text service n now mid input between earlier text before no_text, (stopped, same)))

pub are_connection : {S : Type 0} (service : Offered S) → AreConnection service
are_connection service = record {
  more = λ n now mid after input between left earlier response rest before one.
      one_more service n now mid after input between left earlier response rest before one;
  last = λ n now mid after input between earlier text left rest end r before one is.
      connection_ends service n now mid after input between earlier text left rest end r before one is;
}
