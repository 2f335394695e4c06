-- What passed on a connection stands.
use Rattle.std.proofs.Common.{◌≡◌, ◌≢◌, ℕ, zero, suc, ◌+◌, Bool, true, false, List, [], ◌∷◌, ◌++◌, length, arith, sym, ap, subst, refl, ◌∙◌, append_assoc, append-nil, length-append, inl, inr}
use Rattle.std.specs.Prelude.{⊤}
use Rattle.http_read.specs.Requests.{Asked, Heard, asks, refuses, stops, ends}
use Rattle.http_read.proofs.Longer.{stands}
use Rattle.http_serve.specs.Connections.{IsExchange, IsLast, HasServed, IsServed}
use Rattle.http_serve.specs.Services.{Offered}
use Rattle.http_serve.specs.Talks.{Exchange, AreExchanges, IsWholeTalk, IsAlone, TalksStand, OneMore, AloneIsServed, FarewellStands}

-- an answer to a request, or a refusal, is neither that the input ended within one nor before one
abbrev Goes : Heard → Type 0
Goes (asks request left) = ⊤
Goes (refuses status of_head) = ⊤
Goes stops = ⊥
Goes ends = ⊥

asks_is_no_stop : (request : Asked) (left : List ℕ) → asks request left ≢ stops
asks_is_no_stop request left is = subst Goes is tt

asks_is_no_end : (request : Asked) (left : List ℕ) → asks request left ≢ ends
asks_is_no_end request left is = subst Goes is tt

refusal_is_no_stop : (status : ℕ) (of_head : Bool) → refuses status of_head ≢ stops
refusal_is_no_stop status of_head is = subst Goes is tt

refusal_is_no_end : (status : ℕ) (of_head : Bool) → refuses status of_head ≢ ends
refusal_is_no_end status of_head is = subst Goes is tt

pub exchange_stands : {S : Type 0} (service : Offered S) (n : ℕ) (now after : S) (input left more text : List ℕ) (stays : Bool)
    → IsExchange service n now input left after stays text → IsExchange service n now (input ++ more) (left ++ more) after stays text
exchange_stands service n now after input left more text stays one = record {
  request = one.request;
  reply = one.reply;
  asked = stands input more (asks one.request left) (asks_is_no_stop one.request left) (asks_is_no_end one.request left) one.asked;
  stays_is = one.stays_is;
  answered = one.answered;
}

longer : {S : Type 0} (service : Offered S) (k : ℕ) (input left text more : List ℕ) (xs : List (Exchange S))
    → AreExchanges service k input left text xs → AreExchanges service k (input ++ more) (left ++ more) text xs
longer service k input left text more [] (same, none) = (ap (λ t. t ++ more) same, none)
longer service k input left text more (x ∷ xs) (between, later, one, are, is) = (
  between ++ more,
  later,
  exchange_stands service (suc k) x.now x.after input between more x.text true one,
  longer service (suc k) between left later more xs are,
  is,
)

pub talks_stand : {S : Type 0} (service : Offered S) → TalksStand service
talks_stand service came left text more count talk = record {
  exchanges = talk.exchanges;
  are = longer service zero came left text more talk.exchanges talk.are;
  counted = talk.counted;
}

pub farewells_stand : {S : Type 0} (service : Offered S) → FarewellStands service
farewells_stand service n now after input more text (inl (left, one)) =
    inl (left ++ more, exchange_stands service n now after input left more text false one)
farewells_stand service n now after input more text (inr (status, of_head, refused, same, is)) =
    inr (
      status,
      of_head,
      stands input more (refuses status of_head) (refusal_is_no_stop status of_head) (refusal_is_no_end status of_head) refused,
      same,
      is,
    )

-- ---- alone

nothing_more : (S : Type 0) (k : ℕ) → k ≡ length {A = Exchange S} [] + k
nothing_more S k = omega arith

one_longer : (S : Type 0) (x : Exchange S) (xs : List (Exchange S)) (k : ℕ) → length xs + suc k ≡ length (x ∷ xs) + k
one_longer S x xs k = omega arith

-- after exchanges that were served alone, further ones
goes_on : {S : Type 0} (service : Offered S) (k : ℕ) (now mid after : S) (came between left earlier later : List ℕ) (xs : List (Exchange S))
    → HasServed service k now came mid between earlier → AreExchanges service k between left later xs → IsAlone mid xs after
    → HasServed service (length xs + k) now came after left (earlier ++ later)
goes_on {S} service k now mid after came between left earlier later [] served (same, none) alone =
    subst (λ n. HasServed service n now came after left (earlier ++ later)) (nothing_more S k)
    (subst (λ t. HasServed service k now came after left t) (sym (ap (λ t. earlier ++ t) none ∙ append-nil earlier))
    (subst (λ l. HasServed service k now came after l earlier) (sym same)
    (subst (λ s. HasServed service k now came s between earlier) (sym alone) served)))
goes_on {S} service k now mid after came between left earlier later (x ∷ xs) served (next, rest, one, are, is) (begins, alone) =
    let more : HasServed service (suc k) now came x.after next (earlier ++ x.text) =
    (mid, between, earlier, x.text, served, subst (λ s. IsExchange service (suc k) s between next x.after true x.text) begins one, refl) in
    let all : HasServed service (length xs + suc k) now came after left ((earlier ++ x.text) ++ rest) =
    goes_on service (suc k) now x.after after came next left (earlier ++ x.text) rest xs more are alone in
    subst (λ t. HasServed service (length (x ∷ xs) + k) now came after left t)
    (append_assoc earlier x.text rest ∙ ap (λ t. earlier ++ t) (sym is))
    (subst (λ n. HasServed service n now came after left ((earlier ++ x.text) ++ rest)) (one_longer S x xs k) all)

so_far : {S : Type 0} (service : Offered S) (now after : S) (came left text : List ℕ) (xs : List (Exchange S))
    → AreExchanges service zero came left text xs → IsAlone now xs after → HasServed service (length xs) now came after left text
so_far service now after came left text xs are no_others =
    subst (λ n. HasServed service n now came after left text) (omega arith)
    (goes_on service zero now now after came came left [] text xs (refl, refl, refl) are no_others)

whole : {S : Type 0} (service : Offered S) (now : S) (came text : List ℕ) (w : IsWholeTalk service came text)
    → IsAlone now w.talk.exchanges w.now → IsServed service now came w.after text
whole service now came text w no_others = (
  length w.talk.exchanges,
  w.now,
  w.left,
  w.earlier,
  w.response,
  so_far service now w.now came w.left w.earlier w.talk.exchanges w.talk.are no_others,
  subst (λ n. IsLast service (suc n) w.now w.left w.after w.response) w.talk.counted w.last,
  w.spelled,
)

pub alone_is_served : {S : Type 0} (service : Offered S) → AloneIsServed service
alone_is_served service = record {
  so_far = λ now after came left text xs are no_others. so_far service now after came left text xs are no_others;
  whole = λ now came text w no_others. whole service now came text w no_others;
}

-- ---- one exchange more

behind_all : {S : Type 0} (service : Offered S) (k : ℕ) (came left behind text : List ℕ) (x : Exchange S) (xs : List (Exchange S))
    → AreExchanges service k came left text xs → IsExchange service (suc (length xs + k)) x.now left behind x.after true x.text
    → AreExchanges service k came behind (text ++ x.text) (xs ++ x ∷ [])
behind_all {S} service k came left behind text x [] (same, none) one = (
  behind,
  [],
  subst (λ i. IsExchange service (suc k) x.now i behind x.after true x.text) same
      (subst (λ n. IsExchange service (suc n) x.now left behind x.after true x.text) (sym (nothing_more S k)) one),
  (refl, refl),
  ap (λ t. t ++ x.text) none ∙ sym (append-nil x.text),
)
behind_all service k came left behind text x (y ∷ ys) (between, later, first, are, is) one = (
  between,
  later ++ x.text,
  first,
  behind_all service (suc k) between left behind later x ys are
      (subst (λ n. IsExchange service n x.now left behind x.after true x.text) (omega arith) one),
  ap (λ t. t ++ x.text) is ∙ append_assoc y.text later x.text,
)

pub one_more : {S : Type 0} (service : Offered S) → OneMore service
one_more {S} service came left behind text response count now after talk one =
    let x : Exchange S = record { now = now; after = after; text = response } in record {
      exchanges = talk.exchanges ++ x ∷ [];
      are = behind_all service zero came left behind text x talk.exchanges talk.are
          (subst (λ n. IsExchange service n now left behind after true response) (ap suc talk.counted ∙ omega arith) one);
      counted = ap suc talk.counted ∙ omega (arith, length-append talk.exchanges (x ∷ []));
    }
