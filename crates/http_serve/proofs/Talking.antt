-- A connection, over all that passed on it.
use Rattle.std.proofs.Common.{◌≡◌, ◌∙◌, ℕ, zero, suc, Bool, true, false, List, [], ◌++◌, Some, refl, sym, ap, subst, append_assoc}
use Rattle.http_read.specs.declared.progress.Progress.{Progress}
use Rattle.http_read.specs.declared.progress.Progress.TheVariants.{Head}
use Rattle.http_read.specs.Progress.{Resumes}
use Rattle.http_serve.specs.declared.connection.Connection.{Connection}
use Rattle.http_serve.specs.Connections.{IsExchange}
use Rattle.http_serve.specs.Exchanges.{Responds}
use Rattle.http_serve.specs.ConnectionSteps.{IsNew, IsAnswered, Waits}
use Rattle.http_serve.specs.ConnectionTalks.{HasTalked, HasClosed, AreTalks}
use Rattle.http_serve.specs.Services.{Offered}
use Rattle.http_serve.specs.Talks.{IsOpenTalk, IsWholeTalk}
use Rattle.http_serve.proofs.Connecting.{some_same}
use Rattle.http_serve.proofs.Standing.{talks_stand, one_more}

none_made : {S : Type 0} (service : Offered S) → IsOpenTalk service [] [] [] zero
none_made service = record { exchanges = []; are = (refl, refl); counted = refl }

begins : {S : Type 0} (service : Offered S) (connection : Connection) → IsNew connection → HasTalked service connection [] []
begins service connection new = (
  [],
  new.unread,
  subst (λ t. IsOpenTalk service [] [] t connection.answered) (sym new.unwritten)
      (subst (λ n. IsOpenTalk service [] [] [] n) (sym new.none) (none_made service)),
)

heard : {S : Type 0} (service : Offered S) (connection : Connection) (came said more : List ℕ) → HasTalked service connection came said
    → HasTalked service (record connection { inbox = connection.inbox ++ more }) (came ++ more) said
heard service connection came said more (left, (used, resumes, is), talk) = (
  left ++ more,
  (used, resumes, ap (λ t. t ++ more) is ∙ append_assoc used connection.inbox more),
  talks_stand service came left (said ++ connection.outbox) more connection.answered talk,
)

-- what was written and waits, and then a response
then_response : (said waits text all : List ℕ) → all ≡ waits ++ text → (said ++ waits) ++ text ≡ said ++ all
then_response said waits text all is = append_assoc said waits text ∙ sym (ap (λ t. said ++ t) is)

stays_on : {S : Type 0} (service : Offered S) (now after : S) (came said left response behind : List ℕ) (count : ℕ) (progress : Progress) (answered : ℕ) (stays : Bool)
    → IsOpenTalk service came left said count → Responds service (suc count) now left (Some behind) after stays response
    → progress ≡ Head → answered ≡ suc count → stays ≡ true
    → (rest : List ℕ) × ((used : List ℕ) × Resumes progress used × (rest ≡ used ++ behind)) × IsOpenTalk service came rest (said ++ response) answered
stays_on service now after came said left response behind count progress answered true talk (next, one, same) first counted so = (
  behind,
  ([], subst (λ p. Resumes p []) (sym first) refl, refl),
  subst (λ n. IsOpenTalk service came behind (said ++ response) n) (sym counted)
      (one_more service came left behind said response count now after talk
      (subst (λ b. IsExchange service (suc count) now left b after true response) (sym (some_same behind next same)) one)),
)
stays_on service now after came said left response behind count progress answered false talk responds first counted so = cc

is_last : {S : Type 0} (service : Offered S) (now after : S) (came said left response behind : List ℕ) (count : ℕ) (stays : Bool)
    → IsOpenTalk service came left said count → Responds service (suc count) now left (Some behind) after stays response
    → stays ≡ false → IsWholeTalk service came (said ++ response)
is_last service now after came said left response behind count true talk responds so = cc
is_last service now after came said left response behind count false talk last so = record {
  left = left;
  earlier = said;
  count = count;
  talk = talk;
  now = now;
  after = after;
  response = response;
  last = last;
  spelled = refl;
}

answered : {S : Type 0} (service : Offered S) (old new : Connection) (now after : S) (came said : List ℕ) → HasTalked service old came said
    → (a : IsAnswered service now after old new)
    → (a.stays ≡ true → HasTalked service new came said) × (a.stays ≡ false → HasClosed service new came said)
answered service old new now after came said (left, (used, resumes, is), talk) a =
    let one : Responds service (suc old.answered) now left (Some new.inbox) after a.stays a.text =
    subst (λ l. Responds service (suc old.answered) now l (Some new.inbox) after a.stays a.text) (sym is) (a.response used resumes) in
    let all : (said ++ old.outbox) ++ a.text ≡ said ++ new.outbox = then_response said old.outbox a.text new.outbox a.waits in (
      λ so.
          let on = stays_on service now after came (said ++ old.outbox) left a.text new.inbox old.answered new.progress new.answered a.stays talk one a.next a.counted so in
          (on.0, on.1, subst (λ t. IsOpenTalk service came on.0 t new.answered) all on.2),
      λ so. subst (λ t. IsWholeTalk service came t) all
          (is_last service now after came (said ++ old.outbox) left a.text new.inbox old.answered a.stays talk one so),
    )

waited : {S : Type 0} (service : Offered S) (old new : Connection) (came said : List ℕ) → HasTalked service old came said → Waits old new → HasTalked service new came said
waited service old new came said (left, (used, resumes, is), talk) w =
    let goes : (front : List ℕ) × (old.inbox ≡ front ++ new.inbox) × Resumes new.progress (used ++ front) = w.waits.advances used resumes in (
      left,
      (used ++ goes.0, goes.2, is ∙ ap (λ t. used ++ t) goes.1 ∙ sym (append_assoc used goes.0 new.inbox)),
      subst (λ t. IsOpenTalk service came left (said ++ t) new.answered) (sym w.outbox)
          (subst (λ n. IsOpenTalk service came left (said ++ old.outbox) n) (sym w.answered) talk),
    )

moved : (said waits front rest : List ℕ) → waits ≡ front ++ rest → said ++ waits ≡ (said ++ front) ++ rest
moved said waits front rest is = ap (λ t. said ++ t) is ∙ sym (append_assoc said front rest)

told : {S : Type 0} (service : Offered S) (old : Connection) (came said front rest : List ℕ) → old.outbox ≡ front ++ rest → HasTalked service old came said
    → HasTalked service (record old { outbox = rest }) came (said ++ front)
told service old came said front rest is (left, has, talk) =
    (left, has, subst (λ t. IsOpenTalk service came left t old.answered) (moved said old.outbox front rest is) talk)

told_last : {S : Type 0} (service : Offered S) (old : Connection) (came said front rest : List ℕ) → old.outbox ≡ front ++ rest → HasClosed service old came said
    → HasClosed service (record old { outbox = rest }) came (said ++ front)
told_last service old came said front rest is talk = subst (λ t. IsWholeTalk service came t) (moved said old.outbox front rest is) talk

pub are_talks : {S : Type 0} (service : Offered S) → AreTalks service
are_talks service = record {
  begins = λ connection new. begins service connection new;
  heard = λ connection came said more talked. heard service connection came said more talked;
  answered = λ old new now after came said talked a. answered service old new now after came said talked a;
  waited = λ old new came said talked w. waited service old new came said talked w;
  told = λ old came said front rest is talked. told service old came said front rest is talked;
  told_last = λ old came said front rest is talked. told_last service old came said front rest is talked;
}
