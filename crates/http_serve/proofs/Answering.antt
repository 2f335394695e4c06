-- The response to a request, by its method.
use Rattle.std.proofs.lemmas.Bool.Decides.{nat_tests}
use Rattle.std.proofs.Common.{◌≡◌, ◌∙◌, ℕ, suc, ◌+◌, ◌<◌, nat_lt, Bool, true, false, true≢false, not, ◌&&◌, List, codes, bytes_eq, slice_index, Option, Some, Result, Ok, Err, OnErr, arith, refl, sym, ap, subst, inl, inr}
use Rattle.http_read.specs.declared.incoming.Method.{Method}
use Rattle.http_read.specs.declared.incoming.Method.TheVariants.{Get, Head, Post}
use Rattle.http_read.specs.declared.incoming.Incoming.{Incoming}
use Rattle.http_read.specs.declared.incoming.Incoming.TheVariants as came
use Rattle.http_read.specs.declared.incoming.Request.{Request}
use Rattle.http_read.specs.Incoming.{Shows, request_of}
use Rattle.http_read.specs.Methods.{method_name}
use Rattle.http_read.specs.Requests.{Asked, Answers, asks}
use Rattle.http_serve.specs.Paths.{Resource, Names}
use Rattle.http_serve.specs.Replies.{Reply, closes, stays_behind, print_reply}
use Rattle.http_serve.specs.Responses.{asked_reply, refusal, RepliesToPost}
use Rattle.http_serve.specs.Services.{Offered}
use Rattle.http_serve.specs.Shown.{Written, written_in, write_as, closing}
use Rattle.http_serve.specs.declared.replies.Manner.{Manner}
use Rattle.http_serve.specs.declared.replies.Message.{Message}
use Rattle.http_serve.specs.Connections.{IsResponse, may_keep, may_stay}
use Rattle.http_serve.specs.Exchanges.{Responds, Finds}

-- the method isn't POST, and this tells whether it is HEAD
pub record Asks (method : List ℕ) (to_head : Bool) : Type 0 where
  pub posts_not : ¬ (method ≡ codes "POST")
  pub head : bytes_eq method (codes "HEAD") ≡ to_head

pub get_asks : (m : Method) → m ≡ Get → Asks (method_name m) false
get_asks m is = rw is (record { posts_not = λ e. absurd (omega (arith, ap (λ t. slice_index t 0) e)); head = refl })

pub head_asks : (m : Method) → m ≡ Head → Asks (method_name m) true
head_asks m is = rw is (record { posts_not = λ e. absurd (omega (arith, ap (λ t. slice_index t 0) e)); head = refl })

-- what is told of a message that is a reply in some manner
pub stays_of : (m : Message) (manner : Manner) (r : Reply) → written_in m ≡ write_as manner r → m.stays ≡ stays_behind manner.keep r
stays_of m manner r same = ap (λ (w : Written). w.stays) same

pub bytes_of : (m : Message) (manner : Manner) (r : Reply) → written_in m ≡ write_as manner r → m.bytes.items ≡ print_reply m.stays manner.to_head r
bytes_of m manner r same =
    ap (λ (w : Written). w.bytes) same ∙ ap (λ b. print_reply b manner.to_head r) (sym (stays_of m manner r same))

pub asked_responds : {S : Type 0} (service : Offered S) (now : S) (request : Asked) (to_head keep : Bool) (resource : Resource) (path : List ℕ) (m : Message)
    → Asks request.method to_head → path ≡ request.path → Names path resource
    → written_in m ≡ write_as (record { to_head = to_head; keep = keep }) (asked_reply service now path resource)
    → (reply : Reply) × (m.stays ≡ stays_behind keep reply) × IsResponse service now request now reply m.stays m.bytes.items
asked_responds service now request to_head keep resource path m asking same named written = (
  asked_reply service now path resource,
  stays_of m (record { to_head = to_head; keep = keep }) (asked_reply service now path resource) written,
  record {
    resource = resource;
    names = subst (λ p. Names p resource) same named;
    replies = inr (asking.posts_not, refl, ap (λ p. asked_reply service now p resource) same);
    spelled =
        bytes_of m (record { to_head = to_head; keep = keep }) (asked_reply service now path resource) written
        ∙ ap (λ b. print_reply m.stays b (asked_reply service now path resource)) (sym asking.head);
  },
)

pub posted_responds : {S : Type 0} (service : Offered S) (now after : S) (path body said lent : List ℕ) (method : Method) (kept keep : Bool) (resource : Resource) (reply : Reply) (m : Message)
    → method ≡ Post → said ≡ path → lent ≡ body → Names said resource → RepliesToPost service now lent resource after reply
    → written_in m ≡ write_as (record { to_head = false; keep = keep }) reply
    → (r : Reply) × (m.stays ≡ stays_behind keep r)
    × IsResponse service now (record { method = method_name method; path = path; keep = kept; body = body }) after r m.stays m.bytes.items
posted_responds service now after path body said lent method kept keep resource reply m is same whole named replied written = (
  reply,
  stays_of m (record { to_head = false; keep = keep }) reply written,
  rw is (record {
    resource = resource;
    names = subst (λ p. Names p resource) same named;
    replies = inl (refl, subst (λ b. RepliesToPost service now b resource after reply) whole replied);
    spelled = bytes_of m (record { to_head = false; keep = keep }) reply written;
  }),
)

pub on_err : {A E : Type 0} (r : Result A E) {P : Type 0} → P → OnErr r P
on_err (Ok x) p = tt
on_err (Err e) p = p

-- ---- from what was read to what is answered

-- whether the connection stays is told by the request's number, the client and the reply
pub kept_as : (n : ℕ) (keep kept : Bool) (reply : Reply) (stays : Bool) → kept ≡ (keep && nat_lt (n + 1) 100) → stays ≡ stays_behind kept reply
    → stays ≡ stays_behind (may_keep (suc n) keep) reply
kept_as n keep kept reply stays is stays_is =
    let next : n + 1 ≡ suc n = omega arith in
    stays_is ∙ ap (λ k. stays_behind k reply) (is ∙ ap (λ m. keep && nat_lt m 100) next)

both : (a b : Bool) → (a && b) ≡ true → (a ≡ true) × (b ≡ true)
both true b is = (refl, is)
both false b is = cc

below : (n : ℕ) → nat_lt n 100 ≡ true → n < 100
below n is = grind (arith, nat_tests)

-- where it stays, fewer than 100 were answered
pub few_answered : (n : ℕ) (keep kept : Bool) (reply : Reply) (stays : Bool) → kept ≡ (keep && nat_lt (n + 1) 100) → stays ≡ stays_behind kept reply
    → stays ≡ true → n + 1 < 100
few_answered n keep kept reply stays is stays_is so =
    let may : kept ≡ true = (both kept (not (closes reply.status)) (sym stays_is ∙ so)).0 in
    below (n + 1) (both keep (nat_lt (n + 1) 100) (sym is ∙ may)).1

-- the response to a request
request_responds : {S : Type 0} (service : Offered S) (n : ℕ) (now after : S) (request : Asked) (reply : Reply) (stays : Bool) (text i : List ℕ) (rest : Option (List ℕ))
    → (left : List ℕ) × Answers i (asks request left) × (rest ≡ Some left)
    → stays ≡ may_stay n request reply → IsResponse service now request after reply stays text
    → Responds service n now i rest after stays text
request_responds service n now after request reply true text i rest (left, asked, behind) is answered =
    (left, record { request = request; reply = reply; asked = asked; stays_is = is; answered = answered }, behind)
request_responds service n now after request reply false text i rest (left, asked, behind) is answered =
    inl (left, record { request = request; reply = reply; asked = asked; stays_is = is; answered = answered })

pub asked_finds : {S : Type 0} (service : Offered S) (n : ℕ) (now after : S) (incoming : Incoming) (request : Request) (reply : Reply) (m : Message)
    → incoming ≡ came.Request request → m.stays ≡ may_stay n (request_of request) reply
    → IsResponse service now (request_of request) after reply m.stays m.bytes.items
    → (input : List ℕ) (left : Option (List ℕ)) → Shows incoming left input → Finds service n now input left after (Some m)
asked_finds service n now after incoming request reply m is stays answered input left shows =
    request_responds service n now after (request_of request) reply m.stays m.bytes.items input left
    (subst (λ x. Shows x left input) is shows) stays answered

-- the response to a refused one is the last
pub refusal_finds : {S : Type 0} (service : Offered S) (n : ℕ) (now : S) (incoming : Incoming) (status : ℕ) (to_head : Bool) (m : Message)
    → incoming ≡ came.Refused status to_head → written_in m ≡ write_as (closing to_head) (refusal status)
    → (input : List ℕ) (left : Option (List ℕ)) → Shows incoming left input → Finds service n now input left now (Some m)
refusal_finds service n now incoming status to_head m is written input left shows =
    let closed : m.stays ≡ false = stays_of m (closing to_head) (refusal status) written in
    subst (λ b. Responds service n now input left now b m.bytes.items) (sym closed)
    (inr (status, to_head, subst (λ x. Shows x left input) is shows, refl, ap (λ (w : Written). w.bytes) written))

-- a connection doesn't stay after it
pub not_kept : {P : Type 0} (m : Message) (to_head : Bool) (status : ℕ) → written_in m ≡ write_as (closing to_head) (refusal status)
    → m.stays ≡ true → P
not_kept m to_head status written so =
    absurd (true≢false (sym so ∙ stays_of m (closing to_head) (refusal status) written))
