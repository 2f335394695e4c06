-- What is before a space.
use Rattle.std.proofs.Common.{◌≡◌, ◌≢◌, ℕ, ◌+◌, ◌<◌, List, ◌∷◌, ◌++◌, length, take, drop, slice_index, codes, arith, sym, ap, subst, ◌∙◌, length-append}
use Rattle.std.proofs.lemmas.List.{get_or_append_left, get_or-take, append_cancel_left, drop_more, length-take-le, take-append-drop}
use Rattle.std.specs.Prelude.{Option, Some, None, MatchOption}
use Rattle.std.proofs.Math.Seq.{take-append_seam}
use Rattle.site_ids.specs.declared.Ticket.{Ticket}
use Rattle.http_read.specs.Progress as reading
use Rattle.http_serve.specs.Fronts.{AsksReceipt, Gets, GetsReceipt}
use Rattle.http_serve.specs.ConnectionSteps.{MayAnswer}
use Rattle.http_serve.specs.Paths.{IsTicketPath}
use Rattle.http_serve.specs.declared.connection.Connection.{Connection}
use Rattle.http_serve.proofs.OneResource.{one_ticket}
use Rattle.http_serve.proofs.Slashes.{byte_there}

-- without a space nothing is before one
pub no_target : (bytes rest target : List ℕ) → bytes ≡ codes "GET " ++ rest → ((k : ℕ) → k < length rest → slice_index rest k ≢ 32) → Gets bytes target → ⊥
no_target bytes rest target is none gets =
    let same : rest ≡ target ++ 32 ∷ gets.rest = append_cancel_left (codes "GET ") rest (target ++ 32 ∷ gets.rest) (sym is ∙ gets.spelled) in
    let there : slice_index rest (length target) ≡ 32 = ap (λ t. slice_index t (length target)) same ∙ byte_there 32 target gets.rest in
    none (length target) (omega (arith, ap length same, length-append target (32 ∷ gets.rest))) there

-- one target is before the first one
pub one_target : (bytes s t : List ℕ) → Gets bytes s → Gets bytes t → s ≡ t
one_target bytes s t one other =
    let e : s ++ 32 ∷ one.rest ≡ t ++ 32 ∷ other.rest = append_cancel_left (codes "GET ") (s ++ 32 ∷ one.rest) (t ++ 32 ∷ other.rest) (sym one.spelled ∙ other.spelled) in
    let a : ¬ (length s < length t) = λ h. other.plain (length s) h
    (sym (get_or_append_left t (32 ∷ other.rest) 0 (length s) h) ∙ ap (λ z. slice_index z (length s)) (sym e) ∙ byte_there 32 s one.rest) in
    let b : ¬ (length t < length s) = λ h. one.plain (length t) h
    (sym (get_or_append_left s (32 ∷ one.rest) 0 (length t) h) ∙ ap (λ z. slice_index z (length t)) e ∙ byte_there 32 t other.rest) in
    let same : length s ≡ length t = omega (arith, a, b) in
    sym (take-append_seam s (32 ∷ one.rest)) ∙ ap (take (length s)) e ∙ ap (λ k. take k (t ++ 32 ∷ other.rest)) same ∙ take-append_seam t (32 ∷ other.rest)

-- and one ticket
pub one_receipt : (bytes : List ℕ) (t u : Ticket) → GetsReceipt bytes t → GetsReceipt bytes u → t ≡ u
one_receipt bytes t u one other =
    one_ticket (codes "/_ticket/") other.target t u (subst (λ z. IsTicketPath (codes "/_ticket/") z t) (one_target bytes one.target other.target one.gets other.gets) one.path) other.path

-- what is before the first space is got
pub target_before : (bytes rest : List ℕ) (end : ℕ) → bytes ≡ codes "GET " ++ rest → end < length rest → slice_index rest end ≡ 32
    → ((k : ℕ) → k < end → slice_index rest k ≢ 32) → Gets bytes (take end rest)
target_before bytes rest end is inside space first =
    let behind : drop end rest ≡ 32 ∷ drop (end + 1) rest = drop_more rest end 0 inside ∙ ap (λ b. b ∷ drop (end + 1) rest) space in
    let long : length (take end rest) ≡ end = length-take-le end rest (omega (arith, inside)) in record {
      rest = drop (end + 1) rest;
      spelled = is ∙ ap (λ t. codes "GET " ++ t) (sym (take-append-drop end rest) ∙ ap (λ t. take end rest ++ t) behind);
      plain = λ k below here.
          let inner : k < end = omega (arith, below, long) in
          first k inner (sym (get_or-take end rest k 0 inner) ∙ here);
    }

-- the receipt that a target names is the one that is asked for
pub receipt_got : (bytes target : List ℕ) (found : Option Ticket) → Gets bytes target
    → MatchOption found ((t : Ticket) → ¬ (IsTicketPath (codes "/_ticket/") target t)) (IsTicketPath (codes "/_ticket/") target)
    → MatchOption found ((t : Ticket) → ¬ (GetsReceipt bytes t)) (GetsReceipt bytes)
receipt_got bytes target None gets none = λ t r. none t (subst (λ z. IsTicketPath (codes "/_ticket/") z t) (one_target bytes r.target target r.gets gets) r.path)
receipt_got bytes target (Some t) gets path = record { target = target; gets = gets; path = path }

-- and so of a connection that may answer, and holds its request as it came
pub connection_asks : (connection : Connection) (bytes : List ℕ) (found : Option Ticket) → MayAnswer connection → reading.awaited_of connection.progress ≡ None → bytes ≡ connection.inbox
    → MatchOption found ((t : Ticket) → ¬ (GetsReceipt bytes t)) (GetsReceipt bytes)
    → MatchOption found ((t : Ticket) → ¬ (AsksReceipt connection t)) (AsksReceipt connection)
connection_asks connection bytes None may unused is none = λ t asks. none t (subst (λ z. GetsReceipt z t) (sym is) asks.gets)
connection_asks connection bytes (Some t) may unused is gets = record { may = may; unused = unused; gets = subst (λ z. GetsReceipt z t) is gets }

-- a connection asks for one receipt
pub one_asked : (connection : Connection) (t u : Ticket) → AsksReceipt connection t → AsksReceipt connection u → t ≡ u
one_asked connection t u one other = one_receipt connection.inbox t u one.gets other.gets
