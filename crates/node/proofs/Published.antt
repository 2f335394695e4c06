-- Tickets kept beside values that are published.
use Rattle.std.proofs.Common.{◌≡◌, ◌⊎◌, inl, inr, ⊎_elim, ◌||◌, ℕ, suc, ◌+◌, ◌<◌, List, [], ◌∷◌, ◌++◌, length, take, get_or, Bool, true, false, cond, Option, Some, None, Result, Ok, Err, refl, sym, ap, subst, ◌∙◌}
use Rattle.std.proofs.lemmas.List.{length-append, take_more}
use Rattle.std.specs.BTreeSet.{BTreeSet, Updates}
use Rattle.std.specs.List.{list_any}
use Rattle.std.specs.Option.{is_some}
use Rattle.std.specs.BTreeMap.{is_at}
use Rattle.site_ids.specs.declared.Ticket.{Ticket}
use Rattle.chosen_log.specs.Log.{value_at}
use Rattle.command.specs.Action.{Order}
use Rattle.command.specs.Effective.{is_same_ticket}
use Rattle.command.specs.Reading.{value_reading}
use Rattle.command.specs.declared.fault.CommandFault.{CommandFault}
use Rattle.content.specs.Standing.{is_held}
use Rattle.content.proofs.Tickets.{ticket_cmp, same_by_order, is_same_ticket-is, same_itself}
use Rattle.release.specs.Receipts.{receipt_of}
use Rattle.release.proofs.Receipts.{new_receipt, receipt_is_first, receipt_stays}
use Rattle.release.proofs.Positions.{named_by}
use Rattle.node.specs.Knowing.{AreKnown}
use Rattle.node.specs.Nodes.{Value, Node, BeginsKnown}
use Rattle.node.specs.Published.{AreHeldWith}
use Rattle.node.specs.Tickets.{HasTicket, ticket_in, ticket_by}
use Rattle.node.specs.declared.known.Known.{Known}
use Rattle.node.proofs.TicketSets.{holds_by_order}

either_true : (x y : Bool) → (x || true) ≡ (y || true)
either_true true true = refl
either_true true false = refl
either_true false true = refl
either_true false false = refl

or_false : (x : Bool) → (x || false) ≡ x
or_false true = refl
or_false false = refl

-- a receipt stays, whatever is published after it
some_stays : (t : Ticket) (published more : List Value) → is_some (receipt_of t published) ≡ true → is_some (receipt_of t (published ++ more)) ≡ true
some_stays t published more = by (receipt_of t published) refl
  where
    by : (o : Option ℕ) → receipt_of t published ≡ o → is_some o ≡ true → is_some (receipt_of t (published ++ more)) ≡ true
    by (Some i) e had = ap is_some (receipt_stays t published more i e)
    by None e had = cc

pub held_with_more : (old new : BTreeSet Ticket) (published more : List Value) → AreHeldWith old new published → AreHeldWith old new (published ++ more)
held_with_more old new published more are t = by (is_some (receipt_of t published)) refl (are t)
  where
    now : Bool
    now = is_some (receipt_of t (published ++ more))

    by : (b : Bool) → is_some (receipt_of t published) ≡ b → (is_held t new.keys || b) ≡ (is_held t old.keys || b) → (is_held t new.keys || now) ≡ (is_held t old.keys || now)
    by true had e = rw (some_stays t published more had) (either_true (is_held t new.keys) (is_held t old.keys))
    by false had e = ap (λ b. b || now) (sym (or_false (is_held t new.keys)) ∙ e ∙ or_false (is_held t old.keys))

pub held_on : (old middle new : BTreeSet Ticket) (published : List Value) → AreHeldWith old middle published → AreHeldWith middle new published → AreHeldWith old new published
held_on old middle new published first second t = second t ∙ first t

-- a ticket that has a receipt is taken out
pub taken_out : (k : Ticket) (old new : BTreeSet Ticket) (published : List Value) → Updates ticket_cmp old new k false → is_some (receipt_of k published) ≡ true → AreHeldWith old new published
taken_out k old new published updates had t = by (is_same_ticket k t) refl
  where
    left : is_held t new.keys ≡ cond (is_same_ticket k t) false (is_held t old.keys)
    left =
        sym (holds_by_order t new.keys) ∙ updates.0 t ∙ ap (λ b. cond b false (list_any (is_at (ticket_cmp t)) old.keys)) (same_by_order k t)
        ∙ ap (cond (is_same_ticket k t) false) (holds_by_order t old.keys)

    by : (b : Bool) → is_same_ticket k t ≡ b → (is_held t new.keys || is_some (receipt_of t published)) ≡ (is_held t old.keys || is_some (receipt_of t published))
    by true same = rw (subst (λ x. is_some (receipt_of x published) ≡ true) (is_same_ticket-is k t same) had) (either_true (is_held t new.keys) (is_held t old.keys))
    by false apart = ap (λ b. b || is_some (receipt_of t published)) (left ∙ ap (λ b. cond b false (is_held t old.keys)) apart)

-- the ticket of a command has a receipt once the command is published
pub fed_receipt : (k : Ticket) (published : List Value) (v : Value) → ticket_in v ≡ Some k → is_some (receipt_of k (published ++ v ∷ [])) ≡ true
fed_receipt k published v has = by (value_reading v) refl has
  where
    named : (o : Order) → value_reading v ≡ Ok o → (b : Bool) → is_some (receipt_of o.ticket published) ≡ b → is_some (receipt_of o.ticket (published ++ v ∷ [])) ≡ true
    named o reads true had = some_stays o.ticket published (v ∷ []) had
    named o reads false none =
        ap is_some (new_receipt o.ticket published v o reads none) ∙ ap (λ b. is_some (cond b (Some (1 + length published)) (receipt_of o.ticket published))) (sym (same_by_order o.ticket o.ticket) ∙ same_itself o.ticket)

    by : (r : Result Order CommandFault) → value_reading v ≡ r → ticket_by r ≡ Some k → is_some (receipt_of k (published ++ v ∷ [])) ≡ true
    by (Ok o) reads is = subst (λ (t : Ticket). is_some (receipt_of t (published ++ v ∷ [])) ≡ true) (same o.ticket k is) (named o reads (is_some (receipt_of o.ticket published)) refl)
      where
        same : (a b : Ticket) → Some a ≡ Some b → a ≡ b
        same a b e = cc
    by (Err fault) reads is = absurd (cc)

-- the values are more, and a ticket that has a receipt is taken out
pub fed_more : (old middle new : BTreeSet Ticket) (before now more : List Value) → AreHeldWith old middle before → now ≡ before ++ more → AreHeldWith middle new now → AreHeldWith old new now
fed_more old middle new before now more first grows second =
    held_on old middle new now (subst (AreHeldWith old middle) (sym grows) (held_with_more old middle before more first)) second

-- a beginning and the next value are one
pub begins_more : (xs now vs : List Value) (i : ℕ) (v : Value) → xs ≡ take (length xs) vs → i ≡ length xs → i < length vs → v ≡ get_or vs i v → now ≡ xs ++ v ∷ [] → now ≡ take (length now) vs
begins_more xs now vs i v begins here within is grows =
    let long : length now ≡ i + 1 = ap length grows ∙ length-append xs (v ∷ []) ∙ ap (λ n. n + 1) (sym here) in
    grows ∙ ap (λ ys. ys ++ v ∷ []) begins ∙ ap (λ n. take n vs ++ v ∷ []) (sym here) ∙ ap (λ x. take i vs ++ x ∷ []) is ∙ sym (take_more vs i v within) ∙ ap (λ n. take n vs) (sym long)

-- ---- the values known, when more of them are published

receipt_known : (s : Node) (published : List Value) (t : Ticket) → BeginsKnown published s → is_some (receipt_of t published) ≡ true → HasTicket s.known t
receipt_known s published t begins = by (receipt_of t published) refl
  where
    by : (o : Option ℕ) → receipt_of t published ≡ o → is_some o ≡ true → HasTicket s.known t
    by None e had = absurd (cc)
    by (Some i) e had =
        let first = (receipt_is_first t published i).0 e in
        let at = first.there in
        (suc first.before, at.value, begins first.before at.value at.there, named_by t at.value at.order at.reads ∙ subst (λ x. is_same_ticket x t ≡ true) (sym at.named) (sym (same_by_order t t) ∙ same_itself t))

or_cases : (x y : Bool) → (x || y) ≡ true → (x ≡ true) ⊎ (y ≡ true)
or_cases true y e = inl refl
or_cases false y e = inr e

pub or_left : (x y : Bool) → x ≡ true → (x || y) ≡ true
or_left true y e = refl
or_left false y e = cc

pub or_right : (x y : Bool) → y ≡ true → (x || y) ≡ true
or_right true y e = refl
or_right false y e = e

pub known_published : (old new : Known) (s : Node) (before more now : List Value) → new.log ≡ old.log → now ≡ before ++ more → AreHeldWith old.tickets new.tickets now → BeginsKnown now s → AreKnown old before s.known → AreKnown new now s.known
known_published old new s before more now log grows held begins are = record {
  values = λ i. ap (λ l. value_at l i) log ∙ are.values i;
  tickets = λ t. (
    λ e. ⊎_elim (λ kept. (are.tickets t).0 (or_left (is_held t old.tickets.keys) (is_some (receipt_of t before)) kept)) (λ had. receipt_known s now t begins had)
        (or_cases (is_held t old.tickets.keys) (is_some (receipt_of t now)) (sym (held t) ∙ e)),
    λ has. held t
        ∙ ⊎_elim (or_left (is_held t old.tickets.keys) (is_some (receipt_of t now)))
        (λ had. or_right (is_held t old.tickets.keys) (is_some (receipt_of t now)) (subst (λ vs. is_some (receipt_of t vs) ≡ true) (sym grows) (some_stays t before more had)))
        (or_cases (is_held t old.tickets.keys) (is_some (receipt_of t before)) ((are.tickets t).1 has)),
  );
}
