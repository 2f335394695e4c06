-- Receipts, as values are added and in words of places.
use Rattle.std.proofs.Common.{◌≡◌, ◌⊎◌, inl, inr, ℕ, ◌+◌, ◌<◌, List, [], ◌∷◌, ◌++◌, length, Bool, true, false, cond, Option, Some, None, Ok, Err, refl, sym, ap, ◌∙◌, subst, arith}
use Rattle.std.proofs.lemmas.Bool.{cases_order}
use Rattle.std.proofs.lemmas.Option.{none-some}
use Rattle.std.specs.List.{position_from}
use Rattle.std.specs.Option.{is_some}
use Rattle.site_ids.specs.declared.Ticket.{Ticket}
use Rattle.command.specs.Action.{Action, put_template, put_partial, put_data, put_route, put_redirect, remove, release, Order}
use Rattle.command.specs.Effective.{commands_of, has_ticket, is_same_ticket}
use Rattle.command.specs.Reading.{value_reading}
use Rattle.command.specs.declared.fault.CommandFault.{CommandFault}
use Rattle.content.specs.Answered.{applied, applied_after, answered}
use Rattle.content.specs.declared.applied.Applied.TheVariants.{Repeat}
use Rattle.release.specs.Receipts.{is_named, receipt_of, IsNamedAt, IsReceipt}
use Rattle.release.specs.Laws.{ReceiptIsFirst, ReceiptIsNone, ReceiptStays, RepeatHasReceipt}
use Rattle.content.proofs.Tickets.{is_same_ticket-is}
use Rattle.release.proofs.Positions.{not_named, named_by, position_more, has_position, position_first, position_none}

pub has_receipt : (ticket : Ticket) (values : List (List ℕ)) → has_ticket ticket (commands_of values) ≡ is_some (receipt_of ticket values)
has_receipt ticket values = has_position ticket 1 values

none_is : (o : Option ℕ) → is_some o ≡ false → o ≡ None
none_is None is = refl
none_is (Some i) is = cc

some_or : (o p : Option ℕ) → is_some o ≡ true → cond (is_some o) o p ≡ o
some_or (Some i) p is = refl
some_or None p is = cc

none_or : (o p : Option ℕ) → is_some o ≡ false → cond (is_some o) o p ≡ p
none_or None p is = refl
none_or (Some i) p is = cc

-- ---- one more value

-- a value that has not the ticket changes no receipt of it
unnamed_more : (ticket : Ticket) (values : List (List ℕ)) (v : List ℕ) → is_named ticket v ≡ false → receipt_of ticket (values ++ v ∷ []) ≡ receipt_of ticket values
unnamed_more ticket values v not =
    position_more (is_named ticket) 1 values v ∙ ap (λ b. cond (is_some (receipt_of ticket values)) (receipt_of ticket values) (cond b (Some (1 + length values)) None)) not
    ∙ or_none (receipt_of ticket values)
  where
    or_none : (o : Option ℕ) → cond (is_some o) o None ≡ o
    or_none None = refl
    or_none (Some i) = refl

pub no_command_keeps : (ticket : Ticket) (values : List (List ℕ)) (v : List ℕ) (fault : CommandFault) → value_reading v ≡ Err fault → receipt_of ticket (values ++ v ∷ []) ≡ receipt_of ticket values
no_command_keeps ticket values v fault reads = unnamed_more ticket values v (not_named ticket v fault reads)

-- a command whose ticket came earlier changes no receipt
pub repeat_keeps : (ticket : Ticket) (values : List (List ℕ)) (v : List ℕ) (o : Order) → value_reading v ≡ Ok o → is_some (receipt_of o.ticket values) ≡ true
    → receipt_of ticket (values ++ v ∷ []) ≡ receipt_of ticket values
repeat_keeps ticket values v o reads had = by (is_same_ticket o.ticket ticket) refl
  where
    by : (b : Bool) → is_same_ticket o.ticket ticket ≡ b → receipt_of ticket (values ++ v ∷ []) ≡ receipt_of ticket values
    by false is = unnamed_more ticket values v (named_by ticket v o reads ∙ is)
    by true is =
        position_more (is_named ticket) 1 values v
        ∙ some_or (receipt_of ticket values) (cond (is_named ticket v) (Some (1 + length values)) None) (subst (λ t. is_some (receipt_of t values) ≡ true) (is_same_ticket-is o.ticket ticket is) had)

-- a command with a new ticket has its own place as its receipt
pub new_receipt : (ticket : Ticket) (values : List (List ℕ)) (v : List ℕ) (o : Order) → value_reading v ≡ Ok o → is_some (receipt_of o.ticket values) ≡ false
    → receipt_of ticket (values ++ v ∷ []) ≡ cond (is_same_ticket o.ticket ticket) (Some (1 + length values)) (receipt_of ticket values)
new_receipt ticket values v o reads had = by (is_same_ticket o.ticket ticket) refl
  where
    by : (b : Bool) → is_same_ticket o.ticket ticket ≡ b → receipt_of ticket (values ++ v ∷ []) ≡ cond (is_same_ticket o.ticket ticket) (Some (1 + length values)) (receipt_of ticket values)
    by false is = unnamed_more ticket values v (named_by ticket v o reads ∙ is) ∙ sym (ap (λ b. cond b (Some (1 + length values)) (receipt_of ticket values)) is)
    by true is =
        position_more (is_named ticket) 1 values v
        ∙ none_or (receipt_of ticket values) (cond (is_named ticket v) (Some (1 + length values)) None) (subst (λ t. is_some (receipt_of t values) ≡ false) (is_same_ticket-is o.ticket ticket is) had)
        ∙ ap (λ b. cond b (Some (1 + length values)) None) (named_by ticket v o reads ∙ is) ∙ sym (ap (λ b. cond b (Some (1 + length values)) (receipt_of ticket values)) is)

-- ---- in words of places

pub receipt_is_first : ReceiptIsFirst
receipt_is_first ticket values i = (to, from)
  where
    to : receipt_of ticket values ≡ Some i → IsReceipt ticket values i
    to e = let f = position_first ticket 1 values i e in record { before = f.before; counted = omega (arith, f.counted); there = f.there; first = f.first }

    by : (o : Option ℕ) → receipt_of ticket values ≡ o → IsReceipt ticket values i → o ≡ Some i
    by None e is = absurd (position_none ticket 1 values e is.before is.there)
    by (Some k) e is = let f = position_first ticket 1 values k e in ap Some (one_first f.before f.there f.first f.counted (cases_order f.before is.before))
      where
        one_first : (b : ℕ) → IsNamedAt ticket values b → ((j : ℕ) → j < b → ¬ IsNamedAt ticket values j) → k ≡ 1 + b → (b ≡ is.before) ⊎ ((b < is.before) ⊎ (is.before < b)) → k ≡ i
        one_first b there first counted (inl e) = omega (arith, e, counted, is.counted)
        one_first b there first counted (inr (inl l)) = absurd (is.first b l there)
        one_first b there first counted (inr (inr g)) = absurd (first is.before g is.there)

    from : IsReceipt ticket values i → receipt_of ticket values ≡ Some i
    from is = by (receipt_of ticket values) refl is

pub receipt_is_none : ReceiptIsNone
receipt_is_none ticket values = (position_none ticket 1 values, λ none. by (receipt_of ticket values) refl none)
  where
    by : (o : Option ℕ) → receipt_of ticket values ≡ o → ((place : ℕ) → ¬ IsNamedAt ticket values place) → o ≡ None
    by None e none = refl
    by (Some i) e none = let f = position_first ticket 1 values i e in absurd (none f.before f.there)

position_stays : (ticket : Ticket) (more : List (List ℕ)) (k : ℕ) (vs : List (List ℕ)) (i : ℕ) → position_from (is_named ticket) k vs ≡ Some i → position_from (is_named ticket) k (vs ++ more) ≡ Some i
position_stays ticket more k [] i e = absurd (none-some i e)
position_stays ticket more k (v ∷ vs) i e = by (is_named ticket v) e (position_stays ticket more (k + 1) vs i)
  where
    by : (b : Bool) → cond b (Some k) (position_from (is_named ticket) (k + 1) vs) ≡ Some i
        → (position_from (is_named ticket) (k + 1) vs ≡ Some i → position_from (is_named ticket) (k + 1) (vs ++ more) ≡ Some i) → cond b (Some k) (position_from (is_named ticket) (k + 1) (vs ++ more)) ≡ Some i
    by true e later = e
    by false e later = later e

pub receipt_stays : ReceiptStays
receipt_stays ticket values more i e = position_stays ticket more 1 values i e

no_repeat : (a : Action) → ¬ (answered a ≡ Repeat)
no_repeat (put_template n b) e = cc
no_repeat (put_partial n b) e = cc
no_repeat (put_data n w) e = cc
no_repeat (put_route p s f) e = cc
no_repeat (put_redirect p t) e = cc
no_repeat (remove k n) e = cc
no_repeat release e = cc

pub repeat_has_receipt : RepeatHasReceipt
repeat_has_receipt values v o reads = (λ e. to (has_ticket o.ticket os) refl (sym is ∙ e), λ some. is ∙ ap (λ b. cond b Repeat (answered o.action)) (has_receipt o.ticket values ∙ some))
  where
    os : List Order
    os = commands_of values

    is : applied values v ≡ cond (has_ticket o.ticket os) Repeat (answered o.action)
    is = ap (applied_after os) reads

    to : (b : Bool) → has_ticket o.ticket os ≡ b → cond b Repeat (answered o.action) ≡ Repeat → is_some (receipt_of o.ticket values) ≡ true
    to true has e = sym (has_receipt o.ticket values) ∙ has
    to false has e = absurd (no_repeat o.action e)
