-- The first place of a command with a ticket.
use Rattle.std.proofs.Common.{◌≡◌, ℕ, zero, suc, ◌+◌, ◌<◌, List, [], ◌∷◌, ◌++◌, length, Bool, true, false, cond, ◌||◌, Option, Some, None, Result, Ok, Err, refl, sym, ap, ◌∙◌, arith, add-zero}
use Rattle.std.specs.List.{position_from}
use Rattle.std.specs.Option.{is_some}
use Rattle.site_ids.specs.declared.Ticket.{Ticket}
use Rattle.command.specs.Action.{Order}
use Rattle.command.specs.Effective.{commands_of, has_ticket, is_same_ticket}
use Rattle.command.specs.Reading.{value_reading}
use Rattle.command.specs.declared.fault.CommandFault.{CommandFault}
use Rattle.std.proofs.lemmas.Option.{none-some, same_Some}
use Rattle.release.specs.Receipts.{has_that, is_named, IsNamedAt}
use Rattle.content.proofs.Tickets.{is_same_ticket-is, same_by_order, same_itself}

pub not_named : (ticket : Ticket) (v : List ℕ) (fault : CommandFault) → value_reading v ≡ Err fault → is_named ticket v ≡ false
not_named ticket v fault reads = rw reads

pub named_by : (ticket : Ticket) (v : List ℕ) (o : Order) → value_reading v ≡ Ok o → is_named ticket v ≡ is_same_ticket o.ticket ticket
named_by ticket v o reads = rw reads

-- ---- one more value

abbrev Or : Bool → ℕ → Option ℕ → Option ℕ
Or found n o = cond (is_some o) o (cond found (Some n) None)

-- the first place, or that of the value after the list
pub position_more : {X : Type 0} (t : X → Bool) (k : ℕ) (xs : List X) (y : X)
    → position_from t k (xs ++ y ∷ []) ≡ cond (is_some (position_from t k xs)) (position_from t k xs) (cond (t y) (Some (k + length xs)) None)
position_more t k [] y = ap (λ n. cond (t y) (Some n) None) (sym (add-zero k))
position_more t k (x ∷ xs) y = step (t x) (position_more t (k + 1) xs y)
  where
    step : (b : Bool) → position_from t (k + 1) (xs ++ y ∷ []) ≡ Or (t y) (k + 1 + length xs) (position_from t (k + 1) xs)
        → cond b (Some k) (position_from t (k + 1) (xs ++ y ∷ [])) ≡ Or (t y) (k + suc (length xs)) (cond b (Some k) (position_from t (k + 1) xs))
    step true later = refl
    step false later = let far : k + 1 + length xs ≡ k + suc (length xs) = omega arith in later ∙ ap (λ n. Or (t y) n (position_from t (k + 1) xs)) far

abbrev Later : Ticket → ℕ → List (List ℕ) → Type 0
Later ticket k values = has_ticket ticket (commands_of values) ≡ is_some (position_from (is_named ticket) (k + 1) values)

-- a ticket is among the commands if and only if there is a receipt
pub has_position : (ticket : Ticket) (k : ℕ) (values : List (List ℕ)) → has_ticket ticket (commands_of values) ≡ is_some (position_from (is_named ticket) k values)
has_position ticket k [] = refl
has_position ticket k (v ∷ values) = heads (value_reading v) refl ∙ some (is_named ticket v) (has_position ticket (k + 1) values) refl
  where
    heads : (r : Result Order CommandFault) → value_reading v ≡ r → has_ticket ticket (commands_of (v ∷ values)) ≡ (has_that ticket r || has_ticket ticket (commands_of values))
    heads (Err fault) reads = rw reads refl
    heads (Ok o) reads = rw reads refl

    some : (b : Bool) → Later ticket k values → is_named ticket v ≡ b → (b || has_ticket ticket (commands_of values)) ≡ is_some (position_from (is_named ticket) k (v ∷ values))
    some true later is = rw is refl
    some false later is = rw is later

-- ---- in words of places

pub at_head : (ticket : Ticket) (v : List ℕ) (values : List (List ℕ)) → is_named ticket v ≡ true → IsNamedAt ticket (v ∷ values) zero
at_head ticket v values is = by (value_reading v) refl
  where
    by : (r : Result Order CommandFault) → value_reading v ≡ r → IsNamedAt ticket (v ∷ values) zero
    by (Err fault) reads = let never : true ≡ false = sym is ∙ not_named ticket v fault reads in cc
    by (Ok o) reads = record {
      value = v;
      order = o;
      there = refl;
      reads = reads;
      named = is_same_ticket-is o.ticket ticket (sym (named_by ticket v o reads) ∙ is);
    }

pub not_at_head : (ticket : Ticket) (v : List ℕ) (values : List (List ℕ)) → is_named ticket v ≡ false → ¬ IsNamedAt ticket (v ∷ values) zero
not_at_head ticket v values is at =
    let first : v ≡ at.value = same_Some v at.value at.there in
    let named : is_named ticket v ≡ true = named_by ticket v at.order (ap value_reading first ∙ at.reads) ∙ ap (λ t. is_same_ticket t ticket) at.named ∙ sym (same_by_order ticket ticket) ∙ same_itself ticket in
    let never : true ≡ false = sym named ∙ is in cc

pub at_next : (ticket : Ticket) (v : List ℕ) (values : List (List ℕ)) (place : ℕ) → IsNamedAt ticket values place → IsNamedAt ticket (v ∷ values) (suc place)
at_next ticket v values place at = record { value = at.value; order = at.order; there = at.there; reads = at.reads; named = at.named }

pub from_next : (ticket : Ticket) (v : List ℕ) (values : List (List ℕ)) (place : ℕ) → IsNamedAt ticket (v ∷ values) (suc place) → IsNamedAt ticket values place
from_next ticket v values place at = record { value = at.value; order = at.order; there = at.there; reads = at.reads; named = at.named }

pub nowhere : (ticket : Ticket) (place : ℕ) → ¬ IsNamedAt ticket [] place
nowhere ticket place at = none-some at.value at.there

-- the first place, if the list starts at k
pub record IsFirstFrom (ticket : Ticket) (k : ℕ) (values : List (List ℕ)) (i : ℕ) : Type 0 where
  pub before : ℕ
  pub counted : i ≡ k + before
  pub there : IsNamedAt ticket values before
  pub first : (j : ℕ) → j < before → ¬ IsNamedAt ticket values j

none_next : (ticket : Ticket) (v : List ℕ) (values : List (List ℕ)) → is_named ticket v ≡ false → ((place : ℕ) → ¬ IsNamedAt ticket values place) → (place : ℕ) → ¬ IsNamedAt ticket (v ∷ values) place
none_next ticket v values is none zero at = not_at_head ticket v values is at
none_next ticket v values is none (suc place) at = none place (from_next ticket v values place at)

first_next : (ticket : Ticket) (v : List ℕ) (values : List (List ℕ)) (before : ℕ) → is_named ticket v ≡ false → ((j : ℕ) → j < before → ¬ IsNamedAt ticket values j)
    → (j : ℕ) → j < suc before → ¬ IsNamedAt ticket (v ∷ values) j
first_next ticket v values before is none zero l at = not_at_head ticket v values is at
first_next ticket v values before is none (suc j) l at = none j (omega arith) (from_next ticket v values j at)

pub position_first : (ticket : Ticket) (k : ℕ) (values : List (List ℕ)) (i : ℕ) → position_from (is_named ticket) k values ≡ Some i → IsFirstFrom ticket k values i
position_first ticket k [] i e = absurd (none-some i e)
position_first ticket k (v ∷ values) i e = by (is_named ticket v) refl e (position_first ticket (k + 1) values i)
  where
    by : (b : Bool) → is_named ticket v ≡ b → cond b (Some k) (position_from (is_named ticket) (k + 1) values) ≡ Some i
        → (position_from (is_named ticket) (k + 1) values ≡ Some i → IsFirstFrom ticket (k + 1) values i) → IsFirstFrom ticket k (v ∷ values) i
    by true is e later = record {
      before = zero;
      counted = sym (same_Some k i e) ∙ sym (add-zero k);
      there = at_head ticket v values is;
      first = λ j l at. omega arith;
    }
    by false is e later =
        let f = later e in
        record {
          before = suc f.before;
          counted = omega (arith, f.counted);
          there = at_next ticket v values f.before f.there;
          first = first_next ticket v values f.before is f.first;
        }

pub position_none : (ticket : Ticket) (k : ℕ) (values : List (List ℕ)) → position_from (is_named ticket) k values ≡ None → (place : ℕ) → ¬ IsNamedAt ticket values place
position_none ticket k [] e place at = nowhere ticket place at
position_none ticket k (v ∷ values) e place at = by (is_named ticket v) refl e (position_none ticket (k + 1) values) place at
  where
    by : (b : Bool) → is_named ticket v ≡ b → cond b (Some k) (position_from (is_named ticket) (k + 1) values) ≡ None
        → (position_from (is_named ticket) (k + 1) values ≡ None → (place : ℕ) → ¬ IsNamedAt ticket values place) → (place : ℕ) → ¬ IsNamedAt ticket (v ∷ values) place
    by true is e later place at = absurd (none-some k (sym e))
    by false is e later place at = none_next ticket v values is (later e) place at
