-- Sets of tickets, in their order.
use Rattle.std.proofs.Common.{◌≡◌, not, List, [], ◌∷◌, Bool, true, false, cond, ◌||◌, Ordering, Less, Equal, Greater, refl, sym, ◌∙◌, ap}
use Rattle.std.specs.List.{list_any}
use Rattle.std.specs.Ordering.{is_eq, match_ordering}
use Rattle.std.specs.Set.{remove_key}
use Rattle.std.specs.BTreeMap.{is_at}
use Rattle.std.specs.BTreeSet.{BTreeSet, insert_key, Updates}
use Rattle.site_ids.specs.declared.Ticket.{Ticket}
use Rattle.command.specs.Effective.{is_same_ticket}
use Rattle.content.specs.Standing.{is_held}
use Rattle.content.proofs.Tickets.{ticket_cmp, same_by_order}

-- a test that answers as another at each item finds the same
pub any_same : {K : Type 0} (p q : K → Bool) → ((k : K) → p k ≡ q k) → (ks : List K) → list_any p ks ≡ list_any q ks
any_same p q h [] = refl
any_same p q h (k ∷ ks) = rw (h k, any_same p q h ks)

-- a new key that is put in and taken out again leaves the keys as they were
pub in_and_out : {K : Type 0} (cmp : K → K → Ordering) (k : K) (ks : List K) → is_eq (cmp k k) ≡ true → list_any (is_at (cmp k)) ks ≡ false → remove_key (is_at (cmp k)) (insert_key cmp ks k) ≡ ks
in_and_out cmp k [] same none = rw same
in_and_out cmp k (x ∷ ks) same none = by (cmp k x) refl (in_and_out cmp k ks same)
  where
    by : (r : Ordering) → cmp k x ≡ r → (list_any (is_at (cmp k)) ks ≡ false → remove_key (is_at (cmp k)) (insert_key cmp ks k) ≡ ks)
        → remove_key (is_at (cmp k)) (match_ordering (cmp k x) (k ∷ x ∷ ks) (x ∷ ks) (x ∷ insert_key cmp ks k)) ≡ x ∷ ks
    by Less e more = rw (e, same)
    by Equal e more = let found : true ≡ false = ap (λ r. is_eq r || list_any (is_at (cmp k)) ks) (sym e) ∙ none in cc
    by Greater e more = let later : list_any (is_at (cmp k)) ks ≡ false = ap (λ r. is_eq r || list_any (is_at (cmp k)) ks) (sym e) ∙ none in rw (e, e) (ap (λ ys. x ∷ ys) (more later))

pub holds_by_order : (t : Ticket) (ks : List Ticket) → list_any (is_at (ticket_cmp t)) ks ≡ is_held t ks
holds_by_order t ks = any_same (is_at (ticket_cmp t)) (is_same_ticket t) (same_by_order t) ks

pub inserted : (k : Ticket) (old new : BTreeSet Ticket) → Updates ticket_cmp old new k true → (t : Ticket) → is_held t new.keys ≡ cond (is_same_ticket k t) true (is_held t old.keys)
inserted k old new updates t =
    sym (holds_by_order t new.keys) ∙ updates.0 t ∙ ap (λ b. cond b true (list_any (is_at (ticket_cmp t)) old.keys)) (same_by_order k t) ∙ ap (cond (is_same_ticket k t) true) (holds_by_order t old.keys)

-- whether it was there, from the answer whether it is new
pub answered_by : (added had b : Bool) → added ≡ not had → added ≡ b → had ≡ not b
answered_by added true true e f = sym f ∙ e
answered_by added false false e f = sym f ∙ e
answered_by added true false e f = refl
answered_by added false true e f = refl
