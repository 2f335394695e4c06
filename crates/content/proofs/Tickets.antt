-- The tickets of a list of commands, and of a site.
use Rattle.std.proofs.Common.{◌≡◌, ◌≢◌, ◌⊎◌, inl, inr, ◌==◌, ◌&&◌, ℕ, List, [], ◌∷◌, ◌++◌, Bool, true, false, cond, ◌||◌, Option, Some, Ordering, Less, Equal, Greater, nat_cmp, nat_lt, ◌<◌, arith, refl, sym, ap, ◌∙◌}
use Rattle.std.proofs.lemmas.Bool.Decides.{eqb_tells, Decides-ltb, Decides-eqb, nat_tests}
use Rattle.std.specs.Ordering.{is_eq, match_ordering, ordering_then}
use Rattle.std.specs.BTreeMap.{is_at}
use Rattle.std.specs.Option.{is_some}
use Rattle.shared_map.specs.Entries.{put, find}
use Rattle.site_ids.specs.declared.Ticket.{Ticket}
use Rattle.command.specs.Action.{Order}
use Rattle.command.specs.Effective.{is_same_ticket, has_ticket}
use Rattle.content.specs.View.{keys}
use Rattle.content.specs.Standing.{is_held}

-- the commands and one more have its ticket, and those that they had
pub has_more : (ticket : Ticket) (os : List Order) (o : Order) → has_ticket ticket (os ++ o ∷ []) ≡ cond (is_same_ticket o.ticket ticket) true (has_ticket ticket os)
has_more ticket [] o = one (is_same_ticket o.ticket ticket)
  where
    one : (b : Bool) → (b || false) ≡ cond b true false
    one true = refl
    one false = refl
has_more ticket (x ∷ os) o = ap (λ b. is_same_ticket x.ticket ticket || b) (has_more ticket os o) ∙ joined (is_same_ticket x.ticket ticket) (is_same_ticket o.ticket ticket) (has_ticket ticket os)
  where
    joined : (a b c : Bool) → (a || cond b true c) ≡ cond b true (a || c)
    joined true true c = refl
    joined true false c = refl
    joined false true c = refl
    joined false false c = refl

ticket_of : (a b : Ticket) → a.editor ≡ b.editor → a.number ≡ b.number → a ≡ b
ticket_of a b e n = ap (λ (x : ℕ). record { editor = x; number = a.number }) e ∙ ap (λ (x : ℕ). record { editor = b.editor; number = x }) n

pub is_same_ticket-is : (a b : Ticket) → is_same_ticket a b ≡ true → a ≡ b
is_same_ticket-is a b same = by (eqb_tells a.editor b.editor) (eqb_tells a.number b.number)
  where
    by : ((a.editor == b.editor) ≡ true) × (a.editor ≡ b.editor) ⊎ ((a.editor == b.editor) ≡ false) × (a.editor ≢ b.editor)
        → ((a.number == b.number) ≡ true) × (a.number ≡ b.number) ⊎ ((a.number == b.number) ≡ false) × (a.number ≢ b.number) → a ≡ b
    by (inl e) (inl n) = ticket_of a b e.1 n.1
    by (inl e) (inr n) = let never : false ≡ true = sym (ap (λ x. (a.editor == b.editor) && x) n.0 ∙ ap (λ x. x && false) e.0) ∙ same in cc
    by (inr e) n = let never : false ≡ true = sym (ap (λ x. x && (a.number == b.number)) e.0) ∙ same in cc

-- ---- the order of tickets

abbrev pub ticket_cmp : Ticket → Ticket → Ordering
ticket_cmp a b = ordering_then (nat_cmp a.editor b.editor) (nat_cmp a.number b.number)

equal_then : (x y : ℕ) (next : Ordering) → is_eq (ordering_then (nat_cmp x y) next) ≡ ((x == y) && is_eq next)
equal_then x y next = by (nat_lt x y) (x == y) refl refl
  where
    by : (l e : Bool) → nat_lt x y ≡ l → (x == y) ≡ e → is_eq (ordering_then (cond (nat_lt x y) Less (cond (x == y) Equal Greater)) next) ≡ ((x == y) && is_eq next)
    by true true l e =
        let below : x < y = (Decides-ltb x y).0 l in
        let same : x ≡ y = (Decides-eqb x y).0 e in
        absurd (omega arith)
    by true false l e = rw (l, e)
    by false true l e = rw (l, e)
    by false false l e = rw (l, e)

equal_last : (x y : ℕ) → is_eq (nat_cmp x y) ≡ (x == y)
equal_last x y = whole (nat_cmp x y) ∙ equal_then x y Equal ∙ alone (x == y)
  where
    whole : (r : Ordering) → is_eq r ≡ is_eq (ordering_then r Equal)
    whole Less = refl
    whole Equal = refl
    whole Greater = refl

    alone : (b : Bool) → (b && true) ≡ b
    alone true = refl
    alone false = refl

pub same_by_order : (a b : Ticket) → is_eq (ticket_cmp a b) ≡ is_same_ticket a b
same_by_order a b = equal_then a.editor b.editor (nat_cmp a.number b.number) ∙ ap (λ t. (a.editor == b.editor) && t) (equal_last a.number b.number)

pub same_itself : (a : Ticket) → is_eq (ticket_cmp a a) ≡ true
same_itself a =
    let editor : (a.editor == a.editor) ≡ true = (Decides-eqb a.editor a.editor).1 refl in
    let number : (a.number == a.number) ≡ true = (Decides-eqb a.number a.number).1 refl in
    same_by_order a a ∙ rw (editor, number)

-- ---- the tickets of a map

abbrev pub Entries : Type 0
Entries = List (Ticket × Unit {0})

some_or : (b h : Bool) (x : Unit {0}) (r : Option (Unit {0})) → is_some r ≡ h → is_some (cond b (Some x) r) ≡ (b || h)
some_or true h x r is = refl
some_or false h x r is = is

-- what the map finds is held
pub found_held : (t : Ticket) (es : Entries) → is_some (find (ticket_cmp t) es) ≡ is_held t (keys es)
found_held t [] = refl
found_held t (e ∷ es) =
    some_or (is_at (ticket_cmp t) e.0) (is_held t (keys es)) e.1 (find (ticket_cmp t) es) (found_held t es) ∙ ap (λ b. b || is_held t (keys es)) (same_by_order t e.0)

flipped : (a b : ℕ) → (a == b) ≡ (b == a)
flipped a b = grind (arith, nat_tests)

same_flipped : (a b : Ticket) → is_same_ticket a b ≡ is_same_ticket b a
same_flipped a b = ap (λ x. x && (a.number == b.number)) (flipped a.editor b.editor) ∙ ap (λ x. (b.editor == a.editor) && x) (flipped a.number b.number)

or_cond : (b c : Bool) → (b || c) ≡ cond b true c
or_cond true c = refl
or_cond false c = refl

again : (b c : Bool) → (b || c) ≡ cond b true (b || c)
again true c = refl
again false c = refl

-- one more ticket is held, and those that were
pub put_held : (k t : Ticket) (es : Entries) → is_held t (keys (put ticket_cmp (k, tt) es)) ≡ cond (is_same_ticket k t) true (is_held t (keys es))
put_held k t [] = ap (λ b. b || false) (same_flipped t k) ∙ or_cond (is_same_ticket k t) false
put_held k t (e ∷ es) = by (ticket_cmp k e.0) refl (put_held k t es)
  where
    later : (a b c : Bool) → (a || cond b true c) ≡ cond b true (a || c)
    later true true c = refl
    later true false c = refl
    later false true c = refl
    later false false c = refl

    by : (r : Ordering) → ticket_cmp k e.0 ≡ r → is_held t (keys (put ticket_cmp (k, tt) es)) ≡ cond (is_same_ticket k t) true (is_held t (keys es))
        → is_held t (keys (match_ordering r ((k, tt) ∷ e ∷ es) ((k, tt) ∷ es) (e ∷ put ticket_cmp (k, tt) es))) ≡ cond (is_same_ticket k t) true (is_same_ticket t e.0 || is_held t (keys es))
    by Less is more = ap (λ b. b || (is_same_ticket t e.0 || is_held t (keys es))) (same_flipped t k) ∙ or_cond (is_same_ticket k t) (is_same_ticket t e.0 || is_held t (keys es))
    by Equal is more =
        let same : k ≡ e.0 = is_same_ticket-is k e.0 (sym (same_by_order k e.0) ∙ ap is_eq is) in
        ap (λ b. b || is_held t (keys es)) (same_flipped t k) ∙ again (is_same_ticket k t) (is_held t (keys es))
        ∙ ap (λ b. cond (is_same_ticket k t) true (b || is_held t (keys es))) (same_flipped k t ∙ ap (is_same_ticket t) same)
    by Greater is more = ap (λ b. is_same_ticket t e.0 || b) more ∙ later (is_same_ticket t e.0) (is_same_ticket k t) (is_held t (keys es))
