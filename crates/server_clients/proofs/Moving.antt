-- One thing done to clients, one after another.
use Rattle.std.proofs.Common.{◌≡◌, ◌+◌, ◌<◌, ◌||◌, ℕ, Bool, true, false, List, length, length-set, get_or, set, ap, arith, below_more, refl, sym, subst, ◌∙◌}
use Rattle.std.specs.Prelude.{Result, Ok, Err, OnErr}
use Rattle.std.proofs.lemmas.Bool.{false≢true}
use Rattle.std.proofs.lemmas.List.{get_or-set_other, get_or-set_same, set-get_or}
use Rattle.server_clients.specs.Moving.{AreDone}

pub on_err : {T E P : Type 0} (r : Result T E) → P → OnErr r P
on_err (Ok x) p = tt
on_err (Err e) p = p

or_left : (a b : Bool) → a ≡ true → (a || b) ≡ true
or_left true b is = refl
or_left false b is = absurd (false≢true is)

or_right : (a b : Bool) → b ≡ true → (a || b) ≡ true
or_right true b is = refl
or_right false b is = is

module _ {C : Type 0} (Once : Bool → C → C → Type 0) where
  pub none_done : (clients : List C) → AreDone Once 0 false clients clients
  none_done clients = record {
    as_many = refl;
    each = λ i below none. absurd (omega (arith, below));
    some = λ is. absurd (false≢true is);
    others = λ i more none. refl;
  }

  -- what was done to client i is done still, where another one is written
  still : (one : Bool) (old now : List C) (k i : ℕ) (y none : C) → i < k
      → Once one (get_or old i none) (get_or now i none)
      → Once one (get_or old i none) (get_or (set now k y) i none)
  still one old now k i y none below once =
      subst (Once one (get_or old i none)) (sym (get_or-set_other now k i y none (omega (arith, below)))) once

  -- it is done to client k, which is written
  here : (one : Bool) (old now : List C) (k : ℕ) (x y none : C) → k < length now
      → get_or old k none ≡ x → Once one x y → Once one (get_or old k none) (get_or (set now k y) k none)
  here one old now k x y none within at once =
      subst (λ s. Once one s (get_or (set now k y) k none)) (sym at)
      (subst (Once one x) (sym (get_or-set_same now k y none within)) once)

  -- one client more
  some_more : (k : ℕ) (did one : Bool) (old now : List C) (x y : C) → k < length now
      → ((none : C) → get_or old k none ≡ x) → AreDone Once k did old now → Once one x y
      → (did || one) ≡ true → (i : ℕ) × (i < k + 1)
      × ((none : C) → Once true (get_or old i none) (get_or (set now k y) i none))
  some_more k true one old now x y within at done once is =
      let first = done.some refl in
      (first.0, omega (arith, first.1), λ none. still true old now k first.0 y none first.1 (first.2 none))
  some_more k false one old now x y within at done once is =
      let did : Once true x y = subst (λ b. Once b x y) is once in
      (k, omega arith, λ none. here true old now k x y none within (at none) did)

  pub one_done : (k : ℕ) (did one : Bool) (old now : List C) (x y : C) → k < length now
      → ((none : C) → get_or old k none ≡ x) → AreDone Once k did old now → Once one x y
      → AreDone Once (k + 1) (did || one) old (set now k y)
  one_done k did one old now x y within at done once =
      let Each : ℕ → Type 0 = λ i. (none : C) → (b : Bool)
      × Once b (get_or old i none) (get_or (set now k y) i none) × (b ≡ true → (did || one) ≡ true) in
      record {
        as_many = length-set now k y ∙ done.as_many;
        each = below_more Each k
            (λ i below none.
            let e = done.each i below none in
            (e.0, still e.0 old now k i y none below e.1, λ is. or_left did one (e.2 is)))
            (λ none. (one, here one old now k x y none within (at none) once, or_right did one));
        some = some_more k did one old now x y within at done once;
        others = λ i more none.
            get_or-set_other now k i y none (omega (arith, more)) ∙ done.others i (omega (arith, more)) none;
      }

  -- one of them is written as it was
  pub still_done : (k : ℕ) (did : Bool) (old now : List C) (x y : C) → get_or now k x ≡ x → y ≡ x
      → AreDone Once k did old now → AreDone Once k did old (set now k y)
  still_done k did old now x y at same done =
      subst (AreDone Once k did old) (sym (ap (set now k) (same ∙ sym at) ∙ set-get_or now k x)) done
