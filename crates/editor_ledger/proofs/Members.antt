-- What is in a filtered list, and what a test of some element says.
use Rattle.std.proofs.Common.{◌≡◌, zero, suc, List, [], ◌∷◌, Bool, true, false, cond, ◌||◌, ◌⊎◌, inl, inr, filter, Option, Some, None, Contains, refl, sym, ap, subst, ◌∙◌, arith}
use Rattle.std.specs.List.{list_any, filter_map, cons_option}
use Rattle.std.proofs.lemmas.List.Elements.{All-filter, All-contains, All-contains_itself, filter_passes}
use Rattle.std.proofs.lemmas.List.Folds.{Any-from_list_any}

pub here : {X : Type 0} (x : X) (xs : List X) → Contains (x ∷ xs) x
here x xs = (0, omega arith, refl)

pub later : {X : Type 0} (y : X) (xs : List X) (x : X) → Contains xs x → Contains (y ∷ xs) x
later y xs x is = (suc is.0, omega (arith, is.1), is.2)

pub cases : {X : Type 0} (y : X) (xs : List X) (x : X) → Contains (y ∷ xs) x → (y ≡ x) ⊎ Contains xs x
cases y xs x (zero, below, is) = inl is
cases y xs x (suc k, below, is) = inr (k, omega (arith, below), is)

pub nowhere : {X : Type 0} (x : X) → Contains [] x → ⊥
nowhere x is = omega (arith, is.1)

pub filtered : {X : Type 0} (p : X → Bool) (xs : List X) (x : X) → Contains (filter p xs) x → Contains xs x
filtered p xs x is = All-contains (Contains xs) (filter p xs) x (All-filter p (Contains xs) xs (All-contains_itself xs)) is

pub passes : {X : Type 0} (p : X → Bool) (xs : List X) (x : X) → Contains (filter p xs) x → p x ≡ true
passes p xs x is = All-contains (λ y. p y ≡ true) (filter p xs) x (filter_passes p xs) is

keeps_head : {X : Type 0} (b : Bool) (y : X) (ys : List X) (x : X) → (y ≡ x → b ≡ true) → (y ≡ x) ⊎ Contains ys x → Contains (cond b (y ∷ ys) ys) x
keeps_head true y ys x tests (inl same) = subst (λ z. Contains (y ∷ ys) z) same (here y ys)
keeps_head true y ys x tests (inr rest) = later y ys x rest
keeps_head false y ys x tests (inl same) = let no : false ≡ true = tests same in absurd (cc)
keeps_head false y ys x tests (inr rest) = rest

keeps_rest : (A B C : Type 0) → (A → C) → B ⊎ A → B ⊎ C
keeps_rest A B C f (inl b) = inl b
keeps_rest A B C f (inr a) = inr (f a)

pub keeps : {X : Type 0} (p : X → Bool) (xs : List X) (x : X) → Contains xs x → p x ≡ true → Contains (filter p xs) x
keeps p [] x is test = absurd (nowhere x is)
keeps {X} p (y ∷ xs) x is test =
    keeps_head (p y) y (filter p xs) x (λ same. ap p same ∙ test)
    (keeps_rest (Contains xs x) (y ≡ x) (Contains (filter p xs) x) (λ rest. keeps p xs x rest test) (cases y xs x is))

-- ---- tests

none_head : (a b : Bool) → (a || b) ≡ false → (a ≡ false) × (b ≡ false)
none_head false b is = (refl, is)
none_head true b is = absurd (cc)

pub none_passes : {X : Type 0} (p : X → Bool) (xs : List X) (x : X) → list_any p xs ≡ false → Contains xs x → p x ≡ false
none_passes p [] x none is = absurd (nowhere x is)
none_passes {X} p (y ∷ xs) x none is =
    let parts = none_head (p y) (list_any p xs) none in
    by_cases (cases y xs x is) parts.0 (none_passes p xs x parts.1)
  where
    by_cases : (y ≡ x) ⊎ Contains xs x → p y ≡ false → (Contains xs x → p x ≡ false) → p x ≡ false
    by_cases (inl same) first rest = ap p (sym same) ∙ first
    by_cases (inr more) first rest = rest more

pub some_passes : {X : Type 0} (p : X → Bool) (xs : List X) → list_any p xs ≡ true → (x : X) × Contains xs x × (p x ≡ true)
some_passes p xs is = let found = Any-from_list_any p xs is in (found.1, (found.0, found.2, found.3), found.4)

pub tested : (b : Bool) → (b ≡ true) ⊎ (b ≡ false)
tested true = inl refl
tested false = inr refl

-- ---- what a function gives of some elements

given_head : {Y : Type 0} (o : Option Y) (ys : List Y) (y : Y) → Contains (cons_option o ys) y → (o ≡ Some y) ⊎ Contains ys y
given_head None ys y is = inr is
given_head (Some z) ys y is = by_cases (cases z ys y is)
  where
    by_cases : (z ≡ y) ⊎ Contains ys y → (Some z ≡ Some y) ⊎ Contains ys y
    by_cases (inl same) = inl (ap (λ w. Some w) same)
    by_cases (inr rest) = inr rest

pub given_by : {X Y : Type 0} (f : X → Option Y) (xs : List X) (y : Y) → Contains (filter_map f xs) y → (x : X) × Contains xs x × (f x ≡ Some y)
given_by f [] y is = absurd (nowhere y is)
given_by {X} {Y} f (x ∷ xs) y is = by_cases (given_head (f x) (filter_map f xs) y is) (given_by f xs y)
  where
    by_cases : (f x ≡ Some y) ⊎ Contains (filter_map f xs) y → (Contains (filter_map f xs) y → (z : X) × Contains xs z × (f z ≡ Some y)) → (z : X) × Contains (x ∷ xs) z × (f z ≡ Some y)
    by_cases (inl first) rest = (x, here x xs, first)
    by_cases (inr more) rest = let found = rest more in (found.0, later x xs found.0 found.1, found.2)

gives_head : {Y : Type 0} (o : Option Y) (ys : List Y) (y : Y) → o ≡ Some y → Contains (cons_option o ys) y
gives_head None ys y is = cc
gives_head (Some z) ys y is = let same : z ≡ y = cc in subst (λ w. Contains (z ∷ ys) w) same (here z ys)

gives_rest : {Y : Type 0} (o : Option Y) (ys : List Y) (y : Y) → Contains ys y → Contains (cons_option o ys) y
gives_rest None ys y is = is
gives_rest (Some z) ys y is = later z ys y is

pub gives : {X Y : Type 0} (f : X → Option Y) (xs : List X) (x : X) (y : Y) → Contains xs x → f x ≡ Some y → Contains (filter_map f xs) y
gives f [] x y is given = absurd (nowhere x is)
gives {X} {Y} f (z ∷ xs) x y is given = by_cases (cases z xs x is) (λ rest. gives f xs x y rest given)
  where
    by_cases : (z ≡ x) ⊎ Contains xs x → (Contains xs x → Contains (filter_map f xs) y) → Contains (filter_map f (z ∷ xs)) y
    by_cases (inl same) rest = gives_head (f z) (filter_map f xs) y (ap f same ∙ given)
    by_cases (inr more) rest = gives_rest (f z) (filter_map f xs) y (rest more)
