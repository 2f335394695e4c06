-- Words, and cuts of a text after one.
use Rattle.std.proofs.Common.{◌≡◌, ℕ, List, [], ◌∷◌, ◌++◌, Bool, true, false, not, ◌&&◌, eqb, cond, Option, Some, None, option_map, refl, ap, arith}
use Rattle.command.specs.Cuts.{cut_at}
use Rattle.command.specs.Rows.{is_word, IsWord}

pub both : (a b : Bool) → (a && b) ≡ true → (a ≡ true) × (b ≡ true)
both true true e = (refl, refl)
both true false e = cc
both false b e = cc

not_true : (b : Bool) → not b ≡ true → b ≡ false
not_true true e = cc
not_true false e = refl

pub cut_at_space : (word rest : List ℕ) → IsWord word → cut_at 32 (word ++ (32 ∷ rest)) ≡ Some (word, rest)
cut_at_space [] rest h = refl
cut_at_space (x ∷ word) rest h =
    let parts = both (not (eqb x 32) && not (eqb x 10)) (is_word word) h in
    let first = not_true (eqb x 32) (both (not (eqb x 32)) (not (eqb x 10)) parts.0).0 in
    rw (first, cut_at_space word rest parts.1)

pub cut_at_line : (word rest : List ℕ) → IsWord word → cut_at 10 (word ++ (10 ∷ rest)) ≡ Some (word, rest)
cut_at_line [] rest h = refl
cut_at_line (x ∷ word) rest h =
    let parts = both (not (eqb x 32) && not (eqb x 10)) (is_word word) h in
    let first = not_true (eqb x 10) (both (not (eqb x 32)) (not (eqb x 10)) parts.0).1 in
    rw (first, cut_at_line word rest parts.1)

abbrev pub Cut : Type 0
Cut = List ℕ × List ℕ

later_cut : (o : Option Cut) (c x : ℕ) (bs : List ℕ) (p : Cut) → ((q : Cut) → o ≡ Some q → bs ≡ q.0 ++ (c ∷ q.1))
    → option_map {T = Cut} {U = Cut} (λ q. (x ∷ q.0, q.1)) o ≡ Some p → x ∷ bs ≡ p.0 ++ (c ∷ p.1)
later_cut None c x bs p later e = cc
later_cut (Some q) c x bs p later e =
    let all : bs ≡ q.0 ++ (c ∷ q.1) = later q refl in
    let pair : ◌≡◌ {A = Cut} p (x ∷ q.0, q.1) = cc in
    rw pair (ap (λ zs. x ∷ zs) all)

cut_at-head : (t : Bool) (o : Option Cut) (c x : ℕ) (bs : List ℕ) (p : Cut) → eqb x c ≡ t → ((q : Cut) → o ≡ Some q → bs ≡ q.0 ++ (c ∷ q.1))
    → cond {A = Option Cut} t (Some ([], bs)) (option_map {T = Cut} {U = Cut} (λ q. (x ∷ q.0, q.1)) o) ≡ Some p → x ∷ bs ≡ p.0 ++ (c ∷ p.1)
cut_at-head true o c x bs p same later e =
    let head : x ≡ c = grind arith in
    let pair : ◌≡◌ {A = Cut} p ([], bs) = cc in
    rw (head, pair)
cut_at-head false o c x bs p same later e = later_cut o c x bs p later e

-- what a cut gives stands round the byte
pub cut_at-is : (c : ℕ) (bs : List ℕ) (p : Cut) → cut_at c bs ≡ Some p → bs ≡ p.0 ++ (c ∷ p.1)
cut_at-is c [] p e = cc
cut_at-is c (x ∷ bs) p e = cut_at-head (eqb x c) (cut_at c bs) c x bs p refl (λ q. cut_at-is c bs q) e
