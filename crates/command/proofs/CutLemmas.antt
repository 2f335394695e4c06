-- What `strip_prefix` and `split_once` give, as cuts of whole texts.
use Rattle.std.proofs.Common.{◌≡◌, ◌≢◌, ℕ, suc, ◌<◌, ◌+◌, List, [], ◌∷◌, ◌++◌, length, drop, get_or, Bool, true, false, cond, eqb, Option, Some, None, option_map, Bor, MatchOption, refl, sym, ap, ◌∙◌, arith, rules}
use Rattle.std.specs.Str.Pattern.{FindsTextPrefix}
use Rattle.std.proofs.lemmas.Str.Pattern.{IsSplitOnceResult, split_parts}
use Rattle.command.specs.Cuts.{after_front, cut_at}
use Rattle.command.specs.View.{pair_view}

-- ---- fronts

same_byte : (b : ℕ) → eqb b b ≡ true
same_byte b = search rules

pub after_front-append : (p rest : List ℕ) → after_front p (p ++ rest) ≡ Some rest
after_front-append [] rest = refl
after_front-append (b ∷ bs) rest = rw (same_byte b) (after_front-append bs rest)

after_front-head : (t : Bool) (b x : ℕ) (bs xs rest : List ℕ) → eqb b x ≡ t → ((more : List ℕ) → after_front bs xs ≡ Some more → xs ≡ bs ++ more) → cond t (after_front bs xs) None ≡ Some rest → x ∷ xs ≡ b ∷ (bs ++ rest)
after_front-head true b x bs xs rest same later e = let head : b ≡ x = grind arith in let tail : xs ≡ bs ++ rest = later rest e in cc
after_front-head false b x bs xs rest same later e = cc

pub after_front-is : (p text rest : List ℕ) → after_front p text ≡ Some rest → text ≡ p ++ rest
after_front-is [] text rest e = cc
after_front-is (b ∷ bs) [] rest e = cc
after_front-is (b ∷ bs) (x ∷ xs) rest e = after_front-head (eqb b x) b x bs xs rest refl (after_front-is bs xs) e

none_of : {A : Type 0} (o : Option A) → ((x : A) → o ≡ Some x → ⊥) → None ≡ o
none_of None never = refl
none_of (Some x) never = absurd (never x refl)

pub strips : (p text : List ℕ) (r : Option (Bor (List ℕ)))
    → MatchOption r (FindsTextPrefix p text None) (λ x. (n : ℕ) × FindsTextPrefix p text (Some n) × (x.now ≡ drop n text) × (length x.now + n ≡ length text))
    → option_map (λ x. x.now) r ≡ after_front p text
strips p text None lacks = none_of (after_front p text) (λ rest e. lacks rest (after_front-is p text rest e))
strips p text (Some x) found =
    let is : text ≡ p ++ x.now = found.1.1 ∙ ap (λ r. p ++ r) (sym found.2) in
    sym (ap (after_front p) is ∙ after_front-append p x.now)

-- ---- cuts

other_byte : (x c : ℕ) → x ≢ c → eqb x c ≡ false
other_byte x c h = grind arith

pub cut_at-append : (c : ℕ) (xs ys : List ℕ) → ((i : ℕ) → i < length xs → get_or xs i 0 ≢ c) → cut_at c (xs ++ c ∷ ys) ≡ Some (xs, ys)
cut_at-append c [] ys h = rw (same_byte c)
cut_at-append c (x ∷ xs) ys h =
    let first : x ≢ c = h 0 (omega arith) in
    let later : cut_at c (xs ++ c ∷ ys) ≡ Some (xs, ys) = cut_at-append c xs ys (λ i l. h (suc i) (omega arith)) in
    rw (other_byte x c first, later)

pub cut_at-none : (c : ℕ) (xs : List ℕ) → ((i : ℕ) → i < length xs → get_or xs i 0 ≢ c) → cut_at c xs ≡ None
cut_at-none c [] h = refl
cut_at-none c (x ∷ xs) h =
    let first : x ≢ c = h 0 (omega arith) in
    let later : cut_at c xs ≡ None = cut_at-none c xs (λ i l. h (suc i) (omega arith)) in
    rw (other_byte x c first, later)

parts_cut : (c : ℕ) (bs : List ℕ) (r : Option (Bor (List ℕ) × Bor (List ℕ)))
    → MatchOption r ((i : ℕ) → i < length bs → get_or bs i 0 ≢ c) (λ x. (bs ≡ x.0.now ++ (c ∷ x.1.now)) × ((i : ℕ) → i < length x.0.now → get_or x.0.now i 0 ≢ c))
    → option_map pair_view r ≡ cut_at c bs
parts_cut c bs None none = sym (cut_at-none c bs none)
parts_cut c bs (Some x) found = sym (ap (cut_at c) found.0 ∙ cut_at-append c x.0.now x.1.now found.1)

pub splits : (c : ℕ) (bs : List ℕ) (r : Option (Bor (List ℕ) × Bor (List ℕ))) → IsSplitOnceResult c bs r → c < 128 → option_map pair_view r ≡ cut_at c bs
splits c bs r h small = parts_cut c bs r (split_parts c bs r h small)
