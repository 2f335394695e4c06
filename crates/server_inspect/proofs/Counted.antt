-- One instance more, and tests that agree.
use Rattle.std.proofs.Common.{◌≡◌, ℕ, zero, suc, ◌+◌, ◌≤◌, Bool, true, false, if◌then◌else◌, refl, ap, subst, ◌∙◌, arith, Option, Some, None, Bor, is_some}
use Rattle.std.specs.Prelude.{option_copied}
use Rattle.server_inspect.specs.Counting.{count_to, last_to}

pub count_none : (P : ℕ → Bool) → 0 ≡ count_to P 0
unfolding count_to
count_none P = refl

pub last_none : (P : ℕ → Bool) → 0 ≡ last_to P 0
unfolding last_to
last_none P = refl

one_more : (n : ℕ) (b : Bool) → (if b then n + 1 else n) ≡ (if b then suc n else n)
one_more n true = omega arith
one_more n false = refl

count_suc : (P : ℕ → Bool) (k : ℕ) → (if P (suc k) then count_to P k + 1 else count_to P k) ≡ count_to P (suc k)
unfolding count_to
count_suc P k = one_more (count_to P k) (P (suc k))

last_suc : (P : ℕ → Bool) (k : ℕ) → (if P (suc k) then suc k else last_to P k) ≡ last_to P (suc k)
unfolding last_to
last_suc P k = refl

pub count_next : (P : ℕ → Bool) (k many : ℕ) (b : Bool) → many ≡ count_to P k → P (k + 1) ≡ b → (if b then many + 1 else many) ≡ count_to P (k + 1)
count_next P k many b so_far is =
    let next : suc k ≡ k + 1 = omega arith in
    ap (λ m. if b then m + 1 else m) so_far
    ∙ subst (λ c. (if c then count_to P k + 1 else count_to P k) ≡ count_to P (k + 1)) is (subst (λ n. (if P n then count_to P k + 1 else count_to P k) ≡ count_to P n) next (count_suc P k))

pub last_next : (P : ℕ → Bool) (k last : ℕ) (b : Bool) → last ≡ last_to P k → P (k + 1) ≡ b → (if b then k + 1 else last) ≡ last_to P (k + 1)
last_next P k last b so_far is =
    let next : suc k ≡ k + 1 = omega arith in
    ap (λ m. if b then k + 1 else m) so_far
    ∙ subst (λ c. (if c then k + 1 else last_to P k) ≡ last_to P (k + 1)) is (subst (λ n. (if P n then n else last_to P k) ≡ last_to P n) next (last_suc P k))

pub count_few : (many k : ℕ) (b : Bool) → many ≤ k → (if b then many + 1 else many) ≤ k + 1
count_few many k true h = omega arith
count_few many k false h = omega arith

both : {X : Type 0} (b c : Bool) (x y z w : X) → b ≡ c → x ≡ y → z ≡ w → (if b then x else z) ≡ (if c then y else w)
both {X} b c x y z w same first second =
    ap (λ (d : Bool). if d then x else z) same ∙ ap (λ (v : X). if c then v else z) first ∙ ap (λ (v : X). if c then y else v) second

pub count_same : (P Q : ℕ → Bool) (k : ℕ) → ((i : ℕ) → P i ≡ Q i) → count_to P k ≡ count_to Q k
unfolding count_to
count_same P Q zero same = refl
count_same P Q (suc k) same = let r = count_same P Q k same in both (P (suc k)) (Q (suc k)) _ _ _ _ (same (suc k)) (ap suc r) r

pub last_same : (P Q : ℕ → Bool) (k : ℕ) → ((i : ℕ) → P i ≡ Q i) → last_to P k ≡ last_to Q k
unfolding last_to
last_same P Q zero same = refl
last_same P Q (suc k) same = both (P (suc k)) (Q (suc k)) _ _ _ _ (same (suc k)) refl (last_same P Q k same)

pub copied_some : {X : Type 0} (o : Option (Bor X)) → is_some (option_copied o) ≡ is_some o
copied_some None = refl
copied_some (Some b) = refl
