-- What is at each name, as one name changes.
use Rattle.std.proofs.Common.{◌≡◌, ℕ, List, [], ◌∷◌, Bool, true, false, cond, None, Ordering, Less, Equal, Greater, String, Global, Result, Ok, Err, OnOk, IfOk, nat_cmp, string_bytes, bytes_eq, refl, sym, ap, ◌∙◌}
use Rattle.std.proofs.lemmas.Cmp.{nat_list_cmp_total}
use Rattle.std.proofs.lemmas.Map.Text.{is_eq-slice_cmp}
use Rattle.std.specs.BTreeMap.{is_at}
use Rattle.std.specs.Cmp.Lexicographic.{slice_cmp}
use Rattle.std.specs.Ordering.{is_eq, ordering_reverse}
use Rattle.shared_map.specs.Entries.{find}
use Rattle.shared_map.specs.Search.{AreApart}
use Rattle.content.specs.View.{Named, at_name}

pub on_ok : {A E P Q : Type 0} (r : Result A E) → (P → Q) → OnOk r P → OnOk r Q
on_ok (Ok x) f p = f p
on_ok (Err e) f p = p

pub when_ok : {A E P : Type 0} (r : Result A E) (x : A) → r ≡ Ok x → OnOk r P → P
when_ok (Ok y) x e p = p
when_ok (Err f) x e p = cc

pub on_if_ok : {A E : Type 0} {P Q : A → Type 0} (r : Result A E) → ((x : A) → P x → Q x) → IfOk r P → IfOk r Q
on_if_ok (Ok x) f p = f x p
on_if_ok (Err e) f p = p

abbrev pub by_bytes : List ℕ → String Global → Ordering
by_bytes bytes k = slice_cmp nat_cmp bytes (string_bytes k)

same_back : (r : Ordering) → is_eq (ordering_reverse r) ≡ is_eq r
same_back Less = refl
same_back Equal = refl
same_back Greater = refl

pub same_bytes : (n m : List ℕ) → is_eq (slice_cmp nat_cmp n m) ≡ bytes_eq m n
same_bytes n m = ap is_eq (nat_list_cmp_total.antisymm n m) ∙ same_back (slice_cmp nat_cmp m n) ∙ is_eq-slice_cmp m n

equal_is : (r : Ordering) → is_eq r ≡ true → r ≡ Equal
equal_is Less e = cc
equal_is Equal e = refl
equal_is Greater e = cc

-- what equals bytes compares as they do
pub alike : (bytes n : List ℕ) → bytes_eq bytes n ≡ true → (k : String Global) → by_bytes bytes k ≡ by_bytes n k
alike bytes n same k = nat_list_cmp_total.congr bytes n (string_bytes k) (equal_is (slice_cmp nat_cmp bytes n) (is_eq-slice_cmp bytes n ∙ same))

pub find_alike : {V : Type 0} (f g : String Global → Ordering) → ((k : String Global) → f k ≡ g k) → (es : Named V) → find f es ≡ find g es
find_alike f g same [] = refl
find_alike f g same (e ∷ es) = rw (same e.0, find_alike f g same es)

pub apart : (bytes n : List ℕ) → bytes_eq bytes n ≡ false → AreApart (by_bytes bytes) (by_bytes n)
apart bytes n differ k at = by (is_at (by_bytes n) k) refl
  where
    by : (b : Bool) → is_at (by_bytes n) k ≡ b → b ≡ false
    by false e = refl
    by true e =
        let first = equal_is (by_bytes bytes k) at in
        let second = equal_is (by_bytes n k) e in
        let back : slice_cmp nat_cmp (string_bytes k) n ≡ Equal = nat_list_cmp_total.antisymm (string_bytes k) n ∙ ap ordering_reverse second in
        let met : bytes_eq bytes n ≡ true = sym (is_eq-slice_cmp bytes n) ∙ ap is_eq (nat_list_cmp_total.congr bytes (string_bytes k) n first ∙ back) in
        let never : true ≡ false = sym met ∙ differ in cc

-- one name is gone and the others stay
pub taken : {V : Type 0} (bytes : List ℕ) (old new : Named V) → find (by_bytes bytes) new ≡ None
    → ((compare : String Global → Ordering) → AreApart (by_bytes bytes) compare → find compare new ≡ find compare old)
    → (n : List ℕ) → at_name n new ≡ cond (bytes_eq bytes n) None (at_name n old)
taken {V} bytes old new gone others n = by (bytes_eq bytes n) refl
  where
    by : (b : Bool) → bytes_eq bytes n ≡ b → at_name n new ≡ cond b None (at_name n old)
    by true same = sym (find_alike (by_bytes bytes) (by_bytes n) (alike bytes n same) new) ∙ gone
    by false differ = others (by_bytes n) (apart bytes n differ)

pub on_both : {A E P Q R : Type 0} (r : Result A E) → (P → Q → R) → OnOk r P → OnOk r Q → OnOk r R
on_both (Ok x) f p q = f p q
on_both (Err e) f p q = p
