-- How many texts are about a kind and a name, as texts come and go.
use Rattle.std.proofs.Common.{◌≡◌, ℕ, zero, suc, ◌+◌, ◌<◌, ◌≤◌, List, [], ◌∷◌, ◌++◌, length, map, take, drop, get_or, filter, count_by, Bool, true, false, not, cond, Option, Some, None, String, Global, refl, sym, ap, subst, ◌∙◌, arith}
use Rattle.std.proofs.lemmas.List.{map-append, take-map, drop-map}
use Rattle.std.proofs.lemmas.List.Sums.{sum_by-append, sum_by-remove}
use Rattle.std.proofs.lemmas.Map.Text.{btree_map_updates_text}
use Rattle.std.proofs.lemmas.Slice.Eq.{bytes_eq-Decides}
use Rattle.std.specs.BTreeMap.{BTreeMap, get_by_text, Updates}
use Rattle.std.specs.List.{remove}
use Rattle.std.specs.Option.{is_some}
use Rattle.std.specs.Str.{bytes_eq}
use Rattle.std.specs.String.{string_bytes, string_cmp}
use Rattle.editor_ledger.specs.Heads.{Head, head_of, is_about, is_same_subject, are_about_one}
use Rattle.editor_ledger.specs.Steps.{with_text}
use Rattle.editor_ledger.specs.Subjects.{subject_text, count_about, IsBounded, Bounds}
use Rattle.editor_ledger.proofs.LookUps.{about_alike}
use Rattle.editor_ledger.proofs.Words.{both}

-- heads of one kind and name have one subject
one_subject : (h a : Head) → is_about h (Some a) ≡ true → subject_text h ≡ subject_text a
one_subject h a is =
    let parts = both (bytes_eq h.kind a.kind) (bytes_eq h.name a.name) is in
    ap (λ k. k ++ (32 ∷ h.name)) ((bytes_eq-Decides h.kind a.kind).0 parts.0)
    ∙ ap (λ n. a.kind ++ (32 ∷ n)) ((bytes_eq-Decides h.name a.name).0 parts.1)

-- ---- counts

count_more : (p : List ℕ → Bool) (xs ys : List (List ℕ)) → count_by p (xs ++ ys) ≡ count_by p xs + count_by p ys
count_more p xs ys = sum_by-append (λ x. cond (p x) 1 0) xs ys

count_one : (p : List ℕ → Bool) (x : List ℕ) (xs : List (List ℕ)) (b : Bool) → p x ≡ b → count_by p (x ∷ xs) ≡ cond b 1 0 + count_by p xs
count_one p x xs b is =
    let first : count_by p (x ∷ []) ≡ cond (p x) 1 0 = omega arith in
    count_more p (x ∷ []) xs ∙ ap (λ n. n + count_by p xs) (first ∙ ap (λ c. cond c 1 0) is)

count_last : (p : List ℕ → Bool) (xs : List (List ℕ)) (x : List ℕ) (b : Bool) → p x ≡ b → count_by p (xs ++ x ∷ []) ≡ count_by p xs + cond b 1 0
count_last p xs x b is =
    let first : count_by p (x ∷ []) ≡ cond (p x) 1 0 = omega arith in
    count_more p xs (x ∷ []) ∙ ap (λ n. count_by p xs + n) (first ∙ ap (λ c. cond c 1 0) is)

none_out : (p : List ℕ → Bool) (texts : List (List ℕ)) → count_by p texts ≡ 0 → filter (λ t. not (p t)) texts ≡ texts
none_out p [] none = refl
none_out p (t ∷ texts) none = by (p t) refl (none_out p texts)
  where
    by : (b : Bool) → p t ≡ b → (count_by p texts ≡ 0 → filter (λ u. not (p u)) texts ≡ texts) → filter (λ u. not (p u)) (t ∷ texts) ≡ t ∷ texts
    by true is later = let counted = count_one p t texts true is in absurd (omega (arith, counted, none))
    by false is later =
        let counted = count_one p t texts false is in
        let rest : count_by p texts ≡ 0 = omega (arith, counted, none) in
        rw is (ap (λ ts. t ∷ ts) (later rest))

out_before : (p : List ℕ → Bool) (texts : List (List ℕ)) (i : ℕ) → i < length texts → p (get_or texts i []) ≡ true → filter (λ t. not (p t)) (remove texts i) ≡ filter (λ t. not (p t)) texts
out_before p [] i below is = absurd (omega (arith, below))
out_before p (t ∷ texts) zero below is = rw is refl
out_before p (t ∷ texts) (suc i) below is =
    let rest : i < length texts = omega (arith, below) in
    ap (λ ts. cond (not (p t)) (t ∷ ts) ts) (out_before p texts i rest is)

-- the one that passes, where no other does, is what is left out
pub one_out : (p : List ℕ → Bool) (texts : List (List ℕ)) (i : ℕ) → i < length texts → p (get_or texts i []) ≡ true → count_by p texts ≤ 1
    → remove texts i ≡ filter (λ t. not (p t)) texts
one_out p texts i below is most =
    let sums : count_by p (remove texts i) + cond (p (get_or texts i [])) 1 0 ≡ count_by p texts = sum_by-remove (λ x. cond (p x) 1 0) texts i [] below in
    let one : ◌≡◌ {A = ℕ} (cond (p (get_or texts i [])) 1 0) 1 = ap (λ b. cond b 1 0) is in
    let left : count_by p (remove texts i) ≡ 0 = omega (arith, sums, one, most) in
    sym (none_out p (remove texts i) left) ∙ out_before p texts i below is

pub remove_map : {X Y : Type 0} (h : X → Y) (xs : List X) (i : ℕ) → map h (remove xs i) ≡ remove (map h xs) i
remove_map h xs i =
    map-append h (take i xs) (drop (suc i) xs)
    ∙ ap (λ front. front ++ map h (drop (suc i) xs)) (sym (take-map h i xs))
    ∙ ap (λ back. take i (map h xs) ++ back) (sym (drop-map h (suc i) xs))

-- ---- what stays

fewer : (q r : List ℕ → Bool) (texts : List (List ℕ)) → count_by q (filter r texts) ≤ count_by q texts
fewer q r [] = omega arith
fewer q r (t ∷ texts) = by (r t) (q t) refl (fewer q r texts)
  where
    by : (b c : Bool) → q t ≡ c → count_by q (filter r texts) ≤ count_by q texts → count_by q (cond b (t ∷ filter r texts) (filter r texts)) ≤ count_by q (t ∷ texts)
    by true c is later = let here = count_one q t (filter r texts) c is in let all = count_one q t texts c is in omega (arith, here, all, later)
    by false c is later = let all = count_one q t texts c is in omega (arith, all, later)

none_alike : (q p : List ℕ → Bool) → ((t : List ℕ) → q t ≡ p t) → (texts : List (List ℕ)) → count_by q (filter (λ t. not (p t)) texts) ≡ 0
none_alike q p same [] = refl
none_alike q p same (t ∷ texts) = by (p t) refl (none_alike q p same texts)
  where
    by : (b : Bool) → p t ≡ b → count_by q (filter (λ u. not (p u)) texts) ≡ 0 → count_by q (cond (not (p t)) (t ∷ filter (λ u. not (p u)) texts) (filter (λ u. not (p u)) texts)) ≡ 0
    by true is later = ap (λ b. count_by q (cond (not b) (t ∷ filter (λ u. not (p u)) texts) (filter (λ u. not (p u)) texts))) is ∙ later
    by false is later =
        let counted = count_one q t (filter (λ u. not (p u)) texts) false (same t ∙ is) in
        ap (λ b. count_by q (cond (not b) (t ∷ filter (λ u. not (p u)) texts) (filter (λ u. not (p u)) texts))) is ∙ counted ∙ ap (λ n. 0 + n) later

-- ---- bounds

abbrev Known : Type 0
Known = BTreeMap (String Global) Bool

smaller : (o : Option Bool) (m n : ℕ) → m ≤ n → IsBounded o n → IsBounded o m
smaller None m n le is = omega (arith, le, is)
smaller (Some false) m n le is = omega (arith, le, is)
smaller (Some true) m n le is = is

one_bounded : (b : Bool) (n : ℕ) → n ≡ 1 → IsBounded (Some b) n
one_bounded false n is = omega (arith, is)
one_bounded true n is = tt

-- after one text more with others out, of heads that it is about there is one text, of others there are no more than before
abbrev About : Head → List ℕ → Bool
About head t = is_about head (head_of t)

with_count : (h a : Head) (t : List ℕ) (texts : List (List ℕ)) → head_of t ≡ Some a → is_about h (head_of t) ≡ true → count_about h (with_text t texts) ≡ 1
with_count h a t texts is same =
    let alike : (u : List ℕ) → is_about h (head_of u) ≡ are_about_one t u = λ u. about_alike h a (ap (is_about h) (sym is) ∙ same) (head_of u) ∙ ap (λ o. is_same_subject o (head_of u)) (sym is) in
    let last = count_last (About h) (filter (λ u. not (are_about_one t u)) texts) t true same in
    let none = none_alike (About h) (are_about_one t) alike texts in
    omega (arith, last, none)

with_fewer : (h : Head) (t : List ℕ) (texts : List (List ℕ)) → is_about h (head_of t) ≡ false → count_about h (with_text t texts) ≤ count_about h texts
with_fewer h t texts other =
    let last = count_last (About h) (filter (λ u. not (are_about_one t u)) texts) t false other in
    let less = fewer (About h) (λ u. not (are_about_one t u)) texts in
    omega (arith, last, less)

-- a text about what the map knows takes the place of those about the same
pub in_place : (known : Known) (t : List ℕ) (a : Head) (b : Bool) → head_of t ≡ Some a → get_by_text known (subject_text a) ≡ Some b
    → (texts : List (List ℕ)) → Bounds known texts → Bounds known (with_text t texts)
in_place known t a b is found texts bounds = λ h. by h (is_about h (head_of t)) refl
  where
    by : (h : Head) (c : Bool) → is_about h (head_of t) ≡ c → IsBounded (get_by_text known (subject_text h)) (count_about h (with_text t texts))
    by h true same =
        let key : subject_text a ≡ subject_text h = sym (one_subject h a (ap (is_about h) (sym is) ∙ same)) in
        subst (λ o. IsBounded o (count_about h (with_text t texts))) (sym found ∙ ap (get_by_text known) key) (one_bounded b (count_about h (with_text t texts)) (with_count h a t texts is same))
    by h false other = smaller (get_by_text known (subject_text h)) (count_about h (with_text t texts)) (count_about h texts) (with_fewer h t texts other) (bounds h)

-- a text about what the map does not know is the first about that
pub as_first : (old new : Known) (key : String Global) (t : List ℕ) (a : Head) → head_of t ≡ Some a → string_bytes key ≡ subject_text a
    → Updates string_cmp old new key (Some false) → get_by_text old (subject_text a) ≡ None
    → (texts : List (List ℕ)) → Bounds old texts → Bounds new (with_text t texts)
as_first old new key t a is key_is updates lacks texts bounds = λ h.
    subst (λ o. IsBounded o (count_about h (with_text t texts))) (sym (btree_map_updates_text (string_bytes key) old new (Some false) updates (subject_text h)))
    (by h (is_about h (head_of t)) (bytes_eq (string_bytes key) (subject_text h)) refl refl)
  where
    by : (h : Head) (c d : Bool) → is_about h (head_of t) ≡ c → bytes_eq (string_bytes key) (subject_text h) ≡ d
        → IsBounded (cond (bytes_eq (string_bytes key) (subject_text h)) (Some false) (get_by_text old (subject_text h))) (count_about h (with_text t texts))
    by h true d same at =
        let here : string_bytes key ≡ subject_text h = key_is ∙ sym (one_subject h a (ap (is_about h) (sym is) ∙ same)) in
        rw ((bytes_eq-Decides (string_bytes key) (subject_text h)).1 here) (one_bounded false (count_about h (with_text t texts)) (with_count h a t texts is same))
    by h false true other at =
        let here : subject_text a ≡ subject_text h = sym key_is ∙ (bytes_eq-Decides (string_bytes key) (subject_text h)).0 at in
        let none : count_about h texts ≡ 0 = subst (λ o. IsBounded o (count_about h texts)) (ap (get_by_text old) (sym here) ∙ lacks) (bounds h) in
        let less = with_fewer h t texts other in
        let most : count_about h (with_text t texts) ≤ 1 = omega (arith, none, less) in
        rw at most
    by h false false other at = rw at (smaller (get_by_text old (subject_text h)) (count_about h (with_text t texts)) (count_about h texts) (with_fewer h t texts other) (bounds h))

-- where the map does not know what a text is about, no other is about the same
pub nothing_out : (known : Known) (t : List ℕ) (a : Head) → head_of t ≡ Some a → get_by_text known (subject_text a) ≡ None
    → (texts : List (List ℕ)) → Bounds known texts → filter (λ u. not (are_about_one t u)) texts ≡ texts
nothing_out known t a is lacks texts bounds =
    let none : count_about a texts ≡ 0 = subst (λ o. IsBounded o (count_about a texts)) lacks (bounds a) in
    ap (λ o. filter (λ u. not (is_same_subject o (head_of u))) texts) is ∙ none_out (About a) texts none

-- a text about nothing changes no count
no_more : (h : Head) (t : List ℕ) (texts : List (List ℕ)) → is_about h (head_of t) ≡ false → count_about h (texts ++ t ∷ []) ≤ count_about h texts
no_more h t texts other = let last = count_last (About h) texts t false other in omega (arith, last)

pub about_none : (known : Known) (t : List ℕ) → head_of t ≡ None → (texts : List (List ℕ)) → Bounds known texts → Bounds known (texts ++ t ∷ [])
about_none known t none texts bounds = λ h.
    smaller (get_by_text known (subject_text h)) (count_about h (texts ++ t ∷ [])) (count_about h texts) (no_more h t texts (ap (is_about h) none)) (bounds h)

-- one more of which there may be several then, unless there was none
pub one_behind : (old new : Known) (key : String Global) (t : List ℕ) (a : Head) (b : Bool) → head_of t ≡ Some a → string_bytes key ≡ subject_text a
    → Updates string_cmp old new key (Some b) → (b ≡ false → get_by_text old (subject_text a) ≡ None)
    → (texts : List (List ℕ)) → Bounds old texts → Bounds new (texts ++ t ∷ [])
one_behind old new key t a b is key_is updates lacks texts bounds = λ h.
    subst (λ o. IsBounded o (count_about h (texts ++ t ∷ []))) (sym (btree_map_updates_text (string_bytes key) old new (Some b) updates (subject_text h)))
    (by h b (is_about h (head_of t)) (bytes_eq (string_bytes key) (subject_text h)) refl refl lacks)
  where
    none : (h : Head) → subject_text a ≡ subject_text h → get_by_text old (subject_text a) ≡ None → count_about h texts ≡ 0
    none h here is_none = subst (λ o. IsBounded o (count_about h texts)) (ap (get_by_text old) (sym here) ∙ is_none) (bounds h)

    by : (h : Head) (b c d : Bool) → is_about h (head_of t) ≡ c → bytes_eq (string_bytes key) (subject_text h) ≡ d → (b ≡ false → get_by_text old (subject_text a) ≡ None)
        → IsBounded (cond (bytes_eq (string_bytes key) (subject_text h)) (Some b) (get_by_text old (subject_text h))) (count_about h (texts ++ t ∷ []))
    by h true c true at_head at lacks = rw at tt
    by h false c true at_head at lacks =
        let here : subject_text a ≡ subject_text h = sym key_is ∙ (bytes_eq-Decides (string_bytes key) (subject_text h)).0 at in
        let before = none h here (lacks refl) in
        let last = count_last (About h) texts t c at_head in
        let most : count_about h (texts ++ t ∷ []) ≤ 1 = at_most c last before in
        rw at most
      where
        at_most : (c : Bool) → count_about h (texts ++ t ∷ []) ≡ count_about h texts + cond c 1 0 → count_about h texts ≡ 0 → count_about h (texts ++ t ∷ []) ≤ 1
        at_most true last before = omega (arith, last, before)
        at_most false last before = omega (arith, last, before)
    by h b true false same at lacks =
        let here : string_bytes key ≡ subject_text h = key_is ∙ sym (one_subject h a (ap (is_about h) (sym is) ∙ same)) in
        let never : true ≡ false = sym ((bytes_eq-Decides (string_bytes key) (subject_text h)).1 here) ∙ at in absurd (cc)
    by h b false false other at lacks = rw at (smaller (get_by_text old (subject_text h)) (count_about h (texts ++ t ∷ [])) (count_about h texts) (no_more h t texts other) (bounds h))

-- of what the map has not several of one is at most
pub at_most_one : (known : Known) (head : Head) (b : Bool) (texts : List (List ℕ)) → get_by_text known (subject_text head) ≡ Some b → b ≡ false → Bounds known texts → count_about head texts ≤ 1
at_most_one known head b texts found lacks bounds = subst (λ o. IsBounded o (count_about head texts)) (found ∙ ap (λ c. Some c) lacks) (bounds head)

pub nothing_there : {X : Type 0} (o : Option X) → is_some o ≡ false → o ≡ None
nothing_there None is = refl
nothing_there (Some x) is = absurd (cc)
