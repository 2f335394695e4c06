-- Texts found by an order are those that a search of all finds.
use Rattle.std.proofs.Common.{◌≡◌, ℕ, List, [], ◌∷◌, ◌++◌, filter, Bool, true, false, not, cond, ◌||◌, ◌&&◌, Option, Some, None, option_map, Ordering, Less, Equal, Greater, refl, sym, ap, ◌∙◌}
use Rattle.std.proofs.lemmas.Cmp.{nat_list_cmp_total}
use Rattle.std.proofs.lemmas.List.Folds.{find-append, list_any-append}
use Rattle.std.proofs.lemmas.Map.Text.{is_eq-slice_cmp}
use Rattle.std.proofs.lemmas.Slice.Eq.{bytes_eq-Decides}
use Rattle.std.specs.BTreeMap.{BTreeMap, get, is_at, Updates}
use Rattle.std.specs.BTreeSet as set
use Rattle.std.specs.BTreeSet.{BTreeSet}
use Rattle.std.specs.Cmp.Lexicographic.{slice_cmp}
use Rattle.std.specs.List.{find, list_any}
use Rattle.std.specs.Option.{is_some, option_or}
use Rattle.std.specs.Ordering.{is_eq, nat_cmp, ordering_reverse, ordering_then}
use Rattle.std.specs.Str.{bytes_eq}
use Rattle.editor_ledger.specs.Firsts.{Lent, text_cmp, subject_cmp, HasTexts, HasFirsts}
use Rattle.editor_ledger.specs.Heads.{Head, head_of, is_about, is_same_subject, are_about_one}
use Rattle.editor_ledger.specs.Past.{is_among}
use Rattle.editor_ledger.specs.View.{head_view}
use Rattle.editor_ledger.proofs.Words.{both}
use Rattle.editor_ledger.specs.declared.head.Head.{Head as CodeHead}

-- ---- what is equal in order

same_back : (r : Ordering) → is_eq (ordering_reverse r) ≡ is_eq r
same_back Less = refl
same_back Equal = refl
same_back Greater = refl

same_bytes : (n m : List ℕ) → is_eq (slice_cmp nat_cmp n m) ≡ bytes_eq m n
same_bytes n m = ap is_eq (nat_list_cmp_total.antisymm n m) ∙ same_back (slice_cmp nat_cmp m n) ∙ is_eq-slice_cmp m n

both_equal : (r s : Ordering) → is_eq (ordering_then r s) ≡ (is_eq r && is_eq s)
both_equal Less s = refl
both_equal Equal s = refl
both_equal Greater s = refl

-- one head's kind and name are at another's exactly if it is about the same
same_subject : (a h : CodeHead) → is_at (subject_cmp (a.kind, a.name)) (h.kind, h.name) ≡ is_about (head_view h) (Some (head_view a))
same_subject a h =
    both_equal (text_cmp a.kind h.kind) (text_cmp a.name h.name)
    ∙ ap (λ b. b && is_eq (text_cmp a.name h.name)) (same_bytes a.kind.now h.kind.now)
    ∙ ap (λ b. bytes_eq h.kind.now a.kind.now && b) (same_bytes a.name.now h.name.now)

-- ---- sets of texts

joined : (b c : Bool) → cond b true c ≡ (c || (b || false))
joined true true = refl
joined true false = refl
joined false true = refl
joined false false = refl

-- a set of texts and one more
pub one_more : (old new : BTreeSet Lent) (t : Lent) → set.Updates text_cmp old new t true
    → (texts : List (List ℕ)) → HasTexts old texts → HasTexts new (texts ++ t.now ∷ [])
one_more old new t updates texts has = λ q.
    updates.0 q
    ∙ ap (λ b. cond b true (set.contains text_cmp old q)) (same_bytes t.now q.now)
    ∙ ap (λ b. cond (bytes_eq q.now t.now) true b) (has q)
    ∙ joined (bytes_eq q.now t.now) (list_any (bytes_eq q.now) texts)
    ∙ sym (list_any-append (bytes_eq q.now) texts (t.now ∷ []))

-- ---- maps of first texts

-- heads of one kind and name are about the same
pub about_alike : (h a : Head) → is_about h (Some a) ≡ true → (o : Option Head) → is_about h o ≡ is_about a o
about_alike h a is None = refl
about_alike h a is (Some b) =
    let parts = both (bytes_eq h.kind a.kind) (bytes_eq h.name a.name) is in
    ap (λ k. bytes_eq k b.kind && bytes_eq h.name b.name) ((bytes_eq-Decides h.kind a.kind).0 parts.0)
    ∙ ap (λ n. bytes_eq a.kind b.kind && bytes_eq n b.name) ((bytes_eq-Decides h.name a.name).0 parts.1)

find_alike : (p q : List ℕ → Bool) → ((t : List ℕ) → p t ≡ q t) → (texts : List (List ℕ)) → find p texts ≡ find q texts
find_alike p q same [] = refl
find_alike p q same (t ∷ texts) = rw (same t, find_alike p q same texts)

abbrev first_of : Head → List (List ℕ) → Option (List ℕ)
first_of head texts = find (λ t. is_about head (head_of t)) texts

-- a search of texts and one more
searched : (head : Head) (texts : List (List ℕ)) (t : List ℕ) (b : Bool) → is_about head (head_of t) ≡ b
    → first_of head (texts ++ t ∷ []) ≡ option_or (first_of head texts) (cond b (Some t) None)
searched head texts t b is =
    find-append (λ u. is_about head (head_of u)) texts (t ∷ [])
    ∙ ap (λ c. option_or (first_of head texts) (cond c (Some t) None)) is

or_none : {X : Type 0} (o : Option X) → option_or o None ≡ o
or_none None = refl
or_none (Some x) = refl

-- a text about something else changes nothing
passed : (head : Head) (texts : List (List ℕ)) (t : List ℕ) → is_about head (head_of t) ≡ false
    → first_of head texts ≡ first_of head (texts ++ t ∷ [])
passed head texts t is = sym (searched head texts t false is ∙ or_none (first_of head texts))

-- nor does one that is about nothing
pub about_nothing : (firsts : BTreeMap (Lent × Lent) Lent) (t : Lent) → head_of t.now ≡ None
    → (texts : List (List ℕ)) → HasFirsts firsts texts → HasFirsts firsts (texts ++ t.now ∷ [])
about_nothing firsts t none texts has = λ head.
    has head ∙ passed (head_view head) texts t.now (ap (is_about (head_view head)) none)

nothing : {X Y : Type 0} (f : X → Y) (o : Option X) → is_some o ≡ false → option_map f o ≡ None
nothing f None is = refl
nothing f (Some x) is = absurd (cc)

kept_first : {X Y : Type 0} (f : X → Y) (o : Option X) (q : Option Y) → is_some o ≡ true → option_map f o ≡ option_or (option_map f o) q
kept_first f None q is = absurd (cc)
kept_first f (Some x) q is = refl

-- of heads of one kind and name the first texts are the same
first_alike : (firsts : BTreeMap (Lent × Lent) Lent) (a h : CodeHead) (texts : List (List ℕ)) → HasFirsts firsts texts
    → is_about (head_view h) (Some (head_view a)) ≡ true
    → option_map (λ t. t.now) (get subject_cmp firsts (a.kind, a.name)) ≡ first_of (head_view h) texts
first_alike firsts a h texts has same =
    has a ∙ sym (find_alike (λ t. is_about (head_view h) (head_of t)) (λ t. is_about (head_view a) (head_of t)) (λ t. about_alike (head_view h) (head_view a) same (head_of t)) texts)

-- a text about what the map has already changes nothing
pub had_before : (firsts : BTreeMap (Lent × Lent) Lent) (t : Lent) (a : CodeHead) → head_of t.now ≡ Some (head_view a)
    → is_some (get subject_cmp firsts (a.kind, a.name)) ≡ true
    → (texts : List (List ℕ)) → HasFirsts firsts texts → HasFirsts firsts (texts ++ t.now ∷ [])
had_before firsts t a is had texts has = λ head. has head ∙ by head (is_about (head_view head) (head_of t.now)) refl
  where
    by : (head : CodeHead) (b : Bool) → is_about (head_view head) (head_of t.now) ≡ b → first_of (head_view head) texts ≡ first_of (head_view head) (texts ++ t.now ∷ [])
    by head false other = passed (head_view head) texts t.now other
    by head true same =
        let alike = first_alike firsts a head texts has (ap (is_about (head_view head)) (sym is) ∙ same) in
        sym alike
        ∙ kept_first (λ u. u.now) (get subject_cmp firsts (a.kind, a.name)) (Some t.now) had
        ∙ ap (λ o. option_or o (Some t.now)) alike
        ∙ sym (searched (head_view head) texts t.now true same)

-- the first text about something is found under that
pub comes_first : (old new : BTreeMap (Lent × Lent) Lent) (t : Lent) (a : CodeHead) → head_of t.now ≡ Some (head_view a)
    → is_some (get subject_cmp old (a.kind, a.name)) ≡ false
    → Updates subject_cmp old new (a.kind, a.name) (Some t)
    → (texts : List (List ℕ)) → HasFirsts old texts → HasFirsts new (texts ++ t.now ∷ [])
comes_first old new t a is lacks updates texts has = λ head.
    ap (option_map (λ u. u.now)) (updates.0 (head.kind, head.name))
    ∙ ap (λ b. option_map (λ u. u.now) (cond b (Some t) (get subject_cmp old (head.kind, head.name)))) (same_subject a head ∙ ap (is_about (head_view head)) (sym is))
    ∙ by head (is_about (head_view head) (head_of t.now)) refl
  where
    by : (head : CodeHead) (b : Bool) → is_about (head_view head) (head_of t.now) ≡ b
        → option_map (λ u. u.now) (cond (is_about (head_view head) (head_of t.now)) (Some t) (get subject_cmp old (head.kind, head.name))) ≡ first_of (head_view head) (texts ++ t.now ∷ [])
    by head false other =
        ap (λ b. option_map (λ u. u.now) (cond b (Some t) (get subject_cmp old (head.kind, head.name)))) other
        ∙ has head
        ∙ passed (head_view head) texts t.now other
    by head true same =
        let none : None ≡ first_of (head_view head) texts =
        sym (nothing (λ u. u.now) (get subject_cmp old (a.kind, a.name)) lacks) ∙ first_alike old a head texts has (ap (is_about (head_view head)) (sym is) ∙ same) in
        ap (λ b. option_map (λ u. u.now) (cond b (Some t) (get subject_cmp old (head.kind, head.name)))) same
        ∙ ap (λ o. option_or o (Some t.now)) none
        ∙ sym (searched (head_view head) texts t.now true same)

-- ---- what is found

found_some : {X : Type 0} (b : Bool) (x : X) (p : X → Bool) (xs : List X) → is_some (find p xs) ≡ list_any p xs → is_some (cond b (Some x) (find p xs)) ≡ (b || list_any p xs)
found_some true x p xs later = refl
found_some false x p xs later = later

-- something is found exactly if something passes
pub is_some-find : {X : Type 0} (p : X → Bool) (xs : List X) → is_some (find p xs) ≡ list_any p xs
is_some-find p [] = refl
is_some-find p (x ∷ xs) = found_some (p x) x p xs (is_some-find p xs)

pub is_some-mapped : {X Y : Type 0} (f : X → Y) (o : Option X) → is_some (option_map f o) ≡ is_some o
is_some-mapped f None = refl
is_some-mapped f (Some x) = refl

-- ---- what a text is about

nothing_about : (texts : List (List ℕ)) → list_any (λ u. is_same_subject None (head_of u)) texts ≡ false
nothing_about [] = refl
nothing_about (t ∷ texts) = nothing_about texts

-- a text that is about nothing is about the same as none
pub among_none : (t : List ℕ) (texts : List (List ℕ)) → head_of t ≡ None → is_among texts t ≡ false
among_none t texts none = ap (λ o. list_any (λ u. is_same_subject o (head_of u)) texts) none ∙ nothing_about texts

-- one of the texts is about the same as a text of that head exactly if one is about what the head names
pub among_some : (t : List ℕ) (head : Head) (texts : List (List ℕ)) → head_of t ≡ Some head → is_among texts t ≡ list_any (λ u. is_about head (head_of u)) texts
among_some t head texts is = ap (λ o. list_any (λ u. is_same_subject o (head_of u)) texts) is

all_stay : (texts : List (List ℕ)) → filter (λ t. not (is_same_subject None (head_of t))) texts ≡ texts
all_stay [] = refl
all_stay (t ∷ texts) = ap (λ ts. t ∷ ts) (all_stay texts)

-- nothing is about the same as a text that is about nothing
pub same_none : (t : List ℕ) (texts : List (List ℕ)) → head_of t ≡ None → filter (λ u. not (are_about_one t u)) texts ≡ texts
same_none t texts none = ap (λ o. filter (λ u. not (is_same_subject o (head_of u))) texts) none ∙ all_stay texts
