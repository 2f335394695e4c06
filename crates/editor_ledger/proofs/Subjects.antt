-- What two texts are about.
use Rattle.std.proofs.Common.{◌≡◌, ℕ, List, [], Bool, true, false, cond, not, ◌&&◌, ◌⊎◌, inl, inr, codes, Option, Some, None, option_and_then, Contains, refl, sym, ap, ◌∙◌}
use Rattle.std.specs.List.{list_any, filter_map}
use Rattle.std.specs.Str.{bytes_eq}
use Rattle.std.proofs.lemmas.List.Elements.{Contains-append_cases, Contains-append_left, Contains-append_right}
use Rattle.std.proofs.lemmas.Slice.Eq.{bytes_eq-Decides}
use Rattle.editor_ledger.specs.Heads.{Head, head_of, is_about, is_same_subject, are_about_one, puts, puts_by, is_put, removal}
use Rattle.editor_ledger.specs.Plans.{missing, removal_by, removal_of, plan_of}
use Rattle.editor_ledger.proofs.Members.{filtered, passes, keeps, none_passes, given_by, gives}
use Rattle.editor_ledger.proofs.Words.{both, has_words, removal_head}

-- the two have one kind and one name
pub record OneSubject (t u : List ℕ) : Type 0 where
  pub first : Head
  pub second : Head
  pub first_is : head_of t ≡ Some first
  pub second_is : head_of u ≡ Some second
  pub kind : first.kind ≡ second.kind
  pub name : first.name ≡ second.name

same_bytes : (xs ys : List ℕ) → bytes_eq xs ys ≡ true → xs ≡ ys
same_bytes xs ys is = (bytes_eq-Decides xs ys).0 is

bytes_same : (xs ys : List ℕ) → xs ≡ ys → bytes_eq xs ys ≡ true
bytes_same xs ys is = (bytes_eq-Decides xs ys).1 is

about_is : (t u : List ℕ) (o q : Option Head) → head_of t ≡ o → head_of u ≡ q → is_same_subject o q ≡ true → OneSubject t u
about_is t u None q ts us is = absurd (cc)
about_is t u (Some a) None ts us is = absurd (cc)
about_is t u (Some a) (Some b) ts us is =
    let parts = both (bytes_eq a.kind b.kind) (bytes_eq a.name b.name) is in
    record { first = a; second = b; first_is = ts; second_is = us; kind = same_bytes a.kind b.kind parts.0; name = same_bytes a.name b.name parts.1 }

pub about : (t u : List ℕ) → are_about_one t u ≡ true → OneSubject t u
about t u is = about_is t u (head_of t) (head_of u) refl refl is

pub is_about_it : (a b : Head) → a.kind ≡ b.kind → a.name ≡ b.name → is_about a (Some b) ≡ true
is_about_it a b kind name = rw (bytes_same a.kind b.kind kind) (bytes_same a.name b.name name)

pub about_one : (t u : List ℕ) (a b : Head) → head_of t ≡ Some a → head_of u ≡ Some b → a.kind ≡ b.kind → a.name ≡ b.name → are_about_one t u ≡ true
about_one t u a b ts us kind name = ap (λ o. is_same_subject o (head_of u)) ts ∙ ap (λ o. is_about a o) us ∙ is_about_it a b kind name

pub turned : (t u : List ℕ) → are_about_one t u ≡ true → are_about_one u t ≡ true
turned t u is = let both_are = about t u is in about_one u t both_are.second both_are.first both_are.second_is both_are.first_is (sym both_are.kind) (sym both_are.name)

-- a head and a text that has another head of the same kind and name
pub named : (h : Head) (t : List ℕ) (a : Head) → head_of t ≡ Some a → h.kind ≡ a.kind → h.name ≡ a.name → is_about h (head_of t) ≡ true
named h t a ts kind name = ap (λ o. is_about h o) ts ∙ is_about_it h a kind name

-- ---- removals

-- the removal of what was put, and is wanted no more
pub record IsRemoval (kept wanted : List (List ℕ)) (p : List ℕ) : Type 0 where
  pub old : List ℕ
  pub head : Head
  pub there : Contains kept old
  pub head_is : head_of old ≡ Some head
  pub puts_it : puts head ≡ true
  pub unnamed : list_any (λ t. is_about head (head_of t)) wanted ≡ false
  pub is : removal head ≡ p

choice : (b : Bool) (x y : List ℕ) → cond b (Some x) None ≡ Some y → (b ≡ true) × (x ≡ y)
choice true x y is = (refl, cc)
choice false x y is = absurd (cc)

no_not : (b : Bool) → not b ≡ true → b ≡ false
no_not false is = refl
no_not true is = absurd (cc)

removal_by_head : (kept wanted : List (List ℕ)) (old p : List ℕ) (o : Option Head) → Contains kept old → head_of old ≡ o → option_and_then (removal_by wanted) o ≡ Some p → IsRemoval kept wanted p
removal_by_head kept wanted old p None there is made = absurd (cc)
removal_by_head kept wanted old p (Some h) there is made =
    let chosen = choice (puts h && not (list_any (λ t. is_about h (head_of t)) wanted)) (removal h) p made in
    let parts = both (puts h) (not (list_any (λ t. is_about h (head_of t)) wanted)) chosen.0 in
    record { old = old; head = h; there = there; head_is = is; puts_it = parts.0; unnamed = no_not (list_any (λ t. is_about h (head_of t)) wanted) parts.1; is = chosen.1 }

pub removed : (kept wanted : List (List ℕ)) (p : List ℕ) → Contains (filter_map (removal_of wanted) kept) p → IsRemoval kept wanted p
removed kept wanted p is =
    let found = given_by (removal_of wanted) kept p is in
    removal_by_head kept wanted found.0 p (head_of found.0) found.1 refl found.2

pub removes : (kept wanted : List (List ℕ)) (old : List ℕ) (h : Head) → Contains kept old → head_of old ≡ Some h → puts h ≡ true
    → list_any (λ t. is_about h (head_of t)) wanted ≡ false → Contains (filter_map (removal_of wanted) kept) (removal h)
removes kept wanted old h there is puts_it unnamed =
    let test : (puts h && not (list_any (λ t. is_about h (head_of t)) wanted)) ≡ true = rw (puts_it, unnamed) refl in
    let made : removal_of wanted old ≡ Some (removal h) = ap (option_and_then (removal_by wanted)) is ∙ ap (λ b. cond b (Some (removal h)) None) test in
    gives (removal_of wanted) kept old (removal h) there made

-- a removal is about what was put
pub removal_about : (old : List ℕ) (h : Head) → head_of old ≡ Some h → head_of (removal h) ≡ Some (record { verb = codes "remove"; kind = h.kind; name = h.name })
removal_about old h is = removal_head h (has_words old h is)

-- and no put
pub removal_puts_none : (old : List ℕ) (h : Head) → head_of old ≡ Some h → is_put (removal h) ≡ false
removal_puts_none old h is = ap puts_by (removal_about old h is)

-- ---- plans

-- what is planned is wanted, and the group has it not; or it is a removal
pub plan_cases : (kept wanted : List (List ℕ)) (p : List ℕ) → Contains (plan_of [] kept wanted) p
    → (Contains wanted p × (list_any (bytes_eq p) kept ≡ false)) ⊎ IsRemoval kept wanted p
plan_cases kept wanted p is = by_cases (Contains-append_cases (missing [] kept wanted) (filter_map (removal_of wanted) kept) p is)
  where
    by_cases : Contains (missing [] kept wanted) p ⊎ Contains (filter_map (removal_of wanted) kept) p → (Contains wanted p × (list_any (bytes_eq p) kept ≡ false)) ⊎ IsRemoval kept wanted p
    by_cases (inl one) = inl (filtered (λ t. not (list_any (bytes_eq t) kept)) wanted p one, no_not (list_any (bytes_eq p) kept) (passes (λ t. not (list_any (bytes_eq t) kept)) wanted p one))
    by_cases (inr other) = inr (removed kept wanted p other)

pub planned_missing : (kept wanted : List (List ℕ)) (p : List ℕ) → Contains wanted p → list_any (bytes_eq p) kept ≡ false → Contains (plan_of [] kept wanted) p
planned_missing kept wanted p is none =
    Contains-append_left (missing [] kept wanted) (filter_map (removal_of wanted) kept) p
    (keeps (λ t. not (list_any (bytes_eq t) kept)) wanted p is (ap not none))

pub planned_removal : (kept wanted : List (List ℕ)) (p : List ℕ) → Contains (filter_map (removal_of wanted) kept) p → Contains (plan_of [] kept wanted) p
planned_removal kept wanted p is = Contains-append_right (missing [] kept wanted) (filter_map (removal_of wanted) kept) p is

-- no wanted text is about what a removal is about
pub never_both : (kept wanted : List (List ℕ)) (w p : List ℕ) → Contains wanted w → IsRemoval kept wanted p → are_about_one w p ≡ true → ⊥
never_both kept wanted w p there gone same =
    let one = about w (removal gone.head) (ap (are_about_one w) gone.is ∙ same) in
    let second : record { verb = codes "remove"; kind = gone.head.kind; name = gone.head.name } ≡ one.second = some_is _ _ (sym (removal_about gone.old gone.head gone.head_is) ∙ one.second_is) in
    let kind : gone.head.kind ≡ one.first.kind = ap (λ (h : Head). h.kind) second ∙ sym one.kind in
    let name : gone.head.name ≡ one.first.name = ap (λ (h : Head). h.name) second ∙ sym one.name in
    let yes : is_about gone.head (head_of w) ≡ true = named gone.head w one.first one.first_is kind name in
    let no : is_about gone.head (head_of w) ≡ false = none_passes (λ t. is_about gone.head (head_of t)) wanted w gone.unnamed there in
    absurd (cc)
  where
    some_is : (a b : Head) → Some a ≡ Some b → a ≡ b
    some_is a b is = cc
