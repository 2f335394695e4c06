-- What stood at a ticket stays known, whatever is planned and received later.
use Rattle.std.proofs.Common.{◌≡◌, ℕ, ◌+◌, ◌-◌, ◌<◌, List, [], ◌∷◌, ◌++◌, length, map, filter, Bool, true, false, cond, not, ◌&&◌, nat_lt, eqb, ◌⊎◌, ◌↔◌, codes, inl, inr, Option, Some, None, option_map, IsSome, Contains, refl, sym, ap, subst, ◌∙◌, arith}
use Rattle.std.specs.List.{list_any, find, fold, filter_map}
use Rattle.std.specs.Str.{bytes_eq}
use Rattle.std.proofs.lemmas.List.Elements.{All-contains_itself, Contains-append_cases, Contains-append_left, Contains-append_right, Contains-push, Contains-push_cases}
use Rattle.std.proofs.lemmas.List.Sums.{fold-append}
use Rattle.editor_ledger.specs.Books.{Given, Book, fresh}
use Rattle.editor_ledger.specs.Heads.{Head, head_of, is_about, is_same_subject, are_about_one, puts_by, is_put, removal, release_text}
use Rattle.editor_ledger.specs.Histories.{Event, plans, releases, receives, notes, says, after, after_all}
use Rattle.editor_ledger.specs.Laws.{AreApart, PastsStay}
use Rattle.editor_ledger.specs.Past.{is_among, with_first, olds_since}
use Rattle.editor_ledger.specs.Plans.{plan_of, before_by, before_text, or_removal, overtaken}
use Rattle.editor_ledger.specs.Steps.{is_idle, has_unshown, with_tickets, with_past, with_text, without, received_as}
use Rattle.editor_ledger.proofs.Members.{here, later, cases, nowhere, filtered, passes, keeps, none_passes, some_passes, tested, given_by, gives}
use Rattle.editor_ledger.proofs.Subjects.{about, about_one, turned, removal_about, removal_puts_none}
use Rattle.editor_ledger.proofs.Tickets.{found, of_history}
use Rattle.editor_ledger.proofs.Turning.{ticket_place, text_apart, events_apart}

-- ---- one subject

some_is : (a b : Head) → Some a ≡ Some b → a ≡ b
some_is a b is = cc

pub joined : (t u v : List ℕ) → are_about_one t u ≡ true → are_about_one u v ≡ true → are_about_one t v ≡ true
joined t u v first second =
    let a = about t u first in
    let b = about u v second in
    let same : a.second ≡ b.first = some_is _ _ (sym a.second_is ∙ b.first_is) in
    about_one t v a.first b.second a.first_is b.second_is
    (a.kind ∙ ap (λ (h : Head). h.kind) same ∙ b.kind)
    (a.name ∙ ap (λ (h : Head). h.name) same ∙ b.name)

no_not : (b : Bool) → not b ≡ true → b ≡ false
no_not false is = refl
no_not true is = absurd (cc)

any_passes : {X : Type 0} (p : X → Bool) (xs : List X) (x : X) → Contains xs x → p x ≡ true → list_any p xs ≡ true
any_passes {X} p xs x is test = by_cases (tested (list_any p xs))
  where
    by_cases : (list_any p xs ≡ true) ⊎ (list_any p xs ≡ false) → list_any p xs ≡ true
    by_cases (inl some) = some
    by_cases (inr lacks) = let none : p x ≡ false = none_passes p xs x lacks is in absurd (cc)

-- one of the texts is about what another text is about
among_too : (olds : List (List ℕ)) (t u : List ℕ) → is_among olds t ≡ true → are_about_one u t ≡ true → is_among olds u ≡ true
among_too olds t u is one =
    let other = some_passes (are_about_one t) olds is in
    any_passes (are_about_one u) olds other.0 other.1 (joined u t other.0 one other.2)

-- ---- what stood

-- the olds, and of other kinds and names what is kept
abbrev stood : List (List ℕ) → List (List ℕ) → List (List ℕ)
stood olds kept = filter (λ t. not (is_among olds t)) kept ++ olds

stood_cases : (olds kept : List (List ℕ)) (t : List ℕ) → Contains (stood olds kept) t → (Contains kept t × (is_among olds t ≡ false)) ⊎ Contains olds t
stood_cases olds kept t is = by_cases (Contains-append_cases (filter (λ u. not (is_among olds u)) kept) olds t is)
  where
    by_cases : Contains (filter (λ u. not (is_among olds u)) kept) t ⊎ Contains olds t → (Contains kept t × (is_among olds t ≡ false)) ⊎ Contains olds t
    by_cases (inl one) = inl (filtered (λ u. not (is_among olds u)) kept t one, no_not (is_among olds t) (passes (λ u. not (is_among olds u)) kept t one))
    by_cases (inr other) = inr other

stood_kept : (olds kept : List (List ℕ)) (t : List ℕ) → Contains kept t → is_among olds t ≡ false → Contains (stood olds kept) t
stood_kept olds kept t is none =
    Contains-append_left (filter (λ u. not (is_among olds u)) kept) olds t (keeps (λ u. not (is_among olds u)) kept t is (ap not none))

stood_old : (olds kept : List (List ℕ)) (t : List ℕ) → Contains olds t → Contains (stood olds kept) t
stood_old olds kept t is = Contains-append_right (filter (λ u. not (is_among olds u)) kept) olds t is

-- the two put the same
abbrev PutsSame : List (List ℕ) → List (List ℕ) → Type 0
PutsSame texts others = (t : List ℕ) → is_put t ≡ true → Contains texts t ↔ Contains others t

-- ---- what stands before a text

-- the text stands before p: it is kept, or it puts nothing and nothing that is kept is about the same
record Before (kept : List (List ℕ)) (p x : List ℕ) : Type 0 where
  one : are_about_one p x ≡ true
  is : Contains kept x ⊎ ((is_put x ≡ false) × ((t : List ℕ) → Contains kept t → are_about_one x t ≡ false))

same_about : (verb : List ℕ) (h : Head) (o : Option Head) → is_about (record { verb = verb; kind = h.kind; name = h.name }) o ≡ is_about h o
same_about verb h None = refl
same_about verb h (Some other) = refl

none_found : {X : Type 0} (p : X → Bool) (xs : List X) (x : X) → find p xs ≡ None → Contains xs x → p x ≡ false
none_found p [] x none is = absurd (nowhere x is)
none_found {X} p (y ∷ xs) x none is = by_cases (tested (p y)) (cases y xs x is) (none_found p xs x)
  where
    by_cases : (p y ≡ true) ⊎ (p y ≡ false) → (y ≡ x) ⊎ Contains xs x → (find p xs ≡ None → Contains xs x → p x ≡ false) → p x ≡ false
    by_cases (inl test) place more =
        let never : Some y ≡ None = sym (ap (λ b. cond b (Some y) (find p xs)) test) ∙ none in
        absurd (cc)
    by_cases (inr fails) (inl same) more = ap p (sym same) ∙ fails
    by_cases (inr fails) (inr rest) more = more (sym (ap (λ b. cond b (Some y) (find p xs)) fails) ∙ none) rest

found_passes : {X : Type 0} (q : X → Bool) (xs : List X) (x : X) → find q xs ≡ Some x → q x ≡ true
found_passes q [] x is = absurd (cc)
found_passes {X} q (y ∷ xs) x is = by_test (tested (q y)) (found_passes q xs x)
  where
    by_test : (q y ≡ true) ⊎ (q y ≡ false) → (find q xs ≡ Some x → q x ≡ true) → q x ≡ true
    by_test (inl test) more =
        let same : Some y ≡ Some x = sym (ap (λ b. cond b (Some y) (find q xs)) test) ∙ is in
        let equal : y ≡ x = cc in
        ap q (sym equal) ∙ test
    by_test (inr fails) more = more (sym (ap (λ b. cond b (Some y) (find q xs)) fails) ∙ is)

found_before : (kept : List (List ℕ)) (p : List ℕ) (h : Head) (o : Option (List ℕ)) → head_of p ≡ Some h
    → find (λ t. is_about h (head_of t)) kept ≡ o → Before kept p (or_removal h o)
found_before kept p h None head_is is =
    let removed : head_of (removal h) ≡ Some (record { verb = codes "remove"; kind = h.kind; name = h.name }) = removal_about p h head_is in
    record {
      one = about_one p (removal h) h (record { verb = codes "remove"; kind = h.kind; name = h.name }) head_is removed refl refl;
      is = inr (
        removal_puts_none p h head_is,
        λ t there. ap (λ o. is_same_subject o (head_of t)) removed ∙ same_about (codes "remove") h (head_of t) ∙ none_found (λ u. is_about h (head_of u)) kept t is there,
      );
    }
found_before kept p h (Some u) head_is is =
    let test : is_about h (head_of u) ≡ true = found_passes (λ t. is_about h (head_of t)) kept u is in
    record {
      one = ap (λ o. is_same_subject o (head_of u)) head_is ∙ test;
      is = inl (found (λ t. is_about h (head_of t)) (Contains kept) kept u (All-contains_itself kept) is);
    }

before_is : (kept : List (List ℕ)) (p : List ℕ) (h : Head) → head_of p ≡ Some h → Before kept p (before_by kept h)
before_is kept p h is = found_before kept p h (find (λ t. is_about h (head_of t)) kept) is refl

was_before : (kept : List (List ℕ)) (p x : List ℕ) (o : Option Head) → head_of p ≡ o → option_map (before_by kept) o ≡ Some x → Before kept p x
was_before kept p x None is made = absurd (cc)
was_before kept p x (Some h) is made =
    let same : before_by kept h ≡ x = cc in
    subst (λ u. Before kept p u) same (before_is kept p h is)

-- ---- texts that are overtaken

-- more is known, and the same stood
record Grown (kept olds news : List (List ℕ)) : Type 0 where
  more : (t : List ℕ) → is_among olds t ≡ true → is_among news t ≡ true
  same : PutsSame (stood news kept) (stood olds kept)

unchanged : (kept olds : List (List ℕ)) → Grown kept olds olds
unchanged kept olds = record { more = λ t is. is; same = λ t put. (λ is. is, λ is. is) }

joins : (kept olds mids news : List (List ℕ)) → Grown kept olds mids → Grown kept mids news → Grown kept olds news
joins kept olds mids news first second = record {
  more = λ t is. second.more t (first.more t is);
  same = λ t put. (λ is. (first.same t put).0 ((second.same t put).0 is), λ is. (second.same t put).1 ((first.same t put).1 is));
}

among_more : (olds : List (List ℕ)) (x t : List ℕ) → is_among olds t ≡ true → is_among (olds ++ x ∷ []) t ≡ true
among_more olds x t is =
    let other = some_passes (are_about_one t) olds is in
    any_passes (are_about_one t) (olds ++ x ∷ []) other.0 (Contains-append_left olds (x ∷ []) other.0 other.1) other.2

among_itself : (kept olds : List (List ℕ)) (p x : List ℕ) → Before kept p x → is_among (olds ++ x ∷ []) x ≡ true
among_itself kept olds p x before =
    any_passes (are_about_one x) (olds ++ x ∷ []) x (Contains-push olds x) (joined x p x (turned p x before.one) before.one)

not_before : (olds : List (List ℕ)) (x t : List ℕ) → is_among (olds ++ x ∷ []) t ≡ false → is_among olds t ≡ false
not_before olds x t none = by_cases (tested (is_among olds t))
  where
    by_cases : (is_among olds t ≡ true) ⊎ (is_among olds t ≡ false) → is_among olds t ≡ false
    by_cases (inl some) = let more : is_among (olds ++ x ∷ []) t ≡ true = among_more olds x t some in absurd (cc)
    by_cases (inr lacks) = lacks

grown_by : (kept olds : List (List ℕ)) (p x : List ℕ) → AreApart kept → Before kept p x → is_among olds x ≡ false → Grown kept olds (olds ++ x ∷ [])
grown_by kept olds p x apart before none = record {
  more = among_more olds x;
  same = λ t put. (λ is. back t put (stood_cases (olds ++ x ∷ []) kept t is), λ is. forth t put (stood_cases olds kept t is));
}
  where
    was : (t : List ℕ) → is_put t ≡ true → x ≡ t → Contains kept x ⊎ ((is_put x ≡ false) × ((u : List ℕ) → Contains kept u → are_about_one x u ≡ false)) → Contains (stood olds kept) t
    was t put same (inl there) = subst (λ u. Contains (stood olds kept) u) same (stood_kept olds kept x there none)
    was t put same (inr gone) = let no : is_put t ≡ false = ap is_put (sym same) ∙ gone.0 in absurd (cc)

    pushed : (t : List ℕ) → is_put t ≡ true → Contains olds t ⊎ (x ≡ t) → Contains (stood olds kept) t
    pushed t put (inl old) = stood_old olds kept t old
    pushed t put (inr same) = was t put same before.is

    back : (t : List ℕ) → is_put t ≡ true → (Contains kept t × (is_among (olds ++ x ∷ []) t ≡ false)) ⊎ Contains (olds ++ x ∷ []) t → Contains (stood olds kept) t
    back t put (inl one) = stood_kept olds kept t one.0 (not_before olds x t one.1)
    back t put (inr other) = pushed t put (Contains-push_cases olds x t other)

    is_x : (t : List ℕ) → Contains kept t → are_about_one t x ≡ true → Contains kept x ⊎ ((is_put x ≡ false) × ((u : List ℕ) → Contains kept u → are_about_one x u ≡ false)) → Contains (stood (olds ++ x ∷ []) kept) t
    is_x t there one (inl had) = subst (λ u. Contains (stood (olds ++ x ∷ []) kept) u) (sym (apart t x there had one)) (stood_old (olds ++ x ∷ []) kept x (Contains-push olds x))
    is_x t there one (inr gone) =
        let yes : are_about_one x t ≡ true = turned t x one in
        let no : are_about_one x t ≡ false = gone.1 t there in
        absurd (cc)

    which : (t y : List ℕ) → Contains kept t → is_among olds t ≡ false → are_about_one t y ≡ true → Contains olds y ⊎ (x ≡ y) → Contains (stood (olds ++ x ∷ []) kept) t
    which t y there lacks one (inl old) = let yes : is_among olds t ≡ true = any_passes (are_about_one t) olds y old one in absurd (cc)
    which t y there lacks one (inr same) = is_x t there (ap (are_about_one t) same ∙ one) before.is

    still : (t : List ℕ) → Contains kept t → is_among olds t ≡ false → (is_among (olds ++ x ∷ []) t ≡ true) ⊎ (is_among (olds ++ x ∷ []) t ≡ false) → Contains (stood (olds ++ x ∷ []) kept) t
    still t there lacks (inr none_more) = stood_kept (olds ++ x ∷ []) kept t there none_more
    still t there lacks (inl some) =
        let other = some_passes (are_about_one t) (olds ++ x ∷ []) some in
        which t other.0 there lacks other.2 (Contains-push_cases olds x other.0 other.1)

    forth : (t : List ℕ) → is_put t ≡ true → (Contains kept t × (is_among olds t ≡ false)) ⊎ Contains olds t → Contains (stood (olds ++ x ∷ []) kept) t
    forth t put (inl one) = still t one.0 one.1 (tested (is_among (olds ++ x ∷ []) t))
    forth t put (inr old) = stood_old (olds ++ x ∷ []) kept t (Contains-append_left olds (x ∷ []) t old)

abbrev entry : ℕ → List ℕ → Given
entry number text = record { number = number; text = text }

-- one more that was overtaken later than the ticket
one_more : (ticket next : ℕ) (kept olds : List (List ℕ)) (p x : List ℕ) (b : Bool) → nat_lt ticket next ≡ true → AreApart kept → Before kept p x → is_among olds x ≡ b
    → Grown kept olds (with_first ticket olds (entry next x)) × (is_among (with_first ticket olds (entry next x)) x ≡ true)
one_more ticket next kept olds p x true lt apart before is =
    let same : with_first ticket olds (entry next x) ≡ olds =
    ap (λ c. cond (c && not (is_among olds x)) (olds ++ x ∷ []) olds) lt ∙ ap (λ c. cond (not c) (olds ++ x ∷ []) olds) is in
    (subst (λ os. Grown kept olds os) (sym same) (unchanged kept olds), ap (λ os. is_among os x) same ∙ is)
one_more ticket next kept olds p x false lt apart before is =
    let same : with_first ticket olds (entry next x) ≡ olds ++ x ∷ [] =
    ap (λ c. cond (c && not (is_among olds x)) (olds ++ x ∷ []) olds) lt ∙ ap (λ c. cond (not c) (olds ++ x ∷ []) olds) is in
    (subst (λ os. Grown kept olds os) (sym same) (grown_by kept olds p x apart before is), ap (λ os. is_among os x) same ∙ among_itself kept olds p x before)

all_more : (ticket next : ℕ) (kept xs olds : List (List ℕ)) → nat_lt ticket next ≡ true → AreApart kept → ((x : List ℕ) → Contains xs x → (p : List ℕ) × Before kept p x)
    → Grown kept olds (fold (with_first ticket) olds (map (entry next) xs)) × ((x : List ℕ) → Contains xs x → is_among (fold (with_first ticket) olds (map (entry next) xs)) x ≡ true)
all_more ticket next kept [] olds lt apart before = (unchanged kept olds, λ x is. absurd (nowhere x is))
all_more ticket next kept (y ∷ xs) olds lt apart before =
    let first = before y (here y xs) in
    let one = one_more ticket next kept olds first.0 y (is_among olds y) lt apart first.1 refl in
    let rest = all_more ticket next kept xs (with_first ticket olds (entry next y)) lt apart (λ x is. before x (later y xs x is)) in (
      joins kept olds (with_first ticket olds (entry next y)) (fold (with_first ticket) (with_first ticket olds (entry next y)) (map (entry next) xs)) one.0 rest.0,
      λ x is. by_cases x one.1 rest.0.more rest.1 (cases y xs x is),
    )
  where
    by_cases : (x : List ℕ) → is_among (with_first ticket olds (entry next y)) y ≡ true
        → ((t : List ℕ) → is_among (with_first ticket olds (entry next y)) t ≡ true → is_among (fold (with_first ticket) (with_first ticket olds (entry next y)) (map (entry next) xs)) t ≡ true)
        → ((t : List ℕ) → Contains xs t → is_among (fold (with_first ticket) (with_first ticket olds (entry next y)) (map (entry next) xs)) t ≡ true)
        → (y ≡ x) ⊎ Contains xs x → is_among (fold (with_first ticket) (with_first ticket olds (entry next y)) (map (entry next) xs)) x ≡ true
    by_cases x itself more rest (inl same) = subst (λ t. is_among (fold (with_first ticket) (with_first ticket olds (entry next y)) (map (entry next) xs)) t ≡ true) same (more y itself)
    by_cases x itself more rest (inr among) = rest x among

-- ---- a ledger remembers

-- it knows texts that stood at the ticket
record Remembers (texts : List (List ℕ)) (ticket : ℕ) (book : Book) : Type 0 where
  below : ticket < book.next
  apart : AreApart book.kept
  same : PutsSame (stood (olds_since ticket book.past) book.kept) texts
  covered : (g : Given) → Contains book.sent g → IsSome (head_of g.text) → is_among (olds_since ticket book.past) g.text ≡ true

some_head : (t : List ℕ) (o : Option Head) → head_of t ≡ o → IsSome o → (h : Head) × (head_of t ≡ Some h)
some_head t None is some = let never : false ≡ true = some in absurd (cc)
some_head t (Some h) is some = (h, is)

-- what a plan leaves
plans_more : (texts : List (List ℕ)) (ticket : ℕ) (plan : List (List ℕ)) (book : Book) → Remembers texts ticket book → Remembers texts ticket (with_tickets plan (with_past plan book))
plans_more texts ticket plan book is = record {
  below = omega (arith, is.below);
  apart = is.apart;
  same = λ t put. (
    λ there. (is.same t put).0 ((grown.0.same t put).0 (subst (λ os. Contains (stood os book.kept) t) appended there)),
    λ there. subst (λ os. Contains (stood os book.kept) t) (sym appended) ((grown.0.same t put).1 ((is.same t put).1 there)),
  );
  covered = λ g there some. ap (λ os. is_among os g.text) appended ∙ covers g.text (ticket_place book.next plan g there).3 (some_head g.text (head_of g.text) refl some);
}
  where
    appended : olds_since ticket (book.past ++ overtaken book.next book.kept plan) ≡ fold (with_first ticket) (olds_since ticket book.past) (map (entry book.next) (filter_map (before_text book.kept) plan))
    appended = fold-append (with_first ticket) [] book.past (overtaken book.next book.kept plan)

    lt : nat_lt ticket book.next ≡ true
    lt = let below = is.below in grind (arith, below)

    each : (x : List ℕ) → Contains (filter_map (before_text book.kept) plan) x → (p : List ℕ) × Before book.kept p x
    each x among =
        let from = given_by (before_text book.kept) plan x among in
        (from.0, was_before book.kept from.0 x (head_of from.0) refl from.2)

    grown : Grown book.kept (olds_since ticket book.past) (fold (with_first ticket) (olds_since ticket book.past) (map (entry book.next) (filter_map (before_text book.kept) plan)))
        × ((x : List ℕ) → Contains (filter_map (before_text book.kept) plan) x → is_among (fold (with_first ticket) (olds_since ticket book.past) (map (entry book.next) (filter_map (before_text book.kept) plan))) x ≡ true)
    grown = all_more ticket book.next book.kept (filter_map (before_text book.kept) plan) (olds_since ticket book.past) lt is.apart each

    covers : (p : List ℕ) → Contains plan p → (h : Head) × (head_of p ≡ Some h)
        → is_among (fold (with_first ticket) (olds_since ticket book.past) (map (entry book.next) (filter_map (before_text book.kept) plan))) p ≡ true
    covers p there head =
        let among : Contains (filter_map (before_text book.kept) plan) (before_by book.kept head.0) =
        gives (before_text book.kept) plan p (before_by book.kept head.0) there (ap (option_map (before_by book.kept)) head.1) in
        among_too _ (before_by book.kept head.0) p (grown.1 (before_by book.kept head.0) among) (before_is book.kept p head.0 head.1).one

chosen : (texts : List (List ℕ)) (ticket : ℕ) (b : Bool) (x book : Book) → Remembers texts ticket book → Remembers texts ticket x → Remembers texts ticket (cond b x book)
chosen texts ticket true x book is other = other
chosen texts ticket false x book is other = is

-- a release is about nothing
no_subject : (g : Given) → g.text ≡ release_text → IsSome (head_of g.text) → false ≡ true
no_subject g same some = let no : IsSome (head_of release_text) = subst (λ u. IsSome (head_of u)) same some in no

lone_release : (number : ℕ) (g : Given) → Contains (record { number = number; text = release_text } ∷ []) g → g.text ≡ release_text
lone_release number g is = by_cases (cases (record { number = number; text = release_text }) [] g is)
  where
    by_cases : (record { number = number; text = release_text } ≡ g) ⊎ Contains [] g → g.text ≡ release_text
    by_cases (inl same) = sym (ap (λ (h : Given). h.text) same)
    by_cases (inr none) = absurd (nowhere g none)

-- a text comes: it is about what is among the olds already
comes : (texts : List (List ℕ)) (ticket number : ℕ) (book : Book) (g : Given) → Contains book.sent g → Remembers texts ticket book
    → AreApart (with_text g.text book.kept) → Remembers texts ticket (without number (record book { kept = with_text g.text book.kept }))
comes texts ticket number book g there is apart = record {
  below = is.below;
  apart = apart;
  same = λ t put. (
    λ among. (is.same t put).0 (back t put (stood_cases (olds_since ticket book.past) (with_text g.text book.kept) t among)),
    λ among. forth t (stood_cases (olds_since ticket book.past) book.kept t ((is.same t put).1 among)),
  );
  covered = λ h on some. is.covered h (filtered (λ k. not (eqb k.number number)) book.sent h on) some;
}
  where
    put_head : (t : List ℕ) (o : Option Head) → head_of t ≡ o → is_put t ≡ true → IsSome (head_of t)
    put_head t None of put =
        let no : is_put t ≡ false = ap puts_by of in
        absurd (cc)
    put_head t (Some h) of put = subst (λ o. IsSome o) (sym of) refl

    pushed : (t : List ℕ) → is_put t ≡ true → is_among (olds_since ticket book.past) t ≡ false → Contains (filter (λ u. not (are_about_one g.text u)) book.kept) t ⊎ (g.text ≡ t) → Contains (stood (olds_since ticket book.past) book.kept) t
    pushed t put none (inl old) = stood_kept (olds_since ticket book.past) book.kept t (filtered (λ u. not (are_about_one g.text u)) book.kept t old) none
    pushed t put none (inr same) =
        let some : IsSome (head_of g.text) = subst (λ u. IsSome (head_of u)) (sym same) (put_head t (head_of t) refl put) in
        let yes : is_among (olds_since ticket book.past) t ≡ true = ap (is_among (olds_since ticket book.past)) (sym same) ∙ is.covered g there some in
        absurd (cc)

    back : (t : List ℕ) → is_put t ≡ true → (Contains (with_text g.text book.kept) t × (is_among (olds_since ticket book.past) t ≡ false)) ⊎ Contains (olds_since ticket book.past) t
        → Contains (stood (olds_since ticket book.past) book.kept) t
    back t put (inl one) = pushed t put one.1 (Contains-push_cases (filter (λ u. not (are_about_one g.text u)) book.kept) g.text t one.0)
    back t put (inr old) = stood_old (olds_since ticket book.past) book.kept t old

    head_some : (t : List ℕ) → are_about_one g.text t ≡ true → IsSome (head_of g.text)
    head_some t one = let both_are = about g.text t one in subst (λ o. IsSome o) (sym both_are.first_is) refl

    kept_still : (t : List ℕ) → Contains book.kept t → is_among (olds_since ticket book.past) t ≡ false → (are_about_one g.text t ≡ true) ⊎ (are_about_one g.text t ≡ false) → Contains (with_text g.text book.kept) t
    kept_still t had none (inl one) =
        let yes : is_among (olds_since ticket book.past) t ≡ true = among_too (olds_since ticket book.past) g.text t (is.covered g there (head_some t one)) (turned g.text t one) in
        absurd (cc)
    kept_still t had none (inr other) = Contains-append_left (filter (λ u. not (are_about_one g.text u)) book.kept) (g.text ∷ []) t (keeps (λ u. not (are_about_one g.text u)) book.kept t had (ap not other))

    forth : (t : List ℕ) → (Contains book.kept t × (is_among (olds_since ticket book.past) t ≡ false)) ⊎ Contains (olds_since ticket book.past) t
        → Contains (stood (olds_since ticket book.past) (with_text g.text book.kept)) t
    forth t (inl one) = stood_kept (olds_since ticket book.past) (with_text g.text book.kept) t (kept_still t one.0 one.1 (tested (are_about_one g.text t))) one.1
    forth t (inr old) = stood_old (olds_since ticket book.past) (with_text g.text book.kept) t old

noted_too : (texts : List (List ℕ)) (ticket number : ℕ) (b : Bool) (book : Book) (g : Given) → Contains book.sent g → Remembers texts ticket book
    → AreApart (with_text g.text book.kept) → Remembers texts ticket (without number (cond b (record book { last_release = g.number }) (record book { kept = with_text g.text book.kept })))
noted_too texts ticket number true book g there is apart = record {
  below = is.below;
  apart = is.apart;
  same = is.same;
  covered = λ h on some. is.covered h (filtered (λ k. not (eqb k.number number)) book.sent h on) some;
}
noted_too texts ticket number false book g there is apart = comes texts ticket number book g there is apart

receives_one : (texts : List (List ℕ)) (ticket number : ℕ) (r : Option Given) (book : Book) → find (λ (h : Given). eqb h.number number) book.sent ≡ r
    → Remembers texts ticket book → Remembers texts ticket (received_as number r book)
receives_one texts ticket number None book is had = had
receives_one texts ticket number (Some g) book is had =
    let there : Contains book.sent g = found (λ (h : Given). eqb h.number number) (Contains book.sent) book.sent g (All-contains_itself book.sent) is in
    noted_too texts ticket number (bytes_eq g.text release_text) book g there had (text_apart g.text book.kept had.apart)

remembers : (texts : List (List ℕ)) (ticket : ℕ) (event : Event) (book : Book) → Remembers texts ticket book → Remembers texts ticket (after event book)
remembers texts ticket (plans again wanted) book is =
    chosen texts ticket (is_idle book) (with_tickets (plan_of again book.kept wanted) (with_past (plan_of again book.kept wanted) book)) book is
    (plans_more texts ticket (plan_of again book.kept wanted) book is)
remembers texts ticket releases book is =
    chosen texts ticket (is_idle book && has_unshown book) (with_tickets (release_text ∷ []) book) book is (record {
      below = omega (arith, is.below);
      apart = is.apart;
      same = is.same;
      covered = λ g there some. let never : false ≡ true = no_subject g (lone_release book.next g there) some in absurd (cc);
    })
remembers texts ticket (receives number) book is = receives_one texts ticket number (find (λ (h : Given). eqb h.number number) book.sent) book refl is
remembers texts ticket (notes released) book is = record { below = is.below; apart = is.apart; same = is.same; covered = is.covered }
remembers texts ticket (says release text) book is = record { below = is.below; apart = is.apart; same = is.same; covered = is.covered }

remembers_all : (texts : List (List ℕ)) (ticket : ℕ) (events : List Event) (book : Book) → Remembers texts ticket book → Remembers texts ticket (after_all events book)
remembers_all texts ticket [] book is = is
remembers_all texts ticket (event ∷ more) book is = remembers_all texts ticket more (after event book) (remembers texts ticket event book is)

-- ---- what was overtaken before stands under lower numbers

abbrev Behind : Book → Type 0
Behind book = (g : Given) → Contains book.past g → g.number < book.next

entry_is : (next : ℕ) (xs : List (List ℕ)) (g : Given) → Contains (map (entry next) xs) g → (g.number ≡ next) × Contains xs g.text
entry_is next [] g is = absurd (nowhere g is)
entry_is next (x ∷ xs) g is = by_cases (cases (entry next x) (map (entry next) xs) g is) (entry_is next xs g)
  where
    by_cases : (entry next x ≡ g) ⊎ Contains (map (entry next) xs) g → (Contains (map (entry next) xs) g → (g.number ≡ next) × Contains xs g.text) → (g.number ≡ next) × Contains (x ∷ xs) g.text
    by_cases (inl same) more = (sym (ap (λ (h : Given). h.number) same), subst (λ t. Contains (x ∷ xs) t) (ap (λ (h : Given). h.text) same) (here x xs))
    by_cases (inr rest) more = let one = more rest in (one.0, later x xs g.text one.1)

behind_plan : (plan : List (List ℕ)) (book : Book) → Behind book → Behind (with_tickets plan (with_past plan book))
behind_plan plan book is g there = by_cases (Contains-append_cases book.past (overtaken book.next book.kept plan) g there)
  where
    by_cases : Contains book.past g ⊎ Contains (overtaken book.next book.kept plan) g → g.number < book.next + length plan
    by_cases (inl old) = let below = is g old in omega (arith, below)
    by_cases (inr new) =
        let one = entry_is book.next (filter_map (before_text book.kept) plan) g new in
        let from = given_by (before_text book.kept) plan g.text one.1 in
        omega (arith, one.0, from.1.1)

behind_chosen : (b : Bool) (x book : Book) → Behind book → Behind x → Behind (cond b x book)
behind_chosen true x book is other = other
behind_chosen false x book is other = is

behind_noted : (b : Bool) (number : ℕ) (g : Given) (book : Book) → Behind book → Behind (without number (cond b (record book { last_release = g.number }) (record book { kept = with_text g.text book.kept })))
behind_noted true number g book is = is
behind_noted false number g book is = is

behind_received : (number : ℕ) (r : Option Given) (book : Book) → Behind book → Behind (received_as number r book)
behind_received number None book is = is
behind_received number (Some g) book is = behind_noted (bytes_eq g.text release_text) number g book is

behind : (event : Event) (book : Book) → Behind book → Behind (after event book)
behind (plans again wanted) book is =
    behind_chosen (is_idle book) (with_tickets (plan_of again book.kept wanted) (with_past (plan_of again book.kept wanted) book)) book is (behind_plan (plan_of again book.kept wanted) book is)
behind releases book is =
    behind_chosen (is_idle book && has_unshown book) (with_tickets (release_text ∷ []) book) book is (λ g there. let below = is g there in omega (arith, below))
behind (receives number) book is = behind_received number (find (λ (h : Given). eqb h.number number) book.sent) book is
behind (notes released) book is = is
behind (says release text) book is = is

behind_all : (events : List Event) (book : Book) → Behind book → Behind (after_all events book)
behind_all [] book is = is
behind_all (event ∷ more) book is = behind_all more (after event book) (behind event book is)

none_since : (ticket : ℕ) (past : List Given) (olds : List (List ℕ)) → ((g : Given) → Contains past g → nat_lt ticket g.number ≡ false) → fold (with_first ticket) olds past ≡ olds
none_since ticket [] olds none = refl
none_since ticket (g ∷ past) olds none =
    let first : with_first ticket olds g ≡ olds = ap (λ b. cond (b && not (is_among olds g.text)) (olds ++ g.text ∷ []) olds) (none g (here g past)) in
    ap (λ os. fold (with_first ticket) os past) first ∙ none_since ticket past olds (λ h there. none h (later g past h there))

-- ---- from a ledger with nothing on its way

begins : (book : Book) → book.sent ≡ [] → 0 < book.next → AreApart book.kept → Behind book → Remembers book.kept (book.next - 1) book
begins book idle some apart is = record {
  below = omega (arith, some);
  apart = apart;
  same = λ t put. (
    λ there. all_kept t (stood_cases [] book.kept t (subst (λ os. Contains (stood os book.kept) t) none there)),
    λ there. subst (λ os. Contains (stood os book.kept) t) (sym none) (stood_kept [] book.kept t there refl),
  );
  covered = λ g there with_head. absurd (nowhere g (subst (λ gs. Contains gs g) idle there));
}
  where
    not_later : (g : Given) → Contains book.past g → nat_lt (book.next - 1) g.number ≡ false
    not_later g there = let below = is g there in grind (arith, below)

    none : olds_since (book.next - 1) book.past ≡ []
    none = none_since (book.next - 1) book.past [] not_later

    all_kept : (t : List ℕ) → (Contains book.kept t × (is_among [] t ≡ false)) ⊎ Contains [] t → Contains book.kept t
    all_kept t (inl one) = one.0
    all_kept t (inr other) = absurd (nowhere t other)

pub pasts_stay : PastsStay
pasts_stay editor events more idle t put =
    let of = of_history editor events in
    let start : Remembers (after_all events (fresh editor)).kept ((after_all events (fresh editor)).next - 1) (after_all events (fresh editor)) =
    begins (after_all events (fresh editor)) idle (omega (arith, of.1.next))
    (events_apart events (fresh editor) (λ v w is. absurd (nowhere v is)))
    (behind_all events (fresh editor) (λ g is. absurd (nowhere g is))) in
    (remembers_all _ _ more (after_all events (fresh editor)) start).same t put
