-- A history gives one ticket to each of its texts: the k-th text has the number k, from 1.
use Rattle.std.proofs.Common.{◌≡◌, ℕ, zero, suc, ◌+◌, List, [], ◌∷◌, ◌++◌, length, Bool, true, false, cond, ◌&&◌, not, eqb, Option, Some, None, slice_get, All, refl, sym, ap, subst, ◌∙◌, arith}
use Rattle.std.specs.List.{find}
use Rattle.std.specs.Str.{bytes_eq}
use Rattle.std.proofs.lemmas.List.{append_assoc, append-nil, length-append}
use Rattle.std.proofs.lemmas.List.Elements.{All-nil, All-cons, All-head, All-tail, All-filter, All-contains}
use Rattle.editor_ledger.specs.Books.{Given, Book, fresh}
use Rattle.editor_ledger.specs.Heads.{release_text}
use Rattle.editor_ledger.specs.Histories.{Event, plans, releases, receives, notes, says, after, after_all}
use Rattle.editor_ledger.specs.Laws.{EachTicketHasOneText}
use Rattle.editor_ledger.specs.Plans.{plan_of}
use Rattle.editor_ledger.specs.Steps.{is_idle, has_unshown, numbered, with_tickets, with_past, noted, without, received_as, with_text, logged, messaged}
use Rattle.editor_ledger.proofs.Receipts.{number_found}

-- the text has that number
abbrev pub IsNumberOf : List (List ℕ) → ℕ → List ℕ → Type 0
IsNumberOf texts n t = (k : ℕ) × (n ≡ suc k) × (slice_get texts k ≡ Some t)

abbrev pub IsGiven : List (List ℕ) → Given → Type 0
IsGiven texts g = IsNumberOf texts g.number g.text

-- these are all the texts that ever had a ticket: what is on its way is among them, under its number
pub record IsOf (texts : List (List ℕ)) (book : Book) : Type 0 where
  pub next : book.next ≡ suc (length texts)
  pub each : All (IsGiven texts) book.sent

-- ---- lists

get_before : {X : Type 0} (xs ys : List X) (k : ℕ) (x : X) → slice_get xs k ≡ Some x → slice_get (xs ++ ys) k ≡ Some x
get_before [] ys k x is = cc
get_before (y ∷ xs) ys zero x is = is
get_before (y ∷ xs) ys (suc k) x is = get_before xs ys k x is

get_behind : {X : Type 0} (xs ys : List X) (y : X) → slice_get (xs ++ (y ∷ ys)) (length xs) ≡ Some y
get_behind [] ys y = refl
get_behind (x ∷ xs) ys y = get_behind xs ys y

found_head : {X : Type 0} (t : Bool) (p : X → Bool) (P : X → Type 0) (y x : X) (xs : List X) → P y → (find p xs ≡ Some x → P x) → cond t (Some y) (find p xs) ≡ Some x → P x
found_head true p P y x xs here later is = let same : y ≡ x = cc in subst P same here
found_head false p P y x xs here later is = later is

-- what is found has what each has
pub found : {X : Type 0} (p : X → Bool) (P : X → Type 0) (xs : List X) (x : X) → All P xs → find p xs ≡ Some x → P x
found p P [] x all is = cc
found p P (y ∷ xs) x all is = found_head (p y) p P y x xs (All-head P y xs all) (found p P xs x (All-tail P y xs all)) is

-- ---- growth

still : (texts more : List (List ℕ)) (n : ℕ) (t : List ℕ) → IsNumberOf texts n t → IsNumberOf (texts ++ more) n t
still texts more n t is = (is.0, is.1, get_before texts more is.0 t is.2)

numbered_given : (texts plan : List (List ℕ)) (next : ℕ) → next ≡ suc (length texts) → All (IsGiven (texts ++ plan)) (numbered next plan)
numbered_given texts [] next is = All-nil _
numbered_given texts (t ∷ plan) next is =
    let first : IsNumberOf (texts ++ (t ∷ plan)) next t = (length texts, is, get_behind texts plan t) in
    let length_is : next + 1 ≡ suc (length (texts ++ (t ∷ []))) = omega (arith, length-append texts (t ∷ [])) in
    let later : All (IsGiven ((texts ++ (t ∷ [])) ++ plan)) (numbered (next + 1) plan) = numbered_given (texts ++ (t ∷ [])) plan (next + 1) length_is in
    All-cons (IsGiven (texts ++ (t ∷ plan))) (record { number = next; text = t }) (numbered (next + 1) plan) first
    (subst (λ ts. All (IsGiven ts) (numbered (next + 1) plan)) (append_assoc texts (t ∷ []) plan) later)

abbrev Grows : List (List ℕ) → Book → Type 0
Grows texts book = (more : List (List ℕ)) × IsOf (texts ++ more) book

stays : (texts : List (List ℕ)) (book : Book) → IsOf texts book → Grows texts book
stays texts book of = ([], subst (λ ts. IsOf ts book) (sym (append-nil texts)) of)

gives : (b : Bool) (texts plan : List (List ℕ)) (book : Book) → IsOf texts book → Grows texts (cond b (with_tickets plan book) book)
gives false texts plan book of = stays texts book of
gives true texts plan book of = (
  plan,
  record {
    next = omega (arith, of.next, length-append texts plan);
    each = numbered_given texts plan book.next of.next;
  },
)

-- the same where what stood before is kept
plans_texts : (b : Bool) (texts plan : List (List ℕ)) (book : Book) → IsOf texts book → Grows texts (cond b (with_tickets plan (with_past plan book)) book)
plans_texts false texts plan book of = stays texts book of
plans_texts true texts plan book of = (
  plan,
  record {
    next = omega (arith, of.next, length-append texts plan);
    each = numbered_given texts plan book.next of.next;
  },
)

noted_of : (b : Bool) (texts : List (List ℕ)) (book : Book) (g : Given) → bytes_eq g.text release_text ≡ b → IsGiven texts g → IsOf texts book
    → IsOf texts (without g.number (cond b (record book { last_release = g.number }) (record book { kept = with_text g.text book.kept })))
noted_of true texts book g is given of = record {
  next = of.next;
  each = All-filter (λ h. not (eqb h.number g.number)) (IsGiven texts) book.sent of.each;
}
noted_of false texts book g is given of = record {
  next = of.next;
  each = All-filter (λ h. not (eqb h.number g.number)) (IsGiven texts) book.sent of.each;
}

receives_one : (number : ℕ) (r : Option Given) (texts : List (List ℕ)) (book : Book) → find (λ h. eqb h.number number) book.sent ≡ r → IsOf texts book → Grows texts (received_as number r book)
receives_one number None texts book is of = stays texts book of
receives_one number (Some g) texts book is of =
    let given : IsGiven texts g = found (λ h. eqb h.number number) (IsGiven texts) book.sent g of.each is in
    let same : g.number ≡ number = number_found number book.sent g is in
    stays texts (without number (noted g book)) (subst (λ n. IsOf texts (without n (noted g book))) same (noted_of (bytes_eq g.text release_text) texts book g refl given of))

grows : (event : Event) (texts : List (List ℕ)) (book : Book) → IsOf texts book → Grows texts (after event book)
grows (plans anew wanted) texts book of = plans_texts (is_idle book) texts (plan_of anew book.kept wanted) book of
grows releases texts book of = gives (is_idle book && has_unshown book) texts (release_text ∷ []) book of
grows (receives number) texts book of = receives_one number (find (λ h. eqb h.number number) book.sent) texts book refl of
grows (notes r) texts book of = stays texts (logged r book) (record { next = of.next; each = of.each })
grows (says n t) texts book of = stays texts (messaged n t book) (record { next = of.next; each = of.each })

grows_all : (events : List Event) (texts : List (List ℕ)) (book : Book) → IsOf texts book → Grows texts (after_all events book)
grows_all [] texts book of = stays texts book of
grows_all (event ∷ later) texts book of =
    let one = grows event texts book of in
    let rest = grows_all later (texts ++ one.0) (after event book) one.1 in
    (one.0 ++ rest.0, subst (λ ts. IsOf ts (after_all later (after event book))) (append_assoc texts one.0 rest.0) rest.1)

of_fresh : (editor : ℕ) → IsOf [] (fresh editor)
of_fresh editor = record { next = refl; each = All-nil _ }

-- a history has all its texts
pub of_history : (editor : ℕ) (events : List Event) → (texts : List (List ℕ)) × IsOf texts (after_all events (fresh editor))
of_history editor events = grows_all events [] (fresh editor) (of_fresh editor)

same_number : (texts more : List (List ℕ)) (m n : ℕ) (t u : List ℕ) → IsNumberOf texts m t → IsNumberOf (texts ++ more) n u → m ≡ n → t ≡ u
same_number texts more m n t u first second same =
    let place : first.0 ≡ second.0 = omega (arith, first.1, second.1, same) in
    let both : Some t ≡ Some u = sym (get_before texts more first.0 t first.2) ∙ ap (slice_get (texts ++ more)) place ∙ second.2 in
    cc

pub one_text : EachTicketHasOneText
one_text editor events more g h here there same =
    let before = grows_all events [] (fresh editor) (of_fresh editor) in
    let later = grows_all more before.0 (after_all events (fresh editor)) before.1 in
    let first : IsGiven before.0 g = All-contains (IsGiven before.0) (after_all events (fresh editor)).sent g before.1.each here in
    let second : IsGiven (before.0 ++ later.0) h = All-contains (IsGiven (before.0 ++ later.0)) (after_all more (after_all events (fresh editor))).sent h later.1.each there in
    same_number before.0 later.0 g.number h.number g.text h.text first second same
