-- A plan turns what is put into what is wanted.
use Rattle.std.proofs.Common.{◌≡◌, ℕ, suc, ◌+◌, List, [], ◌∷◌, length, map, filter, Bool, true, false, cond, not, ◌&&◌, eqb, ◌⊎◌, ◌↔◌, codes, inl, inr, Option, Some, None, IsSome, slice_get, Contains, refl, sym, ap, subst, ◌∙◌, arith}
use Rattle.std.specs.List.{list_any, find}
use Rattle.std.specs.Str.{bytes_eq}
use Rattle.std.proofs.lemmas.List.Elements.{All-contains_itself, Contains-append_left, Contains-push, Contains-push_cases}
use Rattle.std.proofs.lemmas.Slice.Eq.{bytes_eq-Decides}
use Rattle.editor_ledger.specs.Books.{Given, Book, fresh}
use Rattle.editor_ledger.specs.Heads.{Head, head_of, is_about, is_same_subject, are_about_one, puts_by, is_put, removal, release_text}
use Rattle.editor_ledger.specs.Histories.{Event, plans, releases, receives, notes, says, after, after_all}
use Rattle.editor_ledger.specs.Laws.{AreApart, AreAbout, PlanTurns}
use Rattle.editor_ledger.specs.Plans.{plan_of}
use Rattle.editor_ledger.specs.Steps.{is_idle, has_unshown, numbered, with_tickets, with_past, planned, with_text, noted, without, received_as, received}
use Rattle.editor_ledger.proofs.Members.{here, later, cases, nowhere, filtered, passes, keeps, some_passes, tested}
use Rattle.editor_ledger.proofs.Receipts.{number_found}
use Rattle.editor_ledger.proofs.Subjects.{about, about_one, turned, IsRemoval, removes, removal_about, removal_puts_none, plan_cases, planned_missing, planned_removal, never_both}
use Rattle.editor_ledger.proofs.Tickets.{found}

-- ---- tickets of a plan

pub has_ticket : (next : ℕ) (texts : List (List ℕ)) (p : List ℕ) → Contains texts p → (g : Given) × Contains (numbered next texts) g × (g.text ≡ p)
has_ticket next [] p is = absurd (nowhere p is)
has_ticket next (t ∷ texts) p is = by_cases (cases t texts p is) (has_ticket (next + 1) texts p)
  where
    by_cases : (t ≡ p) ⊎ Contains texts p → (Contains texts p → (g : Given) × Contains (numbered (next + 1) texts) g × (g.text ≡ p)) → (g : Given) × Contains (numbered next (t ∷ texts)) g × (g.text ≡ p)
    by_cases (inl same) rest = (record { number = next; text = t }, here (record { number = next; text = t }) (numbered (next + 1) texts), same)
    by_cases (inr more) rest = let one = rest more in (one.0, later (record { number = next; text = t }) (numbered (next + 1) texts) one.0 one.1, one.2)

pub ticket_place : (next : ℕ) (texts : List (List ℕ)) (g : Given) → Contains (numbered next texts) g → (k : ℕ) × (g.number ≡ next + k) × (slice_get texts k ≡ Some g.text) × Contains texts g.text
ticket_place next [] g is = absurd (nowhere g is)
ticket_place next (t ∷ texts) g is = by_cases (cases (record { number = next; text = t }) (numbered (next + 1) texts) g is) (ticket_place (next + 1) texts g)
  where
    by_cases : (record { number = next; text = t } ≡ g) ⊎ Contains (numbered (next + 1) texts) g
        → (Contains (numbered (next + 1) texts) g → (k : ℕ) × (g.number ≡ next + 1 + k) × (slice_get texts k ≡ Some g.text) × Contains texts g.text)
        → (k : ℕ) × (g.number ≡ next + k) × (slice_get (t ∷ texts) k ≡ Some g.text) × Contains (t ∷ texts) g.text
    by_cases (inl same) rest =
        let number : next ≡ g.number = ap (λ (h : Given). h.number) same in
        let text : t ≡ g.text = ap (λ (h : Given). h.text) same in
        (0, omega (arith, number), ap (λ u. Some u) text, subst (λ u. Contains (t ∷ texts) u) text (here t texts))
    by_cases (inr more) rest = let one = rest more in (suc one.0, omega (arith, one.1), one.2, later t texts g.text one.3)

pub ticket_once : (next : ℕ) (texts : List (List ℕ)) (g h : Given) → Contains (numbered next texts) g → Contains (numbered next texts) h → g.number ≡ h.number → g.text ≡ h.text
ticket_once next texts g h first second same =
    let p = ticket_place next texts g first in
    let q = ticket_place next texts h second in
    let place : p.0 ≡ q.0 = omega (arith, p.1, q.1, same) in
    let both_are : Some g.text ≡ Some h.text = sym p.2 ∙ ap (slice_get texts) place ∙ q.2 in
    cc

-- ---- while the receipts come

abbrev OnWay : Book → List ℕ → Type 0
OnWay book p = (g : Given) × Contains book.sent g × (g.text ≡ p)

-- what a plan over these kept texts left: what came, what is on its way, and what stands for as long as that is on its way
record Coming (kept plan : List (List ℕ)) (book : Book) : Type 0 where
  arrives : (p : List ℕ) → Contains plan p → Contains book.kept p ⊎ OnWay book p
  olds : (t : List ℕ) → Contains book.kept t → Contains plan t ⊎ (Contains kept t × ((p : List ℕ) → Contains plan p → are_about_one p t ≡ true → OnWay book p))
  stays : (t : List ℕ) → Contains kept t → ((p : List ℕ) → Contains plan p → are_about_one p t ≡ false) → Contains book.kept t
  planned : (g : Given) → Contains book.sent g → Contains plan g.text
  once : (g h : Given) → Contains book.sent g → Contains book.sent h → g.number ≡ h.number → g.text ≡ h.text

begins : (plan : List (List ℕ)) (book : Book) → Coming book.kept plan (with_tickets plan (with_past plan book))
begins plan book = record {
  arrives = λ p is. inr (has_ticket book.next plan p is);
  olds = λ t is. inr (is, λ p there one. has_ticket book.next plan p there);
  stays = λ t is none. is;
  planned = λ g is. (ticket_place book.next plan g is).3;
  once = ticket_once book.next plan;
}

-- a text more, off its way
abbrev taken : ℕ → List ℕ → Book → Book
taken number text book = without number (record book { kept = with_text text book.kept })

not_false : (b : Bool) → not b ≡ true → b ≡ false
not_false false is = refl
not_false true is = absurd (cc)

-- what is on its way still is, or is what came
still : (number : ℕ) (book : Book) (g : Given) (p : List ℕ) → Contains book.sent g → g.number ≡ number
    → ((h k : Given) → Contains book.sent h → Contains book.sent k → h.number ≡ k.number → h.text ≡ k.text)
    → OnWay book p → OnWay (taken number g.text book) p ⊎ (g.text ≡ p)
still number book g p there is once way = by_cases (tested (eqb way.0.number number))
  where
    by_cases : (eqb way.0.number number ≡ true) ⊎ (eqb way.0.number number ≡ false) → OnWay (taken number g.text book) p ⊎ (g.text ≡ p)
    by_cases (inl same) =
        let equal : way.0.number ≡ number = grind (arith, same) in
        inr (once g way.0 there way.1 (is ∙ sym equal) ∙ way.2)
    by_cases (inr others) = inl (way.0, keeps (λ h. not (eqb h.number number)) book.sent way.0 way.1 (ap not others), way.2)

kept_old : (text t : List ℕ) (kept : List (List ℕ)) → Contains kept t → are_about_one text t ≡ false → Contains (with_text text kept) t
kept_old text t kept is none = Contains-append_left (filter (λ u. not (are_about_one text u)) kept) (text ∷ []) t (keeps (λ u. not (are_about_one text u)) kept t is (ap not none))

kept_new : (text : List ℕ) (kept : List (List ℕ)) → Contains (with_text text kept) text
kept_new text kept = Contains-push (filter (λ u. not (are_about_one text u)) kept) text

comes : (kept plan : List (List ℕ)) (number : ℕ) (book : Book) (g : Given) → AreApart plan → Contains book.sent g → g.number ≡ number
    → Coming kept plan book → Coming kept plan (taken number g.text book)
comes kept plan number book g apart there is coming = record {
  arrives = λ p planned. arrived p planned (coming.arrives p planned);
  olds = λ t is_kept. old t (Contains-push_cases (filter (λ u. not (are_about_one g.text u)) book.kept) g.text t is_kept);
  stays = λ t was none. kept_old g.text t book.kept (coming.stays t was none) (none g.text (coming.planned g there));
  planned = λ h on. coming.planned h (filtered (λ k. not (eqb k.number number)) book.sent h on);
  once = λ h k on also same. coming.once h k (filtered (λ u. not (eqb u.number number)) book.sent h on) (filtered (λ u. not (eqb u.number number)) book.sent k also) same;
}
  where
    came : (p : List ℕ) → g.text ≡ p → Contains (with_text g.text book.kept) p
    came p same = subst (λ t. Contains (with_text g.text book.kept) t) same (kept_new g.text book.kept)

    held : (p : List ℕ) → Contains plan p → Contains book.kept p → (are_about_one g.text p ≡ true) ⊎ (are_about_one g.text p ≡ false) → Contains (with_text g.text book.kept) p ⊎ OnWay (taken number g.text book) p
    held p planned is_kept (inl one) = inl (came p (apart g.text p (coming.planned g there) planned one))
    held p planned is_kept (inr other) = inl (kept_old g.text p book.kept is_kept other)

    way : (p : List ℕ) → OnWay (taken number g.text book) p ⊎ (g.text ≡ p) → Contains (with_text g.text book.kept) p ⊎ OnWay (taken number g.text book) p
    way p (inl on) = inr on
    way p (inr same) = inl (came p same)

    arrived : (p : List ℕ) → Contains plan p → Contains book.kept p ⊎ OnWay book p → Contains (with_text g.text book.kept) p ⊎ OnWay (taken number g.text book) p
    arrived p planned (inl is_kept) = held p planned is_kept (tested (are_about_one g.text p))
    arrived p planned (inr on) = way p (still number book g p there is coming.once on)

    after_way : (t p : List ℕ) → are_about_one g.text t ≡ false → are_about_one p t ≡ true → OnWay (taken number g.text book) p ⊎ (g.text ≡ p) → OnWay (taken number g.text book) p
    after_way t p none one (inl on) = on
    after_way t p none one (inr same) = let yes : are_about_one g.text t ≡ true = ap (λ u. are_about_one u t) same ∙ one in absurd (cc)

    was : (t : List ℕ) → are_about_one g.text t ≡ false → Contains plan t ⊎ (Contains kept t × ((p : List ℕ) → Contains plan p → are_about_one p t ≡ true → OnWay book p))
        → Contains plan t ⊎ (Contains kept t × ((p : List ℕ) → Contains plan p → are_about_one p t ≡ true → OnWay (taken number g.text book) p))
    was t none (inl planned) = inl planned
    was t none (inr before) = inr (before.0, λ p planned one. after_way t p none one (still number book g p there is coming.once (before.1 p planned one)))

    old : (t : List ℕ) → Contains (filter (λ u. not (are_about_one g.text u)) book.kept) t ⊎ (g.text ≡ t)
        → Contains plan t ⊎ (Contains kept t × ((p : List ℕ) → Contains plan p → are_about_one p t ≡ true → OnWay (taken number g.text book) p))
    old t (inl among) = was t (not_false (are_about_one g.text t) (passes (λ u. not (are_about_one g.text u)) book.kept t among)) (coming.olds t (filtered (λ u. not (are_about_one g.text u)) book.kept t among))
    old t (inr same) = inl (subst (λ u. Contains plan u) same (coming.planned g there))

-- what is about something is no release
no_release : (b : Bool) (t : List ℕ) → bytes_eq t release_text ≡ b → IsSome (head_of t) → b ≡ false
no_release false t is some = refl
no_release true t is some =
    let same : t ≡ release_text = (bytes_eq-Decides t release_text).0 is in
    let no : IsSome (head_of release_text) = subst (λ u. IsSome (head_of u)) same some in
    let never : false ≡ true = no in
    absurd (cc)

receives_one : (kept plan : List (List ℕ)) (number : ℕ) (book : Book) (r : Option Given) → AreApart plan → AreAbout plan
    → find (λ (h : Given). eqb h.number number) book.sent ≡ r → Coming kept plan book → Coming kept plan (received_as number r book)
receives_one kept plan number book None apart some is coming = coming
receives_one kept plan number book (Some g) apart some is coming =
    let there : Contains book.sent g = found (λ (h : Given). eqb h.number number) (Contains book.sent) book.sent g (All-contains_itself book.sent) is in
    let none : bytes_eq g.text release_text ≡ false = no_release (bytes_eq g.text release_text) g.text refl (some g.text (coming.planned g there)) in
    let same : noted g book ≡ record book { kept = with_text g.text book.kept } = ap (λ b. cond b (record book { last_release = g.number }) (record book { kept = with_text g.text book.kept })) none in
    subst (λ b. Coming kept plan (without number b)) (sym same) (comes kept plan number book g apart there (number_found number book.sent g is) coming)

receives_all : (kept plan : List (List ℕ)) (numbers : List ℕ) (book : Book) → AreApart plan → AreAbout plan → Coming kept plan book → Coming kept plan (after_all (map receives numbers) book)
receives_all kept plan [] book apart some coming = coming
receives_all kept plan (n ∷ numbers) book apart some coming =
    receives_all kept plan numbers (received n book) apart some
    (receives_one kept plan n book (find (λ (h : Given). eqb h.number n) book.sent) apart some refl coming)

-- ---- kept texts stay apart

pub text_apart : (text : List ℕ) (kept : List (List ℕ)) → AreApart kept → AreApart (with_text text kept)
text_apart text kept apart t u first second one = by_cases (Contains-push_cases others text t first) (Contains-push_cases others text u second)
  where
    others : List (List ℕ)
    others = filter (λ v. not (are_about_one text v)) kept

    by_cases : Contains (filter (λ v. not (are_about_one text v)) kept) t ⊎ (text ≡ t) → Contains (filter (λ v. not (are_about_one text v)) kept) u ⊎ (text ≡ u) → t ≡ u
    by_cases (inl a) (inl b) = apart t u (filtered (λ v. not (are_about_one text v)) kept t a) (filtered (λ v. not (are_about_one text v)) kept u b) one
    by_cases (inl a) (inr b) =
        let no : are_about_one text t ≡ false = not_false (are_about_one text t) (passes (λ v. not (are_about_one text v)) kept t a) in
        let yes : are_about_one text t ≡ true = ap (λ v. are_about_one v t) b ∙ turned t u one in
        absurd (cc)
    by_cases (inr a) (inl b) =
        let no : are_about_one text u ≡ false = not_false (are_about_one text u) (passes (λ v. not (are_about_one text v)) kept u b) in
        let yes : are_about_one text u ≡ true = ap (λ v. are_about_one v u) a ∙ one in
        absurd (cc)
    by_cases (inr a) (inr b) = sym a ∙ b

noted_apart : (b : Bool) (g : Given) (book : Book) → AreApart book.kept → AreApart (cond b (record book { last_release = g.number }) (record book { kept = with_text g.text book.kept })).kept
noted_apart true g book apart = apart
noted_apart false g book apart = text_apart g.text book.kept apart

received_apart : (number : ℕ) (r : Option Given) (book : Book) → AreApart book.kept → AreApart (received_as number r book).kept
received_apart number None book apart = apart
received_apart number (Some g) book apart = noted_apart (bytes_eq g.text release_text) g book apart

chosen_apart : (b : Bool) (x book : Book) → x.kept ≡ book.kept → AreApart book.kept → AreApart (cond b x book).kept
chosen_apart true x book same apart = subst AreApart (sym same) apart
chosen_apart false x book same apart = apart

event_apart : (event : Event) (book : Book) → AreApart book.kept → AreApart (after event book).kept
event_apart (plans again wanted) book apart =
    chosen_apart (is_idle book) (with_tickets (plan_of again book.kept wanted) (with_past (plan_of again book.kept wanted) book)) book refl apart
event_apart releases book apart = chosen_apart (is_idle book && has_unshown book) (with_tickets (release_text ∷ []) book) book refl apart
event_apart (receives number) book apart = received_apart number (find (λ (h : Given). eqb h.number number) book.sent) book apart
event_apart (notes released) book apart = apart
event_apart (says release text) book apart = apart

pub events_apart : (events : List Event) (book : Book) → AreApart book.kept → AreApart (after_all events book).kept
events_apart [] book apart = apart
events_apart (event ∷ rest) book apart = events_apart rest (after event book) (event_apart event book apart)

-- ---- a plan's texts are apart, and each is about something

some_is : {X : Type 0} (x y : X) → Some x ≡ Some y → x ≡ y
some_is x y is = cc

removals_apart : (kept wanted : List (List ℕ)) (t u : List ℕ) → AreApart kept → IsRemoval kept wanted t → IsRemoval kept wanted u → are_about_one t u ≡ true → t ≡ u
removals_apart kept wanted t u apart first second same =
    let one = about (removal first.head) (removal second.head) (ap (λ v. are_about_one v (removal second.head)) first.is ∙ ap (are_about_one t) second.is ∙ same) in
    let a : record { verb = codes "remove"; kind = first.head.kind; name = first.head.name } ≡ one.first = some_is _ _ (sym (removal_about first.old first.head first.head_is) ∙ one.first_is) in
    let b : record { verb = codes "remove"; kind = second.head.kind; name = second.head.name } ≡ one.second = some_is _ _ (sym (removal_about second.old second.head second.head_is) ∙ one.second_is) in
    let kind : first.head.kind ≡ second.head.kind = ap (λ (h : Head). h.kind) a ∙ one.kind ∙ sym (ap (λ (h : Head). h.kind) b) in
    let name : first.head.name ≡ second.head.name = ap (λ (h : Head). h.name) a ∙ one.name ∙ sym (ap (λ (h : Head). h.name) b) in
    let olds : first.old ≡ second.old = apart first.old second.old first.there second.there (about_one first.old second.old first.head second.head first.head_is second.head_is kind name) in
    let heads : first.head ≡ second.head = some_is _ _ (sym first.head_is ∙ ap head_of olds ∙ second.head_is) in
    sym first.is ∙ ap removal heads ∙ second.is

plan_apart : (kept wanted : List (List ℕ)) → AreApart kept → AreApart wanted → AreApart (plan_of [] kept wanted)
plan_apart kept wanted kept_apart apart t u first second one = by_cases (plan_cases kept wanted t first) (plan_cases kept wanted u second)
  where
    by_cases : (Contains wanted t × (list_any (bytes_eq t) kept ≡ false)) ⊎ IsRemoval kept wanted t → (Contains wanted u × (list_any (bytes_eq u) kept ≡ false)) ⊎ IsRemoval kept wanted u → t ≡ u
    by_cases (inl a) (inl b) = apart t u a.0 b.0 one
    by_cases (inl a) (inr b) = absurd (never_both kept wanted t u a.0 b one)
    by_cases (inr a) (inl b) = absurd (never_both kept wanted u t b.0 a (turned t u one))
    by_cases (inr a) (inr b) = removals_apart kept wanted t u kept_apart a b one

plan_about : (kept wanted : List (List ℕ)) → AreAbout wanted → AreAbout (plan_of [] kept wanted)
plan_about kept wanted some t is = by_cases (plan_cases kept wanted t is)
  where
    by_cases : (Contains wanted t × (list_any (bytes_eq t) kept ≡ false)) ⊎ IsRemoval kept wanted t → IsSome (head_of t)
    by_cases (inl a) = some t a.0
    by_cases (inr a) = subst (λ u. IsSome (head_of u)) a.is (subst (λ o. IsSome o) (sym (removal_about a.old a.head a.head_is)) refl)

-- ---- at the end

same_text : (t u : List ℕ) → bytes_eq t u ≡ true → t ≡ u
same_text t u is = (bytes_eq-Decides t u).0 is

-- a put that was kept, and that nothing of the plan is about, is wanted
wanted_still : (kept wanted : List (List ℕ)) (t : List ℕ) (o : Option Head) → AreApart kept → head_of t ≡ o → puts_by o ≡ true → Contains kept t
    → ((p : List ℕ) → Contains (plan_of [] kept wanted) p → are_about_one p t ≡ false) → Contains wanted t
wanted_still kept wanted t None apart is put there none = absurd (cc)
wanted_still kept wanted t (Some h) apart is put there none = by_name (tested (list_any (λ w. is_about h (head_of w)) wanted))
  where
    by_kept : (w : List ℕ) → Contains wanted w → are_about_one w t ≡ true → (list_any (bytes_eq w) kept ≡ true) ⊎ (list_any (bytes_eq w) kept ≡ false) → Contains wanted t
    by_kept w wants one (inl had) =
        let other = some_passes (bytes_eq w) kept had in
        let same : w ≡ other.0 = same_text w other.0 other.2 in
        let in_kept : Contains kept w = subst (λ v. Contains kept v) (sym same) other.1 in
        subst (λ v. Contains wanted v) (apart w t in_kept there one) wants
    by_kept w wants one (inr none_had) =
        let no : are_about_one w t ≡ false = none w (planned_missing kept wanted w wants none_had) in
        absurd (cc)

    by_name : (list_any (λ w. is_about h (head_of w)) wanted ≡ true) ⊎ (list_any (λ w. is_about h (head_of w)) wanted ≡ false) → Contains wanted t
    by_name (inl some) =
        let w = some_passes (λ v. is_about h (head_of v)) wanted some in
        let one : are_about_one t w.0 ≡ true = ap (λ o. is_same_subject o (head_of w.0)) is ∙ w.2 in
        by_kept w.0 w.1 (turned t w.0 one) (tested (list_any (bytes_eq w.0) kept))
    by_name (inr unnamed) =
        let no : are_about_one (removal h) t ≡ false = none (removal h) (planned_removal kept wanted (removal h) (removes kept wanted t h there is put unnamed)) in
        let yes : are_about_one (removal h) t ≡ true = about_one (removal h) t (record { verb = codes "remove"; kind = h.kind; name = h.name }) h (removal_about t h is) is refl refl in
        absurd (cc)

-- what is wanted and kept already, nothing of the plan is about
untouched : (kept wanted : List (List ℕ)) (t p : List ℕ) → AreApart wanted → Contains wanted t → list_any (bytes_eq t) kept ≡ true → Contains (plan_of [] kept wanted) p
    → (are_about_one p t ≡ true) ⊎ (are_about_one p t ≡ false) → are_about_one p t ≡ false
untouched kept wanted t p apart wants had planned (inr none) = none
untouched kept wanted t p apart wants had planned (inl one) = by_cases (plan_cases kept wanted p planned)
  where
    by_cases : (Contains wanted p × (list_any (bytes_eq p) kept ≡ false)) ⊎ IsRemoval kept wanted p → are_about_one p t ≡ false
    by_cases (inl a) =
        let same : p ≡ t = apart p t a.0 wants one in
        let no : list_any (bytes_eq t) kept ≡ false = subst (λ v. list_any (bytes_eq v) kept ≡ false) same a.1 in
        absurd (cc)
    by_cases (inr a) = absurd (never_both kept wanted t p wants a (turned p t one))

-- with nothing on its way any more
ends : (kept wanted : List (List ℕ)) (book : Book) → AreApart kept → AreApart wanted → Coming kept (plan_of [] kept wanted) book → book.sent ≡ []
    → (t : List ℕ) → is_put t ≡ true → Contains book.kept t ↔ Contains wanted t
ends kept wanted book kept_apart apart coming done t put = (λ is. from_kept (coming.olds t is), λ wants. from_wanted wants (tested (list_any (bytes_eq t) kept)))
  where
    none_on : (p : List ℕ) → OnWay book p → ⊥
    none_on p on = nowhere on.0 (subst (λ gs. Contains gs on.0) done on.1)

    none_about : (p : List ℕ) → (are_about_one p t ≡ true → OnWay book p) → (are_about_one p t ≡ true) ⊎ (are_about_one p t ≡ false) → are_about_one p t ≡ false
    none_about p on (inl one) = absurd (none_on p (on one))
    none_about p on (inr none) = none

    from_plan : (Contains wanted t × (list_any (bytes_eq t) kept ≡ false)) ⊎ IsRemoval kept wanted t → Contains wanted t
    from_plan (inl a) = a.0
    from_plan (inr a) =
        let no : is_put t ≡ false = ap is_put (sym a.is) ∙ removal_puts_none a.old a.head a.head_is in
        absurd (cc)

    from_kept : Contains (plan_of [] kept wanted) t ⊎ (Contains kept t × ((p : List ℕ) → Contains (plan_of [] kept wanted) p → are_about_one p t ≡ true → OnWay book p)) → Contains wanted t
    from_kept (inl planned) = from_plan (plan_cases kept wanted t planned)
    from_kept (inr old) = wanted_still kept wanted t (head_of t) kept_apart refl put old.0 (λ p planned. none_about p (old.1 p planned) (tested (are_about_one p t)))

    arrived : Contains book.kept t ⊎ OnWay book t → Contains book.kept t
    arrived (inl is) = is
    arrived (inr on) = absurd (none_on t on)

    from_wanted : Contains wanted t → (list_any (bytes_eq t) kept ≡ true) ⊎ (list_any (bytes_eq t) kept ≡ false) → Contains book.kept t
    from_wanted wants (inl had) =
        let other = some_passes (bytes_eq t) kept had in
        let in_kept : Contains kept t = subst (λ v. Contains kept v) (sym (same_text t other.0 other.2)) other.1 in
        coming.stays t in_kept (λ p planned. untouched kept wanted t p apart wants had planned (tested (are_about_one p t)))
    from_wanted wants (inr none) = arrived (coming.arrives t (planned_missing kept wanted t wants none))

idle_plans : (wanted : List (List ℕ)) (book : Book) → book.sent ≡ [] → planned [] wanted book ≡ with_tickets (plan_of [] book.kept wanted) (with_past (plan_of [] book.kept wanted) book)
idle_plans wanted book none =
    let idle : is_idle book ≡ true = ap (λ (gs : List Given). eqb (length gs) 0) none in
    ap (λ b. cond b (with_tickets (plan_of [] book.kept wanted) (with_past (plan_of [] book.kept wanted) book)) book) idle

pub plan_turns : PlanTurns
plan_turns editor events wanted numbers idle apart some done t put =
    let book : Book = after_all events (fresh editor) in
    let kept_apart : AreApart book.kept = events_apart events (fresh editor) (λ v w is. absurd (nowhere v is)) in
    let coming : Coming book.kept (plan_of [] book.kept wanted) (after_all (map receives numbers) (planned [] wanted book)) =
    subst (λ b. Coming book.kept (plan_of [] book.kept wanted) (after_all (map receives numbers) b)) (sym (idle_plans wanted book idle))
    (receives_all book.kept (plan_of [] book.kept wanted) numbers (with_tickets (plan_of [] book.kept wanted) (with_past (plan_of [] book.kept wanted) book))
    (plan_apart book.kept wanted kept_apart apart) (plan_about book.kept wanted some) (begins (plan_of [] book.kept wanted) book)) in
    ends book.kept wanted (after_all (map receives numbers) (planned [] wanted book)) kept_apart apart coming done t put
