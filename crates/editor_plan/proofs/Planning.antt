-- What was planned where nothing is on its way behind it: nothing.
use Rattle.std.proofs.Common.{◌≡◌, ℕ, List, [], ◌∷◌, length, Bool, true, false, cond, ◌&&◌, eqb, refl, sym, ap, subst, ◌∙◌, add-zero, arith, ◌++◌}
use Rattle.std.proofs.lemmas.Bool.{eqb-true}
use Rattle.std.proofs.lemmas.List.{append-nil}
use Rattle.editor_ledger.specs.Books.{Given, Book}
use Rattle.editor_ledger.specs.Heads.{release_text}
use Rattle.editor_ledger.specs.Plans.{plan_of}
use Rattle.editor_ledger.specs.Steps.{is_idle, has_unshown, numbered, with_tickets, with_past, planned, release_planned}
use Rattle.editor_plan.specs.Courses.{stage_of, IsDone}
use Rattle.editor_plan.specs.declared.course.Stage.TheVariants.{Sends, Done}

empty : {X : Type 0} (xs : List X) → eqb (length xs) 0 ≡ true → xs ≡ []
empty [] is = refl
empty (x ∷ xs) is = let no : length (x ∷ xs) ≡ 0 = eqb-true _ _ is in absurd (omega (arith, no))

numbered_none : (next : ℕ) (texts : List (List ℕ)) → eqb (length (numbered next texts)) 0 ≡ true → texts ≡ []
numbered_none next [] is = refl
numbered_none next (t ∷ texts) is = let no : length (numbered next (t ∷ texts)) ≡ 0 = eqb-true _ _ is in absurd (omega (arith, no))

same_book : (texts : List (List ℕ)) (book : Book) → book.sent ≡ [] → texts ≡ [] → with_tickets texts (with_past texts book) ≡ book
same_book texts book idle none =
    ap (λ ts. with_tickets ts (with_past ts book)) none
    ∙ ap (λ (n : ℕ). let b : Book = record book { next = n; sent = []; past = book.past ++ [] } in b) (add-zero book.next)
    ∙ ap (λ (gs : List Given). let b : Book = record book { sent = []; past = gs } in b) (append-nil book.past)
    ∙ ap (λ (gs : List Given). let b : Book = record book { sent = gs } in b) (sym idle)

texts_idle : (b : Bool) (plan : List (List ℕ)) (book : Book) → is_idle book ≡ b → is_idle (cond b (with_tickets plan (with_past plan book)) book) ≡ true
    → (cond b (with_tickets plan (with_past plan book)) book ≡ book) × (book.sent ≡ []) × (plan ≡ [])
texts_idle true plan book is idle =
    let sent : book.sent ≡ [] = empty book.sent is in
    let none : plan ≡ [] = numbered_none book.next plan idle in
    (same_book plan book sent none, sent, none)
texts_idle false plan book is idle = absurd (cc)

pub planned_idle : (wanted : List (List ℕ)) (book : Book) → is_idle (planned [] wanted book) ≡ true → (planned [] wanted book ≡ book) × (book.sent ≡ []) × (plan_of [] book.kept wanted ≡ [])
planned_idle wanted book idle = texts_idle (is_idle book) (plan_of [] book.kept wanted) book refl idle

release_idle : (b : Bool) (book : Book) → (is_idle book && has_unshown book) ≡ b → is_idle (cond b (with_tickets (release_text ∷ []) book) book) ≡ true
    → (cond b (with_tickets (release_text ∷ []) book) book ≡ book) × (is_idle book ≡ true) × ((is_idle book && has_unshown book) ≡ false)
release_idle true book is idle = absurd (cc)
release_idle false book is idle = (refl, idle, is)

second : (a b : Bool) → (a && b) ≡ false → a ≡ true → b ≡ false
second true b none is = none
second false b none is = absurd (cc)

done_by : (b : Bool) → cond b Done Sends ≡ Done → b ≡ true
done_by true is = refl
done_by false is = absurd (cc)

pub done_is : (wanted : List (List ℕ)) (book : Book) → stage_of (release_planned (planned [] wanted book)) ≡ Done → IsDone wanted book (release_planned (planned [] wanted book))
done_is wanted book done =
    let after : Book = planned [] wanted book in
    let idle : is_idle (release_planned after) ≡ true = done_by (is_idle (release_planned after)) done in
    let release = release_idle (is_idle after && has_unshown after) after refl idle in
    let texts = planned_idle wanted book release.1 in
    record {
      same = release.0 ∙ texts.0;
      idle = texts.1;
      has_all = texts.2;
      shown = subst (λ (b : Book). has_unshown b ≡ false) texts.0 (second (is_idle after) (has_unshown after) release.2 release.1);
    }
