-- What happens in publications is a history of the ledger, so its laws hold.
use Rattle.std.proofs.Common.{◌≡◌, ℕ, List, [], ◌∷◌, ◌++◌, length, Bool, true, false, cond, eqb, ◌↔◌, Contains, map, refl, sym, ap, subst, ◌∙◌}
use Rattle.std.proofs.lemmas.List.{map-append}
use Rattle.editor_ledger.specs.Books.{Given, Book, fresh}
use Rattle.editor_ledger.specs.Histories.{Event, plans, releases, receives, notes as tells, says as speaks, after, after_all}
use Rattle.editor_ledger.specs.Plans.{plan_of}
use Rattle.editor_ledger.specs.Steps.{is_idle, numbered, with_tickets, with_past, planned, received}
use Rattle.editor_ledger.proofs.Tickets.{one_text}
use Rattle.editor_ledger.proofs.Turning.{plan_turns}
use Rattle.editor_plan.specs.Laws.{TicketsHaveOneText, DoneIsTheFolder}
use Rattle.editor_plan.specs.Flights.{after_hearing}
use Rattle.editor_plan.specs.Moves.{Move, advances, plans_again, hears, notes, says, moved, moved_all, HearsAnswers}
use Rattle.editor_plan.specs.declared.flight.Ask.{Ask}
use Rattle.editor_plan.specs.declared.flight.Ask.TheVariants.{Receipt, Submit}

-- events that lead from one ledger to the other
abbrev Leads : Book → Book → Type 0
Leads old new = (events : List Event) × (new ≡ after_all events old)

heard : (b : Bool) (number : ℕ) (book : Book) → Leads book (cond b (received number book) book)
heard true number book = (receives number ∷ [], refl)
heard false number book = ([], refl)

one_move : (move : Move) (book : Book) → Leads book (moved move book)
one_move (advances wanted) book = (plans [] wanted ∷ (releases ∷ []), refl)
one_move (plans_again again wanted) book = (plans again wanted ∷ [], refl)
one_move (hears (Receipt number) status) book = heard (eqb status 200) number book
one_move (hears (Submit number) status) book = ([], refl)
one_move (notes released) book = (tells released ∷ [], refl)
one_move (says release text) book = (speaks release text ∷ [], refl)

after-append : (events more : List Event) (book : Book) → after_all (events ++ more) book ≡ after_all more (after_all events book)
after-append [] more book = refl
after-append (event ∷ events) more book = after-append events more (after event book)

leads : (moves : List Move) (book : Book) → Leads book (moved_all moves book)
leads [] book = ([], refl)
leads (move ∷ later) book =
    let one = one_move move book in
    let rest = leads later (moved move book) in
    (one.0 ++ rest.0, rest.1 ∙ ap (after_all rest.0) one.1 ∙ sym (after-append one.0 rest.0 book))

pub tickets : TicketsHaveOneText
tickets editor moves more g h here there same =
    let before = leads moves (fresh editor) in
    let later = leads more (moved_all moves (fresh editor)) in
    one_text editor before.0 later.0 g h
    (subst (λ (b : Book). Contains b.sent g) before.1 here)
    (subst (λ (b : Book). Contains b.sent h) (later.1 ∙ ap (after_all later.0) before.1) there)
    same

idle_plans : (wanted : List (List ℕ)) (book : Book) → book.sent ≡ [] → planned [] wanted book ≡ with_tickets (plan_of [] book.kept wanted) (with_past (plan_of [] book.kept wanted) book)
idle_plans wanted book none =
    let idle : is_idle book ≡ true = ap (λ (gs : List Given). eqb (length gs) 0) none in
    ap (λ b. cond b (with_tickets (plan_of [] book.kept wanted) (with_past (plan_of [] book.kept wanted) book)) book) idle

pub done : DoneIsTheFolder
done editor moves wanted is apart about t put =
    let before = leads moves (fresh editor) in
    let book : Book = after_all before.0 (fresh editor) in
    let same : moved_all moves (fresh editor) ≡ book = before.1 in
    let idle : book.sent ≡ [] = subst (λ (b : Book). b.sent ≡ []) same is.idle in
    let all : plan_of [] book.kept wanted ≡ [] = subst (λ (b : Book). plan_of [] b.kept wanted ≡ []) same is.has_all in
    let plan : planned [] wanted book ≡ with_tickets (plan_of [] book.kept wanted) (with_past (plan_of [] book.kept wanted) book) = idle_plans wanted book idle in
    let sent : (planned [] wanted book).sent ≡ [] = ap (λ (b : Book). b.sent) plan ∙ ap (numbered book.next) all in
    let kept : (planned [] wanted book).kept ≡ book.kept = ap (λ (b : Book). b.kept) plan in
    let turned : Contains (planned [] wanted book).kept t ↔ Contains wanted t = plan_turns editor before.0 wanted [] idle apart about sent t put in
    subst (λ (b : Book). Contains b.kept t ↔ Contains wanted t) (sym same) (subst (λ (ks : List (List ℕ)). Contains ks t ↔ Contains wanted t) kept turned)

-- ---- answers that are heard

pub heard_same : (old new : Book) → new ≡ old → HearsAnswers old new
heard_same old new same = ([], same)

pub heard_one : (ask : Ask) (status : ℕ) (old new : Book) → new ≡ after_hearing ask status old → HearsAnswers old new
heard_one ask status old new is = ((ask, status) ∷ [], is)

moved-append : (moves more : List Move) (book : Book) → moved_all (moves ++ more) book ≡ moved_all more (moved_all moves book)
moved-append [] more book = refl
moved-append (move ∷ moves) more book = moved-append moves more (moved move book)

pub heard_on : (old mid new : Book) → HearsAnswers old mid → HearsAnswers mid new → HearsAnswers old new
heard_on old mid new first then =
    let moves : List (Ask × ℕ) → List Move = map (λ a. hears a.0 a.1) in (
      first.0 ++ then.0,
      then.1 ∙ ap (moved_all (moves then.0)) first.1 ∙ sym (moved-append (moves first.0) (moves then.0) old) ∙ ap (λ m. moved_all m old) (sym (map-append (λ a. hears a.0 a.1) first.0 then.0)),
    )
