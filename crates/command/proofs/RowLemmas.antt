-- Each row of a text, from the text and to it.
use Rattle.std.proofs.Common.{◌≡◌, ℕ, List, [], ◌∷◌, ◌++◌, length, Bool, true, false, ◌&&◌, cond, codes, Option, Some, None, option_map, option_and_then, bytes_eq, refl, sym, ap, ◌∙◌, subst, arith}
use Rattle.std.proofs.lemmas.Option.{option_and_then_some, none-some}
use Rattle.std.proofs.lemmas.Slice.Eq.{bytes_eq-Decides}
use Rattle.command.specs.Action.{Kind, template, partial, page_data, route, redirect}
use Rattle.command.specs.Cuts.{after_front, cut_at}
use Rattle.command.specs.Rows.{Row, template_row, partial_row, data_row, route_row, redirect_row, remove_row, release_row, kind_word, spelled, is_word, IsWord, HasWords, is_empty, if_named, named, if_bare, remove_of, if_route, names_of, path_of, route_of, if_redirect, target_of, redirect_of, first_of, removes_of, older_row_of, row_of}
use Rattle.command.specs.Laws.{RowIsSpelled, OlderRowStays, IsOfRedirect, NewRowIsOfRedirect}
use Rattle.command.proofs.CutLemmas.{after_front-is}
use Rattle.command.proofs.WordLemmas.{Cut, both, cut_at_space, cut_at_line, cut_at-is}

abbrev pub Spells : List ℕ → Row → Type 0
Spells text row = HasWords row × (text ≡ spelled row)

-- ---- from the text's row to its spelling

none_left : (text : List ℕ) → length text ≡ 0 → text ≡ []
none_left [] e = refl
none_left (x ∷ xs) e = absurd (omega arith)

empty : (text : List ℕ) → is_empty text ≡ true → text ≡ []
empty text e = none_left text (grind arith)

if_named-is : (b : Bool) (q p : Cut) → is_word q.0 ≡ b → cond {A = Option Cut} b (Some q) None ≡ Some p → IsWord p.0 × (q ≡ p)
if_named-is true q p is e = let same : q ≡ p = cc in (subst (λ (r : Cut). IsWord r.0) same is, same)
if_named-is false q p is e = cc

-- the front, the word, a newline and what follows it
abbrev pub IsNamed : List ℕ → List ℕ → Cut → Type 0
IsNamed front text p = IsWord p.0 × (text ≡ front ++ (p.0 ++ (10 ∷ p.1)))

named_cut : (front text rest : List ℕ) (q p : Cut) → after_front front text ≡ Some rest → cut_at 10 rest ≡ Some q → if_named q ≡ Some p → IsNamed front text p
named_cut front text rest q p begins cut e =
    let n = if_named-is (is_word q.0) q p refl e in (
      n.0,
      after_front-is front text rest begins ∙ ap (λ t. front ++ t) (cut_at-is 10 rest q cut ∙ ap (λ (r : Cut). r.0 ++ (10 ∷ r.1)) n.1),
    )

pub named-is : (front text : List ℕ) (p : Cut) → named front text ≡ Some p → IsNamed front text p
named-is front text p e =
    option_and_then_some if_named (option_and_then (cut_at 10) (after_front front text)) p e
    (λ q cut last. option_and_then_some (cut_at 10) (after_front front text) q cut (λ rest begins there. named_cut front text rest q p begins there last))

put_is : (front : List ℕ) (make : List ℕ → List ℕ → Row) (text : List ℕ) (row : Row) (o : Option Cut) → named front text ≡ o
    → ((p : Cut) → IsNamed front text p → Spells text (make p.0 p.1)) → option_map {T = Cut} (λ p. make p.0 p.1) o ≡ Some row → Spells text row
put_is front make text row None found spells e = cc
put_is front make text row (Some p) found spells e = let same : make p.0 p.1 ≡ row = cc in subst (λ (r : Row). Spells text r) same (spells p (named-is front text p found))

bare_is : (b : Bool) (kind : Kind) (text : List ℕ) (p : Cut) (row : Row) → is_empty p.1 ≡ b → IsNamed (codes "remove " ++ (kind_word kind ++ (32 ∷ []))) text p
    → text ≡ codes "remove " ++ (kind_word kind ++ (32 ∷ (p.0 ++ (10 ∷ p.1)))) → cond {A = Option Row} b (Some (remove_row kind p.0)) None ≡ Some row → Spells text row
bare_is true kind text p row is n whole e =
    let same : remove_row kind p.0 ≡ row = cc in
    subst (λ (r : Row). Spells text r) same (n.0, whole ∙ ap (λ t. codes "remove " ++ (kind_word kind ++ (32 ∷ (p.0 ++ (10 ∷ t))))) (empty p.1 is))
bare_is false kind text p row is n whole e = cc

removed : (kind : Kind) (t : List ℕ) → (codes "remove " ++ (kind_word kind ++ (32 ∷ []))) ++ t ≡ codes "remove " ++ (kind_word kind ++ (32 ∷ t))
removed template t = refl
removed partial t = refl
removed page_data t = refl
removed route t = refl
removed redirect t = refl

remove_is : (kind : Kind) (text : List ℕ) (row : Row) → remove_of kind text ≡ Some row → Spells text row
remove_is kind text row e =
    option_and_then_some (if_bare kind) (named (codes "remove " ++ (kind_word kind ++ (32 ∷ []))) text) row e (λ p found last.
    let n = named-is (codes "remove " ++ (kind_word kind ++ (32 ∷ []))) text p found in
    bare_is (is_empty p.1) kind text p row refl n (n.1 ∙ removed kind _) last)

route_if : (b : Bool) (path shows : List ℕ) (p : Cut) (text : List ℕ) (row : Row) → (is_word path && (is_word shows && (is_word p.0 && is_empty p.1))) ≡ b
    → text ≡ codes "put route " ++ (path ++ (32 ∷ (shows ++ (32 ∷ (p.0 ++ (10 ∷ p.1)))))) → cond {A = Option Row} b (Some (route_row path shows p.0)) None ≡ Some row → Spells text row
route_if true path shows p text row is whole e =
    let same : route_row path shows p.0 ≡ row = cc in
    let one = both (is_word path) (is_word shows && (is_word p.0 && is_empty p.1)) is in
    let two = both (is_word shows) (is_word p.0 && is_empty p.1) one.1 in
    let three = both (is_word p.0) (is_empty p.1) two.1 in
    subst (λ (r : Row). Spells text r) same ((one.0, two.0, three.0), whole ∙ ap (λ t. codes "put route " ++ (path ++ (32 ∷ (shows ++ (32 ∷ (p.0 ++ (10 ∷ t))))))) (empty p.1 three.1))
route_if false path shows p text row is whole e = cc

route_cuts : (text rest : List ℕ) (p q r : Cut) (row : Row) → after_front (codes "put route ") text ≡ Some rest → cut_at 32 rest ≡ Some p → cut_at 32 p.1 ≡ Some q → cut_at 10 q.1 ≡ Some r
    → if_route p.0 q.0 r ≡ Some row → Spells text row
route_cuts text rest p q r row begins one two three e =
    let whole : text ≡ codes "put route " ++ (p.0 ++ (32 ∷ (q.0 ++ (32 ∷ (r.0 ++ (10 ∷ r.1)))))) =
    after_front-is (codes "put route ") text rest begins
    ∙ ap (λ t. codes "put route " ++ t) (cut_at-is 32 rest p one)
    ∙ ap (λ t. codes "put route " ++ (p.0 ++ (32 ∷ t))) (cut_at-is 32 p.1 q two)
    ∙ ap (λ t. codes "put route " ++ (p.0 ++ (32 ∷ (q.0 ++ (32 ∷ t))))) (cut_at-is 10 q.1 r three) in
    route_if (is_word p.0 && (is_word q.0 && (is_word r.0 && is_empty r.1))) p.0 q.0 r text row refl whole e

route_is : (text : List ℕ) (row : Row) → route_of text ≡ Some row → Spells text row
route_is text row e =
    option_and_then_some path_of (option_and_then (cut_at 32) (after_front (codes "put route ") text)) row e (λ p found named_.
    option_and_then_some (cut_at 32) (after_front (codes "put route ") text) p found (λ rest begins one.
    option_and_then_some (names_of p.0) (cut_at 32 p.1) row named_ (λ q two routed.
    option_and_then_some (if_route p.0 q.0) (cut_at 10 q.1) row routed (λ r three last.
    route_cuts text rest p q r row begins one two three last))))

redirect_if : (b : Bool) (path : List ℕ) (p : Cut) (text : List ℕ) (row : Row) → (is_word path && (is_word p.0 && is_empty p.1)) ≡ b
    → text ≡ codes "put redirect " ++ (path ++ (32 ∷ (p.0 ++ (10 ∷ p.1)))) → cond {A = Option Row} b (Some (redirect_row path p.0)) None ≡ Some row → Spells text row
redirect_if true path p text row is whole e =
    let same : redirect_row path p.0 ≡ row = cc in
    let one = both (is_word path) (is_word p.0 && is_empty p.1) is in
    let two = both (is_word p.0) (is_empty p.1) one.1 in
    subst (λ (r : Row). Spells text r) same ((one.0, two.0), whole ∙ ap (λ t. codes "put redirect " ++ (path ++ (32 ∷ (p.0 ++ (10 ∷ t))))) (empty p.1 two.1))
redirect_if false path p text row is whole e = cc

redirect_cuts : (text rest : List ℕ) (p q : Cut) (row : Row) → after_front (codes "put redirect ") text ≡ Some rest → cut_at 32 rest ≡ Some p → cut_at 10 p.1 ≡ Some q
    → if_redirect p.0 q ≡ Some row → Spells text row
redirect_cuts text rest p q row begins one two e =
    let whole : text ≡ codes "put redirect " ++ (p.0 ++ (32 ∷ (q.0 ++ (10 ∷ q.1)))) =
    after_front-is (codes "put redirect ") text rest begins
    ∙ ap (λ t. codes "put redirect " ++ t) (cut_at-is 32 rest p one)
    ∙ ap (λ t. codes "put redirect " ++ (p.0 ++ (32 ∷ t))) (cut_at-is 10 p.1 q two) in
    redirect_if (is_word p.0 && (is_word q.0 && is_empty q.1)) p.0 q text row refl whole e

redirect_is : (text : List ℕ) (row : Row) → redirect_of text ≡ Some row → Spells text row
redirect_is text row e =
    option_and_then_some target_of (option_and_then (cut_at 32) (after_front (codes "put redirect ") text)) row e (λ p found led.
    option_and_then_some (cut_at 32) (after_front (codes "put redirect ") text) p found (λ rest begins one.
    option_and_then_some (if_redirect p.0) (cut_at 10 p.1) row led (λ q two last.
    redirect_cuts text rest p q row begins one two last)))

release_if : (b : Bool) (text : List ℕ) (row : Row) → bytes_eq text (codes "release\n") ≡ b → cond {A = Option Row} b (Some release_row) None ≡ Some row → Spells text row
release_if true text row is e =
    let same : release_row ≡ row = cc in
    let whole : text ≡ codes "release\n" = (bytes_eq-Decides text (codes "release\n")).0 is in
    subst (λ (r : Row). Spells text r) same (tt, whole)
release_if false text row is e = cc

first_is : (o : Option Row) (later : List (Option Row)) (row : Row) (S : Type 0) → (o ≡ Some row → S) → (first_of later ≡ Some row → S) → first_of (o ∷ later) ≡ Some row → S
first_is None later row S here there e = there e
first_is (Some r) later row S here there e = here e

no_row : (row : Row) (S : Type 0) → first_of [] ≡ Some row → S
no_row row S e = cc

removes_are : (text : List ℕ) (row : Row) → removes_of text ≡ Some row → Spells text row
removes_are text row =
    let S = Spells text row in
    first_is _ _ row S (remove_is template text row)
    (first_is _ _ row S (remove_is partial text row)
    (first_is _ _ row S (remove_is page_data text row)
    (first_is _ _ row S (remove_is route text row) (no_row row S))))

older_spells : (text : List ℕ) (row : Row) → older_row_of text ≡ Some row → Spells text row
older_spells text row =
    let S = Spells text row in
    first_is _ _ row S (put_is (codes "put template ") template_row text row (named (codes "put template ") text) refl (λ p n. n))
    (first_is _ _ row S (put_is (codes "put partial ") partial_row text row (named (codes "put partial ") text) refl (λ p n. n))
    (first_is _ _ row S (put_is (codes "put data ") data_row text row (named (codes "put data ") text) refl (λ p n. n))
    (first_is _ _ row S (route_is text row)
    (first_is _ _ row S (removes_are text row)
    (first_is _ _ row S (release_if (bytes_eq text (codes "release\n")) text row refl) (no_row row S))))))

row_spells : (text : List ℕ) (row : Row) → row_of text ≡ Some row → Spells text row
row_spells text row =
    let S = Spells text row in
    first_is (older_row_of text) _ row S (older_spells text row)
    (first_is _ _ row S (redirect_is text row)
    (first_is _ _ row S (remove_is redirect text row) (no_row row S)))

-- ---- from a spelling to its row

removes : (kind : Kind) (name : List ℕ) → IsWord name → row_of (spelled (remove_row kind name)) ≡ Some (remove_row kind name)
removes template name h = rw (cut_at_line name [] h, h)
removes partial name h = rw (cut_at_line name [] h, h)
removes page_data name h = rw (cut_at_line name [] h, h)
removes route name h = rw (cut_at_line name [] h, h)
removes redirect name h = rw (cut_at_line name [] h, h)

spelled_row : (row : Row) → HasWords row → row_of (spelled row) ≡ Some row
spelled_row (template_row name body) h = rw (cut_at_line name body h, h)
spelled_row (partial_row name body) h = rw (cut_at_line name body h, h)
spelled_row (data_row name body) h = rw (cut_at_line name body h, h)
spelled_row (route_row path shows fills) h =
    let a : is_word path ≡ true = h.0 in
    let b : is_word shows ≡ true = h.1 in
    let c : is_word fills ≡ true = h.2 in
    rw (cut_at_space path (shows ++ (32 ∷ (fills ++ (10 ∷ [])))) a, cut_at_space shows (fills ++ (10 ∷ [])) b, cut_at_line fills [] c, a, b, c)
spelled_row (redirect_row path target) h =
    let a : is_word path ≡ true = h.0 in
    let b : is_word target ≡ true = h.1 in
    rw (cut_at_space path (target ++ (10 ∷ [])) a, cut_at_line target [] b, a, b)
spelled_row (remove_row kind name) h = removes kind name h
spelled_row release_row h = refl

pub row_from : (text : List ℕ) (row : Row) → HasWords row → text ≡ spelled row → row_of text ≡ Some row
row_from text row words is = ap row_of is ∙ spelled_row row words

pub row_is_spelled : RowIsSpelled
row_is_spelled text row = (row_spells text row, λ h. row_from text row h.0 h.1)

-- ---- the table as it was before there were redirects

pub older_row_stays : OlderRowStays
older_row_stays text row e = ap (λ (o : Option Row). first_of (o ∷ redirect_of text ∷ remove_of redirect text ∷ [])) e

redirect_is_new : (text : List ℕ) (row : Row) → redirect_of text ≡ Some row → IsOfRedirect row
redirect_is_new text row e =
    option_and_then_some target_of (option_and_then (cut_at 32) (after_front (codes "put redirect ") text)) row e (λ p found led.
    option_and_then_some (if_redirect p.0) (cut_at 10 p.1) row led (λ q two last. by (is_word p.0 && (is_word q.0 && is_empty q.1)) p.0 q.0 last))
  where
    by : (b : Bool) (path target : List ℕ) → cond {A = Option Row} b (Some (redirect_row path target)) None ≡ Some row → IsOfRedirect row
    by true path target last = let same : redirect_row path target ≡ row = cc in subst IsOfRedirect same tt
    by false path target last = cc

removal_is_new : (text : List ℕ) (row : Row) → remove_of redirect text ≡ Some row → IsOfRedirect row
removal_is_new text row e =
    option_and_then_some (if_bare redirect) (named (codes "remove redirect ") text) row e (λ p found last. by (is_empty p.1) p.0 last)
  where
    by : (b : Bool) (name : List ℕ) → cond {A = Option Row} b (Some (remove_row redirect name)) None ≡ Some row → IsOfRedirect row
    by true name last = let same : remove_row redirect name ≡ row = cc in subst IsOfRedirect same tt
    by false name last = cc

pub new_row_is_of_redirect : NewRowIsOfRedirect
new_row_is_of_redirect text row none =
    let S = IsOfRedirect row in
    first_is (older_row_of text) _ row S (λ some. absurd (none-some row (sym none ∙ some)))
    (first_is _ _ row S (redirect_is_new text row)
    (first_is _ _ row S (removal_is_new text row) (no_row row S)))
