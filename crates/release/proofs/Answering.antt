-- Answers, and how they stay as values are added.
use Rattle.std.proofs.Common.{◌≡◌, ◌⊎◌, inl, inr, ℕ, zero, suc, ◌<◌, ◌≤◌, List, [], ◌∷◌, ◌++◌, Bool, true, false, cond, ◌&&◌, nat_lt, nat_le, Some, None, refl, sym, ap, ◌∙◌, arith}
use Rattle.std.proofs.lemmas.Bool.Decides.{leb_tells, nat_tests}
use Rattle.std.proofs.lemmas.Option.{none-some}
use Rattle.command.specs.Action.{Order}
use Rattle.command.specs.Effective.{effective}
use Rattle.command.specs.Releases.{is_release, release_count, through}
use Rattle.command.proofs.EffectiveLemmas.{effective_grows}
use Rattle.command.proofs.ReleaseLemmas.{next_begins, release_stays}
use Rattle.content.specs.View.{ContentsSeen}
use Rattle.content.specs.Standing.{HasContents}
use Rattle.release.specs.Page.{Page, page_of, released, answer}
use Rattle.release.specs.ReleaseSite.{IsSiteOfRelease}
use Rattle.release.specs.Laws.{ListBegins, AnswerStays, ReleasesStay, AnswerIsNone}

is_there : (n newest : ℕ) → 0 < n → n ≤ newest → (nat_lt 0 n && nat_le n newest) ≡ true
is_there n newest some below = let first : nat_lt 0 n ≡ true = grind (arith, nat_tests) in let second : nat_le n newest ≡ true = grind (arith, nat_tests) in rw (first, second)

pub released_is : (os : List Order) (n : ℕ) (path : List ℕ) → 0 < n → n ≤ release_count os → released os n path ≡ Some (page_of (through os n) path)
released_is os n path some below = rw (is_there n (release_count os) some below)

there_is : (n newest : ℕ) → ¬ ((n ≡ 0) ⊎ (newest < n)) → (0 < n) × (n ≤ newest)
there_is zero newest not = absurd (not (inl refl))
there_is (suc n) newest not = (omega arith, by (leb_tells (suc n) newest))
  where
    by : ((nat_le (suc n) newest ≡ true) × (suc n ≤ newest)) ⊎ ((nat_le (suc n) newest ≡ false) × (newest < suc n)) → suc n ≤ newest
    by (inl there) = there.1
    by (inr past) = absurd (not (inr past.1))

-- the page of a release's site is what the values answer for it
pub site_answers : (values : List (List ℕ)) (n : ℕ) (path : List ℕ) (site : ContentsSeen) (page : Page) → IsSiteOfRelease values n site → ((n ≡ 0) ⊎ (release_count (effective values) < n) → true ≡ false)
    → ((orders : List Order) → HasContents site orders → page ≡ page_of orders path) → answer values n path ≡ Some page
site_answers values n path site page is not gives =
    let there = there_is n (release_count (effective values)) (λ h. let never : true ≡ false = not h in cc) in
    released_is (effective values) n path there.0 there.1 ∙ sym (ap Some (gives (through (effective values) n) is))

-- ---- laws

pub list_begins : ListBegins
list_begins values n = next_begins (effective values) n

more_releases : (os rest : List Order) → release_count os ≤ release_count (os ++ rest)
more_releases [] rest = omega arith
more_releases (o ∷ os) rest = step (is_release o.action) (more_releases os rest)
  where
    step : (b : Bool) → release_count os ≤ release_count (os ++ rest) → cond b (suc (release_count os)) (release_count os) ≤ cond b (suc (release_count (os ++ rest))) (release_count (os ++ rest))
    step true h = omega arith
    step false h = h

pub releases_stay : ReleasesStay
releases_stay values more =
    let grows = effective_grows values more in
    let longer : release_count (effective (values ++ more)) ≡ release_count (effective values ++ grows.0) = ap release_count grows.1 in
    omega (arith, longer, more_releases (effective values) grows.0)

none_at_zero : (os : List Order) (path : List ℕ) → released os 0 path ≡ None
none_at_zero os path = refl

pub answer_stays : AnswerStays
answer_stays values more zero path below = none_at_zero (effective (values ++ more)) path ∙ sym (none_at_zero (effective values) path)
answer_stays values more (suc n) path below =
    let grows = effective_grows values more in
    let same : through (effective (values ++ more)) (suc n) ≡ through (effective values) (suc n) = ap (λ os. through os (suc n)) grows.1 ∙ release_stays (effective values) grows.0 (suc n) below in
    let below_more : suc n ≤ release_count (effective (values ++ more)) = omega (arith, releases_stay values more) in
    released_is (effective (values ++ more)) (suc n) path (omega arith) below_more
    ∙ ap (λ os. Some (page_of os path)) same ∙ sym (released_is (effective values) (suc n) path (omega arith) below)

none_past : (os : List Order) (n : ℕ) (path : List ℕ) → release_count os < n → released os n path ≡ None
none_past os n path past = let second : nat_le n (release_count os) ≡ false = grind (arith, nat_tests) in rw second (no_and (nat_lt 0 n))
  where
    no_and : (b : Bool) → cond (b && false) (Some (page_of (through os n) path)) None ≡ None
    no_and true = refl
    no_and false = refl

pub answer_is_none : AnswerIsNone
answer_is_none values zero path = (λ e. inl refl, λ h. none_at_zero (effective values) path)
answer_is_none values (suc n) path = (by (leb_tells (suc n) (release_count os)), from)
  where
    os : List Order
    os = effective values

    by : ((nat_le (suc n) (release_count os) ≡ true) × (suc n ≤ release_count os)) ⊎ ((nat_le (suc n) (release_count os) ≡ false) × (release_count os < suc n))
        → released os (suc n) path ≡ None → (suc n ≡ 0) ⊎ (release_count os < suc n)
    by (inl there) e = absurd (none-some (page_of (through os (suc n)) path) (sym e ∙ released_is os (suc n) path (omega arith) there.1))
    by (inr past) e = inr past.1

    from : (suc n ≡ 0) ⊎ (release_count os < suc n) → released os (suc n) path ≡ None
    from (inl never) = absurd (omega arith)
    from (inr past) = none_past os (suc n) path past
