-- Within the budget, in time, and with ever more patience.
use Rattle.std.proofs.Common.{◌≡◌, ◌⊎◌, inl, inr, ℕ, ◌+◌, ◌-◌, ◌*◌, ◌/◌, ◌^◌, ◌<◌, ◌≤◌, min, max, Bool, true, false, Option, Some, None, refl, arith}
use Rattle.std.specs.Prelude.{nat_eq, nat_le, nat_lt, ◌||◌, if◌then◌else◌}
use Rattle.std.proofs.Math.Nat.{mul-le-mul_left}
use Rattle.std.proofs.lemmas.Bool.Decides.{nat_tests}
use Rattle.server_pace.specs.Courses.{asked_again, first_course, flight_of, moved_on}
use Rattle.server_pace.specs.Laws.{BeginsWithin, ComesInTime, HasBudgets, HearsWithin, IsAsked, IsWithin, PatienceGrows, TellsWithin}
use Rattle.server_pace.specs.Turns.{keeping_or, telling_or}
use Rattle.site_drive.specs.declared.last_call.LastCall.TheVariants.{Ask, Nothing, TickOrAsk, Widen}
use Rattle.server_pace.specs.declared.course.Course.{Course}
use Rattle.server_times.specs.Timing.{passed}
use Rattle.server_times.specs.declared.times.Times.{Times}

pub begins_within : BeginsWithin
begins_within times now i has = record { some = has.0; budget = has.1; next = omega arith }

moved_within : (times : Times) (now i : ℕ) (c : Course) → HasBudgets times → nat_lt (c.first + 1) i ≡ true → IsWithin times c → IsWithin times (moved_on times now i c)
moved_within times now i c has further is =
    let on : c.first + 1 ≤ i = grind (arith, nat_tests, further) in
    record {
      some = omega (arith, is.some, is.budget, has.0, has.1);
      budget = omega arith;
      next = omega (arith, is.next, is.some, is.budget, on);
    }

abbrev on_again : ℕ → ℕ → Course → Course
on_again now i c = record c { first = i; next = max c.next i; repeats = min (c.repeats + 1) (2 ^ 32 - 1); at = now; asked = true }

again_within : (times : Times) (now i : ℕ) (c : Course) → HasBudgets times → nat_le c.first i ≡ true → IsWithin times c → IsWithin times (asked_again times now i c)
again_within times now i c has later is = by (nat_lt (flight_of c) (now - c.since))
  where
    on : c.first ≤ i
    on = grind (arith, nat_tests, later)

    back : Course
    back = record (on_again now i c) { next = i; budget = max (min (c.budget * 3) (2 ^ 32 - 1) / 4) times.least; since = now; back = true }

    by : (b : Bool) → IsWithin times (if b then back else on_again now i c)
    by true = record {
      some = omega (arith, has.0);
      budget = omega (arith, has.1, is.budget);
      next = omega (arith, has.0);
    }
    by false = record {
      some = is.some;
      budget = is.budget;
      next = omega (arith, is.next, is.some, on);
    }

late_within : (times : Times) (now i : ℕ) (c : Course) → HasBudgets times → IsWithin times c → (b : Bool) → IsWithin times (if b then first_course times now i else c)
late_within times now i c has is true = begins_within times now i has
late_within times now i c has is false = is

pub hears_within : HearsWithin
hears_within times now i c has is = by (nat_lt (c.first + 1) i) (nat_le c.first i) refl refl
  where
    by : (b d : Bool) → nat_lt (c.first + 1) i ≡ b → nat_le c.first i ≡ d
        → IsWithin times (if b then moved_on times now i c else (if d then asked_again times now i c else (if passed (Some c.at) now times.late then first_course times now i else c)))
    by true d at to = moved_within times now i c has at is
    by false true at to = again_within times now i c has to is
    by false false at to = late_within times now i c has is (passed (Some c.at) now times.late)

pub tells_within : TellsWithin
tells_within times count c few may is =
    let ahead : c.next - c.first ≤ (c.budget - 1) * count = grind (arith, nat_tests, may) in
    let most : (c.budget - 1) * count ≤ (c.budget - 1) * 64 = mul-le-mul_left (c.budget - 1) few in
    record { some = is.some; budget = is.budget; next = omega (arith, ahead, most, few, is.some) }

pub comes_in_time : ComesInTime
comes_in_time last times now seen empty more at = inl at

pub is_asked : IsAsked
is_asked due question = by due.fresh due.block due.tick due.goes_on due.question refl refl refl question
  where
    by : (f : Bool) (block : Option (ℕ × ℕ)) (t g q : Bool) → due.fresh ≡ f → due.tick ≡ t → due.goes_on ≡ g → q ≡ true
        → ((if f then TickOrAsk else keeping_or block q (if t || g then TickOrAsk else (if q then Ask else telling_or due.telling (if due.yields then Nothing else Widen)))) ≡ Ask)
        ⊎ (((if f then TickOrAsk else keeping_or block q (if t || g then TickOrAsk else (if q then Ask else telling_or due.telling (if due.yields then Nothing else Widen)))) ≡ TickOrAsk)
        × ((due.fresh ≡ true) ⊎ ((due.tick ≡ true) ⊎ (due.goes_on ≡ true))))
    by true block t g q fresh tick on is = inr (refl, inl fresh)
    by false (Some x) t g true fresh tick on is = inl refl
    by false (Some x) t g false fresh tick on is = absurd (cc)
    by false None true g q fresh tick on is = inr (refl, inr (inl tick))
    by false None false true q fresh tick on is = inr (refl, inr (inr on))
    by false None false false true fresh tick on is = inl refl
    by false None false false false fresh tick on is = absurd (cc)

pub patience_grows : PatienceGrows
patience_grows t times now stake some below = by (nat_eq t.ticks 0) stake refl
  where
    by : (b s : Bool) → nat_eq t.ticks 0 ≡ b
        → t.longer + times.longer < max (min (min (t.ticks + 1) (2 ^ 32 - 1) + 1) times.growth) (max (if b then t.longer else min (t.longer + times.longer) (2 ^ 32 - 1)) (if s then 0 else times.longer) + 1)
    by true s is = absurd (some (grind (arith, nat_tests, is)))
    by false true is = omega (arith, below)
    by false false is = omega (arith, below)
