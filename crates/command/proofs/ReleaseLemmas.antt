-- The lists of releases.
use Rattle.std.proofs.Common.{◌≡◌, ◌≢◌, ℕ, zero, suc, ◌≤◌, ◌<◌, List, [], ◌∷◌, ◌++◌, length, take, Bool, true, false, cond, refl, sym, ap, ◌∙◌, arith}
use Rattle.command.specs.Action.{Order}
use Rattle.command.specs.Releases.{is_release, release_count, through, IsShortest}
use Rattle.command.specs.Laws.{ReleaseIsShortest, NextBegins, ReleaseStays}

through-zero : (orders : List Order) → through orders zero ≡ []
through-zero [] = refl
through-zero (a ∷ later) = refl

next_step : (b : Bool) (a : Order) (later : List Order) (n : ℕ) → ((m : ℕ) → (rest : List Order) × (through later (suc m) ≡ through later m ++ rest))
    → (rest : List Order) × (a ∷ through later (cond b (suc n) (suc (suc n))) ≡ (a ∷ through later (cond b n (suc n))) ++ rest)
next_step true a later n ih = let r = ih n in (r.0, ap (λ xs. a ∷ xs) r.1)
next_step false a later n ih = let r = ih (suc n) in (r.0, ap (λ xs. a ∷ xs) r.1)

pub next_begins : NextBegins
next_begins [] n = ([], refl)
next_begins (a ∷ later) zero = (through (a ∷ later) (suc zero), refl)
next_begins (a ∷ later) (suc n) = next_step (is_release a.action) a later n (next_begins later)

stays_step : (b : Bool) (a : Order) (later more : List Order) (n : ℕ) → ((m : ℕ) → m ≤ release_count later → through (later ++ more) m ≡ through later m)
    → suc n ≤ cond b (suc (release_count later)) (release_count later) → a ∷ through (later ++ more) (cond b n (suc n)) ≡ a ∷ through later (cond b n (suc n))
stays_step true a later more n ih h = ap (λ xs. a ∷ xs) (ih n (omega arith))
stays_step false a later more n ih h = ap (λ xs. a ∷ xs) (ih (suc n) h)

pub release_stays : ReleaseStays
release_stays [] more n h = let none : n ≡ 0 = omega arith in ap (through more) none ∙ through-zero more ∙ sym (ap (through []) none)
release_stays (a ∷ later) more zero h = refl
release_stays (a ∷ later) more (suc n) h = stays_step (is_release a.action) a later more n (λ m l. release_stays later more m l) h

counted : (b : Bool) (a : Order) (xs : List Order) → is_release a.action ≡ b → release_count (a ∷ xs) ≡ cond b (suc (release_count xs)) (release_count xs)
counted b a xs is = rw is

later_true : (a : Order) (xs : List Order) (m : ℕ) → is_release a.action ≡ true → ((k : ℕ) → k < length xs → release_count (take k xs) ≢ m) → (k : ℕ) → k < suc (length xs) → release_count (take k (a ∷ xs)) ≢ suc m
later_true a xs m is s zero l e = cc
later_true a xs m is s (suc k) l e = let one : suc (release_count (take k xs)) ≡ suc m = sym (counted true a (take k xs) is) ∙ e in s k (omega arith) (omega arith)

later_false : (a : Order) (xs : List Order) (m : ℕ) → is_release a.action ≡ false → ((k : ℕ) → k < length xs → release_count (take k xs) ≢ suc m) → (k : ℕ) → k < suc (length xs) → release_count (take k (a ∷ xs)) ≢ suc m
later_false a xs m is s zero l e = cc
later_false a xs m is s (suc k) l e = s k (omega arith) (sym (counted false a (take k xs) is) ∙ e)

shortest_step : (b : Bool) (a : Order) (later : List Order) (n : ℕ) → is_release a.action ≡ b → ((m : ℕ) → m ≤ release_count later → IsShortest m later (through later m))
    → suc n ≤ cond b (suc (release_count later)) (release_count later) → IsShortest (suc n) (a ∷ later) (a ∷ through later (cond b n (suc n)))
shortest_step true a later n is ih h =
    let s = ih n (omega arith) in record {
      begins = (s.begins.0, ap (λ ys. a ∷ ys) s.begins.1);
      counts = counted true a (through later n) is ∙ ap suc s.counts;
      shortest = later_true a (through later n) n is s.shortest;
    }
shortest_step false a later n is ih h =
    let s = ih (suc n) h in record {
      begins = (s.begins.0, ap (λ ys. a ∷ ys) s.begins.1);
      counts = counted false a (through later (suc n)) is ∙ s.counts;
      shortest = later_false a (through later (suc n)) n is s.shortest;
    }

pub shortest_is : ReleaseIsShortest
shortest_is [] n h = record { begins = ([], refl); counts = omega arith; shortest = λ k l e. omega arith }
shortest_is (a ∷ later) zero h = record { begins = (a ∷ later, refl); counts = refl; shortest = λ k l e. omega arith }
shortest_is (a ∷ later) (suc n) h = shortest_step (is_release a.action) a later n refl (shortest_is later) h
