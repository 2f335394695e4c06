-- A list of commands with one more at its end.
use Rattle.std.proofs.Common.{◌≡◌, ℕ, zero, suc, ◌+◌, ◌-◌, ◌<◌, List, [], ◌∷◌, ◌++◌, length, take, Bool, true, false, cond, Option, Some, None, refl, ap, ◌∙◌, arith, zero-add}
use Rattle.std.proofs.Math.Seq.{take-length}
use Rattle.std.proofs.lemmas.List.{take-append-le}
use Rattle.command.specs.Action.{Kind, Action, Order}
use Rattle.command.specs.Effective.{has_ticket, firsts}
use Rattle.command.specs.Releases.{is_release, release_count, through}
use Rattle.command.specs.Site.{is_about, first_or, last_about}
use Rattle.command.proofs.EffectiveLemmas.{firsts-append}

all_before : (os : List Order) (o : Order) → take (0 + length os) (os ++ o ∷ []) ≡ os
all_before os o = ap (λ n. take n (os ++ o ∷ [])) (zero-add (length os)) ∙ take-append-le (length os) os (o ∷ []) (omega arith) ∙ take-length os

pub firsts_more : (os : List Order) (o : Order) (b : Bool) → has_ticket o.ticket os ≡ b → firsts (os ++ o ∷ []) ≡ firsts os ++ cond b [] (o ∷ [])
firsts_more os o true has = firsts-append os (o ∷ []) ∙ rw (all_before os o, has) (refl)
firsts_more os o false has = firsts-append os (o ∷ []) ∙ rw (all_before os o, has) (refl)

pub last_more : (kind : Kind) (name : List ℕ) (os : List Order) (o : Order)
    → last_about kind name (os ++ o ∷ []) ≡ cond (is_about kind name o.action) (Some o.action) (last_about kind name os)
last_more kind name [] o = one (is_about kind name o.action) o.action
  where
    one : (b : Bool) (a : Action) → first_or None (cond b (Some a) None) ≡ cond b (Some a) None
    one b a = refl
last_more kind name (x ∷ os) o =
    ap (λ l. first_or l (cond (is_about kind name x.action) (Some x.action) None)) (last_more kind name os o)
    ∙ joined (is_about kind name o.action) o.action (last_about kind name os) (cond (is_about kind name x.action) (Some x.action) None)
  where
    joined : (b : Bool) (a : Action) (l p : Option Action) → first_or (cond b (Some a) l) p ≡ cond b (Some a) (first_or l p)
    joined true a l p = refl
    joined false a l p = refl

pub count_more : (os : List Order) (o : Order) → release_count (os ++ o ∷ []) ≡ release_count os + cond (is_release o.action) 1 0
count_more [] o = one (is_release o.action)
  where
    one : (b : Bool) → cond b (suc 0) 0 ≡ 0 + cond b 1 0
    one true = refl
    one false = refl
count_more (x ∷ os) o = rw (count_more os o) (joined (is_release x.action) (release_count os) (cond (is_release o.action) 1 0))
  where
    joined : (b : Bool) (n m : ℕ) → cond b (suc (n + m)) (n + m) ≡ cond b (suc n) n + m
    joined true n m = omega arith
    joined false n m = refl

-- ---- releases from the front

pub through_none : (os : List Order) → through os 0 ≡ []
through_none [] = refl
through_none (o ∷ os) = refl

pub through_step : (o : Order) (os : List Order) (n : ℕ) (b : Bool) → 0 < n → is_release o.action ≡ b → through (o ∷ os) n ≡ o ∷ through os (cond b (n - 1) n)
through_step o os zero b some is = absurd (omega arith)
through_step o os (suc n) true some is = rw is (let less : n ≡ suc n - 1 = omega arith in ap (λ k. o ∷ through os k) less)
through_step o os (suc n) false some is = rw is
