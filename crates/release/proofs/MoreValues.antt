-- A list of values with one more at its end: its commands, and its releases.
use Rattle.std.proofs.Common.{◌≡◌, ℕ, zero, suc, ◌+◌, ◌<◌, List, [], ◌∷◌, ◌++◌, Bool, true, false, cond, Result, Ok, Err, refl, sym, ap, ◌∙◌, append-nil, arith}
use Rattle.command.specs.Action.{Action, put_template, put_partial, put_data, put_route, put_redirect, remove, release, Order}
use Rattle.command.specs.Effective.{commands_of, has_ticket, firsts, effective}
use Rattle.command.specs.Reading.{value_reading}
use Rattle.command.specs.Releases.{is_release, release_count, through}
use Rattle.command.specs.declared.fault.CommandFault.{CommandFault}
use Rattle.command.proofs.OneMoreLemmas.{count_more}
use Rattle.content.proofs.Values.{with_none, effective_more}
use Rattle.content.specs.Answered.{applied, applied_after, answered}
use Rattle.content.specs.declared.applied.Applied.{Applied}
use Rattle.content.specs.declared.applied.Applied.TheVariants.{Released, Repeat}

pub repeat_more : (values : List (List ℕ)) (v : List ℕ) (o : Order) → value_reading v ≡ Ok o → has_ticket o.ticket (commands_of values) ≡ true → effective (values ++ v ∷ []) ≡ effective values
repeat_more values v o reads has = effective_more values v o true reads has ∙ append-nil (effective values)

-- ---- how many releases

abbrev pub one_if_released : Applied → ℕ
one_if_released Released = 1
one_if_released _ = 0

-- what a value was applied as, and whether it adds a release
pub counts : (values : List (List ℕ)) (v : List ℕ) → release_count (effective (values ++ v ∷ [])) ≡ release_count (effective values) + one_if_released (applied values v)
counts values v = by (value_reading v) refl
  where
    one : (a : Action) → cond (is_release a) 1 0 ≡ one_if_released (answered a)
    one (put_template n b) = refl
    one (put_partial n b) = refl
    one (put_data n w) = refl
    one (put_route p s f) = refl
    one (put_redirect p t) = refl
    one (remove k n) = refl
    one release = refl

    new : (o : Order) (b : Bool) → value_reading v ≡ Ok o → has_ticket o.ticket (commands_of values) ≡ b
        → release_count (effective (values ++ v ∷ [])) ≡ release_count (effective values) + one_if_released (cond b Repeat (answered o.action))
    new o true reads has = ap release_count (repeat_more values v o reads has) ∙ omega arith
    new o false reads has = ap release_count (effective_more values v o false reads has) ∙ count_more (effective values) o ∙ ap (λ n. release_count (effective values) + n) (one o.action)

    by : (r : Result Order CommandFault) → value_reading v ≡ r → release_count (effective (values ++ v ∷ [])) ≡ release_count (effective values) + one_if_released (applied_after (commands_of values) (value_reading v))
    by (Err fault) reads = rw reads (ap release_count (ap firsts (with_none values v fault reads)) ∙ omega arith)
    by (Ok o) reads = new o (has_ticket o.ticket (commands_of values)) reads refl ∙ ap (λ r. release_count (effective values) + one_if_released (applied_after (commands_of values) r)) (sym reads)

-- ---- up to a release

-- with fewer releases than n all commands are in the list of release n, and so is one more
pub through_last : (os : List Order) (o : Order) (n : ℕ) → release_count os < n → through (os ++ o ∷ []) n ≡ os ++ o ∷ []
through_last os o zero less = absurd (omega arith)
through_last [] o (suc n) less = refl
through_last (x ∷ os) o (suc n) less = step (is_release x.action) (λ m. through_last os o m) less
  where
    step : (b : Bool) → ((m : ℕ) → release_count os < m → through (os ++ o ∷ []) m ≡ os ++ o ∷ []) → cond b (suc (release_count os)) (release_count os) < suc n
        → x ∷ through (os ++ o ∷ []) (cond b n (suc n)) ≡ x ∷ os ++ o ∷ []
    step true later l = ap (λ xs. x ∷ xs) (later n (omega arith))
    step false later l = ap (λ xs. x ∷ xs) (later (suc n) l)
