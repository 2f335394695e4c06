-- Ticks that are due are a patience apart.
use Rattle.std.proofs.Common.{◌≡◌, ℕ, zero, suc, ◌+◌, ◌≤◌, Bool, true, false, cond, Option, Some, None, List}
use Rattle.std.proofs.Common.{refl}
use Rattle.std.proofs.Common.{sym, ap, subst, ◌∙◌, arith}
use Rattle.std.specs.Prelude.{◌*◌, ◌||◌, ◌&&◌, not, nat_eq}
use Rattle.site_ids.specs.Ids.{IsNode}
use Rattle.node.specs.declared.to.To.{To}
use Rattle.site_drive.specs.declared.last_call.LastCall.{LastCall}
use Rattle.site_drive.specs.declared.last_call.LastCall.TheVariants.{TickOrAsk, Widen, Ask, Tell, Keep}
use Rattle.site_drive.specs.declared.last_call.LastCall.TheVariants.{Nothing}
use Rattle.server_pace.specs.declared.due.Due.{Due}
use Rattle.server_pace.specs.declared.pace.Pace.{Pace}
use Rattle.server_pace.specs.declared.seen.Seen.{Seen}
use Rattle.server_pace.specs.declared.ticking.Ticking.{Ticking}
use Rattle.server_pace.specs.Pacing.{noted, leaves, waited, begun, ticked, ticking_after, Ticks}
use Rattle.server_times.specs.declared.times.Times.{Times}
use Rattle.rounds.specs.Rounds.{Server, Group, Steps, AreRounds}
use Rattle.rounds.specs.Ticking.{ticks_as_due, due_ticks, TicksAreApart}
use Rattle.rounds.proofs.Waiting.{inside, not_true, still_noted, newly_noted, since_late, once, some_waited}
use Rattle.rounds.proofs.Waiting.{ticking_is, patience_is, heard_ticking, heard_patience}

no_moment : (a : ℕ) → ◌≡◌ {A = Option ℕ} None (Some a) → ⊥
no_moment a e = cc

-- it waits since that moment at the earliest
abbrev IsSince : ℕ → Ticking → Type 0
IsSince from t = (a : ℕ) → t.since ≡ Some a → from ≤ a

since_now : (from now : ℕ) (wanted : Bool) (a : ℕ) → from ≤ now → cond wanted (Some now) None ≡ Some a
    → from ≤ a
since_now from now true a low e = let x = inside now a e in omega (arith, x, low)
since_now from now false a low e = absurd (no_moment a e)

noted_since : (from : ℕ) (t : Ticking) (times : Times) (now : ℕ) (seen : Seen) (stirred : Bool) → from ≤ now
    → IsSince from t → IsSince from (noted t times now seen stirred)
noted_since from t times now seen stirred low old = by (nat_eq seen.known t.known)
  where
    by : (b : Bool) → IsSince from (cond b (still_noted t times now seen stirred) (newly_noted t now seen))
    by true a at = since_late from now seen.wanted (leaves t times now seen stirred) t.since a low old at
    by false a at = since_now from now seen.wanted a low at

called_since : (from : ℕ) (times : Times) (t : Ticking) (now : ℕ) (due : Due) (last : LastCall) → from ≤ now
    → IsSince from t → IsSince from (ticking_after times t now due last)
called_since from times t now due TickOrAsk low old = by (due.fresh || not due.tick)
  where
    by : (b : Bool) → IsSince from (cond b (begun t) (ticked t times now due.answered))
    by true a at = old a at
    by false a at = let x = inside now a at in omega (arith, x, low)
called_since from times t now due Widen low old = old
called_since from times t now due Ask low old = old
called_since from times t now due (Tell r f) low old = old
called_since from times t now due (Keep j k) low old = old
called_since from times t now due Nothing low old = old

-- after such a tick it waits anew
ticked_since : (times : Times) (t : Ticking) (now : ℕ) (due : Due) (last : LastCall)
    → ticks_as_due last due ≡ true → IsSince now (ticking_after times t now due last)
ticked_since times t now due TickOrAsk is = by due.fresh due.tick is
  where
    by : (f k : Bool) → (k && not f) ≡ true
        → IsSince now (cond (f || not k) (begun t) (ticked t times now due.answered))
    by true true e a at = absurd (not_true e)
    by true false e a at = absurd (not_true e)
    by false true e a at = let x = inside now a at in omega (arith, x)
    by false false e a at = absurd (not_true e)
ticked_since times t now due Widen is = absurd (not_true is)
ticked_since times t now due Ask is = absurd (not_true is)
ticked_since times t now due (Tell r f) is = absurd (not_true is)
ticked_since times t now due (Keep j k) is = absurd (not_true is)
ticked_since times t now due Nothing is = absurd (not_true is)

is_due : (last : LastCall) (due : Due) → ticks_as_due last due ≡ true → due.tick ≡ true
is_due TickOrAsk due is = by due.fresh due.tick is
  where
    by : (f k : Bool) → (k && not f) ≡ true → k ≡ true
    by f true e = refl
    by f false e = absurd (not_true e)
is_due Widen due is = absurd (not_true is)
is_due Ask due is = absurd (not_true is)
is_due (Tell r f) due is = absurd (not_true is)
is_due (Keep j k) due is = absurd (not_true is)
is_due Nothing due is = absurd (not_true is)

passed_since : (from : ℕ) (t : Ticking) (now patience : ℕ) (times : Times) (stake : Bool) → from ≤ now
    → IsSince from t → Ticks t now patience times stake → from + patience ≤ now
passed_since from t now patience times stake low old due =
    let w1 = some_waited t times stake in
    let more = once patience (waited t times stake) w1 in
    let first = old due.0 due.1 in
    let passed = due.2 in
    omega (arith, more, first, passed, low)

-- ---- a step

module _ (n q : ℕ) (x y : Server) (letters : List (To × List ℕ)) (st : Steps n q x y letters) where
  patience_kept : y.pace.patience ≡ x.pace.patience
  patience_kept = ap (λ (p : Pace). p.patience) st.rests ∙ heard_patience st.called st.heard st.delivered
      st.hears
      ∙ patience_is n x.pace x.node y.now st.drained st.last st.called st.calls

  abbrev noted_now : Ticking
  noted_now = noted x.pace.ticking x.pace.times y.now st.calls.seen x.pace.stirred

  ticking_kept : y.pace.ticking ≡ ticking_after x.pace.times noted_now y.now st.calls.due st.last
  ticking_kept = ap (λ (p : Pace). p.ticking) st.rests ∙ heard_ticking st.called st.heard st.delivered
      st.hears
      ∙ ticking_is n x.pace x.node y.now st.drained st.last st.called st.calls

  step_since : (from : ℕ) → from ≤ y.now → IsSince from x.pace.ticking → IsSince from y.pace.ticking
  step_since from low old = subst (IsSince from) (sym ticking_kept) (called_since from x.pace.times noted_now
      y.now st.calls.due st.last low
      (noted_since from x.pace.ticking x.pace.times y.now st.calls.seen x.pace.stirred low old))

  step_anew : ticks_as_due st.last st.calls.due ≡ true → IsSince y.now y.pace.ticking
  step_anew is = subst (IsSince y.now) (sym ticking_kept) (ticked_since x.pace.times noted_now y.now
      st.calls.due st.last is)

  step_passed : (from : ℕ) → from ≤ y.now → IsSince from x.pace.ticking
      → ticks_as_due st.last st.calls.due ≡ true → from + x.pace.patience ≤ y.now
  step_passed from low old is = passed_since from noted_now y.now x.pace.patience x.pace.times
      st.calls.seen.stake low
      (noted_since from x.pace.ticking x.pace.times y.now st.calls.seen x.pace.stirred low old)
      (st.calls.is_due.tick.0 (is_due st.last st.calls.due is))

-- ---- rounds

one_more : (r p : ℕ) → suc r * p ≡ p + r * p
one_more r p = grind arith

none_of : (p : ℕ) → 0 * p ≡ 0
none_of p = grind arith

module _ (n d q : ℕ) (here : IsNode n q) where
  abbrev count : (k : ℕ) (g h : Group) → AreRounds n d k g h → ℕ
  count k g h rounds = due_ticks n d k g h rounds q here

  abbrev first_step : (k : ℕ) (g h : Group) (rounds : AreRounds n d (suc k) g h)
      → Steps n q (g q) (rounds.0 q) (rounds.1.letters q)
  first_step k g h rounds = rounds.1.steps q here

  -- since that moment each such tick took a patience
  apart_from : (k : ℕ) (g h : Group) (rounds : AreRounds n d k g h) (from p : ℕ) → (g q).pace.patience ≡ p
      → IsSince from (g q).pace.ticking → from ≤ (g q).now → count k g h rounds * p + from ≤ (h q).now
  apart_from zero g h rounds from p patience old low =
      let e : (h q).now ≡ (g q).now = ap (λ (f : Group). (f q).now) rounds in
      let none = none_of p in
      omega (arith, e, low, none)
  apart_from (suc k) g h rounds from p patience old low = by
      (ticks_as_due (first_step k g h rounds).last (first_step k g h rounds).calls.due) refl
      (λ f since within. apart_from k rounds.0 h rounds.2 f p kept since within)
    where
      kept : (rounds.0 q).pace.patience ≡ p
      kept = patience_kept n q (g q) (rounds.0 q) (rounds.1.letters q) (first_step k g h rounds) ∙ patience

      on : from ≤ (rounds.0 q).now
      on = let c = (rounds.1.clocks q here).0 in omega (arith, low, c)

      by : (b : Bool) → ticks_as_due (first_step k g h rounds).last (first_step k g h rounds).calls.due ≡ b
          → ((f : ℕ) → IsSince f (rounds.0 q).pace.ticking → f ≤ (rounds.0 q).now
          → count k rounds.0 h rounds.2 * p + f ≤ (h q).now)
          → cond b (suc (count k rounds.0 h rounds.2)) (count k rounds.0 h rounds.2) * p + from ≤ (h q).now
      by true is later =
          let rest = later (rounds.0 q).now
          (step_anew n q (g q) (rounds.0 q) (rounds.1.letters q) (first_step k g h rounds) is) (omega arith)
          in
          let passed = step_passed n q (g q) (rounds.0 q) (rounds.1.letters q) (first_step k g h rounds) from
          on
          old is in
          let all = one_more (count k rounds.0 h rounds.2) p in
          omega (arith, rest, passed, all, patience)
      by false is later = later from
          (step_since n q (g q) (rounds.0 q) (rounds.1.letters q) (first_step k g h rounds) from on old) on

  -- each but the first
  each_apart : (k : ℕ) (g h : Group) (rounds : AreRounds n d k g h) (p : ℕ) → (g q).pace.patience ≡ p
      → count k g h rounds * p + (g q).now ≤ p + (h q).now
  each_apart zero g h rounds p patience =
      let e : (h q).now ≡ (g q).now = ap (λ (f : Group). (f q).now) rounds in
      let none = none_of p in
      omega (arith, e, none)
  each_apart (suc k) g h rounds p patience = by
      (ticks_as_due (first_step k g h rounds).last (first_step k g h rounds).calls.due) refl
      (each_apart k rounds.0 h rounds.2 p kept)
    where
      kept : (rounds.0 q).pace.patience ≡ p
      kept = patience_kept n q (g q) (rounds.0 q) (rounds.1.letters q) (first_step k g h rounds) ∙ patience

      by : (b : Bool) → ticks_as_due (first_step k g h rounds).last (first_step k g h rounds).calls.due ≡ b
          → count k rounds.0 h rounds.2 * p + (rounds.0 q).now ≤ p + (h q).now
          → cond b (suc (count k rounds.0 h rounds.2)) (count k rounds.0 h rounds.2) * p + (g q).now
          ≤ p + (h q).now
      by true is later =
          let rest = apart_from k rounds.0 h rounds.2 (rounds.0 q).now p kept
          (step_anew n q (g q) (rounds.0 q) (rounds.1.letters q) (first_step k g h rounds) is) (omega arith)
          in
          let c = (rounds.1.clocks q here).0 in
          let all = one_more (count k rounds.0 h rounds.2) p in
          omega (arith, rest, c, all)
      by false is later =
          let c = (rounds.1.clocks q here).0 in
          omega (arith, later, c)

  clock_within : (k : ℕ) (g h : Group) → AreRounds n d k g h → (h q).now ≤ (g q).now + k * d
  clock_within zero g h rounds =
      let e : (h q).now ≡ (g q).now = ap (λ (f : Group). (f q).now) rounds in
      let none = none_of d in
      omega (arith, e, none)
  clock_within (suc k) g h rounds =
      let rest = clock_within k rounds.0 h rounds.2 in
      let c = (rounds.1.clocks q here).1 in
      let all = one_more k d in
      omega (arith, rest, c, all)

pub ticks_are_apart : TicksAreApart
ticks_are_apart n d k g h rounds q here =
    let each = each_apart n d q here k g h rounds (g q).pace.patience refl in
    let clock = clock_within n d q here k g h rounds in
    omega (arith, each, clock)
