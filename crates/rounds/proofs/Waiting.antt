-- Who ticks: a server tries a fresh value at once. One that wants no tick, or waits for less than its
-- patience, does not tick.
use Rattle.std.proofs.Common.{◌≡◌, ◌≢◌, ◌⊎◌, ⊎_elim, ℕ, zero, suc, ◌+◌, ◌<◌, ◌≤◌, Bool, true, false, cond}
use Rattle.std.proofs.Common.{Option, Some, None, List, [], ◌∷◌, length, refl, sym, ap, subst, ◌∙◌, arith}
use Rattle.std.specs.Prelude.{◌-◌, ◌*◌, ◌^◌, ◌||◌, ◌&&◌, not, nat_eq, nat_lt, min, max}
use Rattle.std.specs.Prelude.{unwrap_or, ⊤}
use Rattle.std.proofs.lemmas.Bool.Decides.{nat_tests}
use Rattle.site_ids.specs.Lists.{In}
use Rattle.wire.specs.declared.message.Message.{Message}
use Rattle.wire.specs.Decoding.{Spells}
use Rattle.wire.proofs.ReadingLemmas.{one_message}
use Rattle.durable.specs.Entries.{IsPromise}
use Rattle.node.specs.Nodes.{Value, Node, WantsTick, IsKnownPrefix}
use Rattle.site_drive.specs.Delivering.{AreNoted, noted as noted_more, stirs, counted_if}
use Rattle.site_drive.specs.declared.delivered.Delivered.{Delivered}
use Rattle.site_drive.specs.declared.last_call.LastCall.{LastCall}
use Rattle.site_drive.specs.declared.last_call.LastCall.TheVariants.{TickOrAsk, Widen, Ask, Tell, Keep}
use Rattle.site_drive.specs.declared.last_call.LastCall.TheVariants.{Nothing}
use Rattle.server_pace.specs.declared.due.Due.{Due}
use Rattle.server_pace.specs.declared.pace.Pace.{Pace}
use Rattle.server_pace.specs.declared.seen.Seen.{Seen}
use Rattle.server_pace.specs.declared.ticking.Ticking.{Ticking}
use Rattle.server_pace.specs.declared.yielding.Yielding.{Yielding}
use Rattle.server_pace.specs.declared.questions.Questions.{Questions}
use Rattle.server_pace.specs.Pacing.{noted, leaves, is_one_more, noted_tries, Ticks, waited, begun, Waits}
use Rattle.server_pace.specs.Pacing.{IsBehind, IsTriedBy, ticked, ticking_after, IsTelling, CallsDue, HearsBatch}
use Rattle.server_pace.specs.Turns.{call_behind, keeping_or, telling_or}
use Rattle.server_times.specs.declared.times.Times.{Times}
use Rattle.rounds.proofs.Besides.{some_at}
use Rattle.rounds.proofs.Holding.{IsNoTick, IsTellLow}

by_not : (b : Bool) → (b ≡ true → ⊥) → b ≡ false
by_not false never = refl
by_not true never = absurd (never refl)

pub not_true : false ≡ true → ⊥
not_true e = cc

same_number : (a b : ℕ) → a ≡ b → nat_eq a b ≡ true
same_number a b e = grind (arith, nat_tests)

pub inside : (a b : ℕ) → Some a ≡ Some b → a ≡ b
inside a b e = cc

no_number : (q : ℕ) → ◌≡◌ {A = Option ℕ} None (Some q) → ⊥
no_number q e = cc

-- ---- the last call

-- if there is a telling, it begins with an instance
abbrev pub IsLowOr : Option (ℕ × ℕ) → Type 0
IsLowOr None = ⊤
IsLowOr (Some x) = x.1 ≤ 1000000

low_tell : (t : Option (ℕ × ℕ)) (z : Bool) → IsLowOr t → IsTellLow (telling_or t (cond z Nothing Widen))
low_tell None true low = tt
low_tell None false low = tt
low_tell (Some x) z low = low

low_rest : (k q z : Bool) (t : Option (ℕ × ℕ)) → IsLowOr t → IsTellLow
    (cond k TickOrAsk (cond q Ask (telling_or t (cond z Nothing Widen))))
low_rest true q z t low = tt
low_rest false true z t low = tt
low_rest false false z t low = low_tell t z low

low_kept : (f k q z : Bool) (b t : Option (ℕ × ℕ)) → IsLowOr t
    → IsTellLow (cond f TickOrAsk
    (keeping_or b q (cond k TickOrAsk (cond q Ask (telling_or t (cond z Nothing Widen))))))
low_kept true k q z b t low = tt
low_kept false k q z None t low = low_rest k q z t low
low_kept false k true z (Some x) t low = tt
low_kept false k false z (Some x) t low = tt

idle_tell : (t : Option (ℕ × ℕ)) (z : Bool) → IsNoTick (telling_or t (cond z Nothing Widen))
idle_tell None true = tt
idle_tell None false = tt
idle_tell (Some x) z = tt

idle_rest : (q z : Bool) (t : Option (ℕ × ℕ)) → IsNoTick (cond q Ask (telling_or t (cond z Nothing Widen)))
idle_rest true z t = tt
idle_rest false z t = idle_tell t z

idle_kept : (f k q z : Bool) (b t : Option (ℕ × ℕ)) → f ≡ false → k ≡ false
    → IsNoTick (cond f TickOrAsk
    (keeping_or b q (cond k TickOrAsk (cond q Ask (telling_or t (cond z Nothing Widen))))))
idle_kept true k q z b t e h = absurd (not_true (sym e))
idle_kept false true q z b t e h = absurd (not_true (sym h))
idle_kept false false q z None t e h = idle_rest q z t
idle_kept false false true z (Some x) t e h = tt
idle_kept false false false z (Some x) t e h = tt

neither : (a b : Bool) → a ≡ false → b ≡ false → (a || b) ≡ false
neither false b e h = h
neither true b e h = absurd (not_true (sym e))

-- ---- ticking

-- so many values are known, it does not go on by itself, and it waits since that moment at the earliest
pub record IsWaiting (k from : ℕ) (t : Ticking) : Type 0 where
  pub known : t.known ≡ k
  pub resumes : t.resumes ≡ false
  pub since : (a : ℕ) → t.since ≡ Some a → from ≤ a

pub since_late : (from now : ℕ) (wanted left : Bool) (before : Option ℕ) (a : ℕ) → from ≤ now
    → ((x : ℕ) → before ≡ Some x → from ≤ x) → cond (not wanted) None
    (cond left (Some now) (Some (unwrap_or before now))) ≡ Some a → from ≤ a
since_late from now false left before a low old e = absurd (no_number a e)
since_late from now true true before a low old e = let x = inside now a e in omega (arith, x, low)
since_late from now true false None a low old e = let x = inside now a e in omega (arith, x, low)
since_late from now true false (Some y) a low old e = let x = inside y a e in let z = old y refl in omega
    (arith, x, z)

-- what is noted where no more is known
abbrev pub still_noted : Ticking → Times → ℕ → Seen → Bool → Ticking
still_noted t times now seen stirred = record t {
  since = cond (not seen.wanted) None (cond (leaves t times now seen stirred) (Some now)
      (Some (unwrap_or t.since now)));
  first = cond seen.wanted (Some (unwrap_or t.first now)) None;
}

-- and where more is
abbrev pub newly_noted : Ticking → ℕ → Seen → Ticking
newly_noted t now seen = record {
  since = cond seen.wanted (Some now) None;
  first = cond seen.wanted (Some now) None;
  known = seen.known;
  ticks = 0;
  longer = cond (nat_eq t.ticks 0) 0 t.longer;
  at = t.at;
  resumes = seen.resumes && is_one_more t.at seen.known;
}

same_noted : (t : Ticking) (times : Times) (now : ℕ) (seen : Seen) (stirred : Bool) → seen.known ≡ t.known
    → noted t times now seen stirred ≡ still_noted t times now seen stirred
same_noted t times now seen stirred e = ap (λ b. cond b (still_noted t times now seen stirred)
    (newly_noted t now seen)) (same_number seen.known t.known e)

noted_waits : (k from : ℕ) (t : Ticking) (times : Times) (now : ℕ) (seen : Seen) (stirred : Bool)
    → seen.known ≡ k → from ≤ now → IsWaiting k from t → IsWaiting k from (noted t times now seen stirred)
noted_waits k from t times now seen stirred e low w =
    subst (IsWaiting k from) (sym (same_noted t times now seen stirred (e ∙ sym w.known))) (record {
      known = w.known;
      resumes = w.resumes;
      since = λ a at. since_late from now seen.wanted (leaves t times now seen stirred) t.since a low w.since
          at;
    })

-- none is wanted
noted_unwanted : (t : Ticking) (times : Times) (now : ℕ) (seen : Seen) (stirred : Bool) → seen.wanted ≡ false
    → (noted t times now seen stirred).since ≡ None
noted_unwanted t times now seen stirred none = by (nat_eq seen.known t.known)
  where
    by : (b : Bool) → (cond b (still_noted t times now seen stirred) (newly_noted t now seen)).since ≡ None
    by true = ap (λ w. cond (not w) None (cond (leaves t times now seen stirred) (Some now)
        (Some (unwrap_or t.since now)))) none
    by false = ap (λ w. cond w (Some now) None) none

pub once : (p k : ℕ) → 1 ≤ k → p ≤ p * k
once p zero h = omega (arith, h)
once p (suc k) h = grind arith

pub some_waited : (t : Ticking) (times : Times) (stake : Bool) → 1 ≤ waited t times stake
some_waited t times stake = by (min (t.ticks + 1) times.growth) (max t.longer (cond stake 0 times.longer))
  where
    by : (a b : ℕ) → 1 ≤ max a (b + 1)
    by a b = omega arith

too_soon : (k from : ℕ) (t : Ticking) (now patience : ℕ) (times : Times) (stake : Bool) → IsWaiting k from t
    → now - from < patience → Ticks t now patience times stake → ⊥
too_soon k from t now patience times stake w soon due =
    let w1 = some_waited t times stake in
    let more = once patience (waited t times stake) w1 in
    let low = w.since due.0 due.1 in
    let passed = due.2 in
    omega (arith, more, low, passed, soon)

-- ---- what is due

-- two values that are known without a gap are as many
pub one_prefix : (s : Node) (vs ws : List Value) → IsKnownPrefix s vs → IsKnownPrefix s ws
    → length vs ≡ length ws
one_prefix s vs ws a b = by (order (length vs) (length ws))
  where
    order : (j k : ℕ) → (j < k) ⊎ ((k < j) ⊎ (j ≡ k))
    order j k = grind arith

    clash : (x : Value) → ◌≡◌ {A = Option Value} None (Some x) → ⊥
    clash x e = cc

    by : (length vs < length ws) ⊎ ((length ws < length vs) ⊎ (length vs ≡ length ws)) → length vs ≡ length ws
    by h = ⊎_elim
        (λ low. let x = some_at ws (length vs) low in absurd
        (clash x.0 (sym a.gap ∙ b.begins (length vs) x.0 x.1)))
        (λ more. ⊎_elim (λ low. let x = some_at vs (length ws) low in absurd
        (clash x.0 (sym b.gap ∙ a.begins (length ws) x.0 x.1))) (λ e. e) more)
        h

nobody : (s : Node) (i : ℕ) (tries : Option ℕ) → IsPromise s.entries i None → IsTriedBy s i tries
    → tries ≡ None
nobody s i None free tried = refl
nobody s i (Some q) free tried = absurd (free tried.1.1.0.0 tried.1.0 tried.1.1.0.1 tried.1.1.0.2)

-- if none tries, and no other server's turn is before its own, it waits for nobody
waits_for_none : (y : Yielding) (now me : ℕ) → ¬ IsBehind y me → Waits (noted_tries y now None) me → ⊥
waits_for_none y now me turn waits =
    ⊎_elim
    (λ x. absurd (no_number x.0 x.1))
    (λ b. turn (record {
      last = b.last;
      node = b.node;
      is_last = b.is_last;
      range = b.range;
      tried = b.tried;
      before = b.before;
    }))
    waits

ticking_kept : (times : Times) (t : Ticking) (now : ℕ) (due : Due) (last : LastCall) → IsNoTick last
    → ticking_after times t now due last ≡ t
ticking_kept times t now due TickOrAsk idle = absurd idle
ticking_kept times t now due Widen idle = refl
ticking_kept times t now due Ask idle = refl
ticking_kept times t now due (Tell r f) idle = refl
ticking_kept times t now due (Keep j k) idle = refl
ticking_kept times t now due Nothing idle = refl

-- it ticks for a value that is fresh
fresh_begun : (times : Times) (t : Ticking) (now : ℕ) (due : Due) (last : LastCall) → last ≡ TickOrAsk
    → due.fresh ≡ true → ticking_after times t now due last ≡ begun t
fresh_begun times t now due last is fresh = ap (ticking_after times t now due) is ∙ by due.fresh fresh
  where
    by : (f : Bool) → f ≡ true → cond (f || not due.tick) (begun t) (ticked t times now due.answered) ≡ begun
        t
    by true e = refl
    by false e = absurd (not_true e)

low_told : (old : Pace) (n : ℕ) (s : Node) (now : ℕ) (seen : Seen) (waits : Bool) (telling : Option (ℕ × ℕ))
    (new : Questions) → IsTelling old n s now seen waits telling new → IsLowOr telling
low_told old n s now seen waits telling new how =
    ⊎_elim
    (λ x. subst IsLowOr (sym x.1) tt)
    (λ x. ⊎_elim
    (λ y. let high = y.1.1.due.range.1 in let at = y.1.1.first in subst IsLowOr (sym y.2)
    (omega (arith, high, at)))
    (λ y. subst IsLowOr (sym y.1) tt)
    x.1.tells)
    how

module _ (n : ℕ) (old : Pace) (s : Node) (now : ℕ) (drained : Bool) (last : LastCall) (mid : Pace)
    (calls : CallsDue old n s now drained last mid) where
  -- what a telling begins with is an instance
  pub tell_low : IsTellLow last
  tell_low =
      let low = low_told old n s now calls.seen _ calls.telling mid.questions calls.is_told in
      let told = subst IsLowOr (sym calls.is_due.told) low in
      let d = calls.due in
      subst IsTellLow (sym calls.is_called) (low_kept d.fresh (d.tick || d.goes_on) d.question d.yields
      d.block d.telling told)

  no_tick_of : calls.due.fresh ≡ false → calls.due.tick ≡ false → calls.due.goes_on ≡ false → IsNoTick last
  no_tick_of fresh tick goes_on =
      let d = calls.due in
      subst IsNoTick (sym calls.is_called) (idle_kept d.fresh (d.tick || d.goes_on) d.question d.yields
      d.block d.telling fresh (neither d.tick d.goes_on tick goes_on))

  pub ticking_is : mid.ticking ≡ ticking_after old.times (noted old.ticking old.times now calls.seen
      old.stirred)
      now calls.due last
  ticking_is = ap (λ (x : Pace). x.ticking) calls.after

  pub patience_is : mid.patience ≡ old.patience
  patience_is = ap (λ (x : Pace). x.patience) calls.after

  pub unstirred : mid.stirred ≡ false
  unstirred = ap (λ (x : Pace). x.stirred) calls.after

  module _ (values : List Value) (prefix : IsKnownPrefix s values) where
    so_many : calls.seen.known ≡ length values
    so_many = calls.is_seen.known.2 ∙ one_prefix s calls.is_seen.known.0 values calls.is_seen.known.1 prefix

    waiting_on : (from : ℕ) → from ≤ now → IsWaiting (length values) from old.ticking → IsNoTick last
        → IsWaiting (length values) from mid.ticking
    waiting_on from low w idle =
        subst (IsWaiting (length values) from)
        (sym (ticking_is ∙ ticking_kept old.times (noted old.ticking old.times now calls.seen old.stirred)
        now calls.due last idle))
        (noted_waits (length values) from old.ticking old.times now calls.seen old.stirred so_many low w)

    -- a server that wants none does not tick, and then waits since no moment
    pub unwanted_waits : (from : ℕ) → ¬ WantsTick s → old.ticking.known ≡ length values
        → old.ticking.resumes ≡ false → IsNoTick last × IsWaiting (length values) from mid.ticking
    unwanted_waits from none known resumes =
        let w : IsWaiting (length values) 0 old.ticking = record
        { known = known; resumes = resumes; since = λ a at. omega arith } in
        let next = noted_waits (length values) 0 old.ticking old.times now calls.seen old.stirred so_many
        (omega arith) w in
        let wanted : calls.seen.wanted ≡ false = by_not calls.seen.wanted
        (λ e. none (calls.is_seen.wanted.0 e)) in
        let since = noted_unwanted old.ticking old.times now calls.seen old.stirred wanted in
        let idle = no_tick_of
        (by_not calls.due.fresh (λ e. not_true (sym wanted ∙ (calls.is_due.fresh.0 e).0.0)))
        (by_not calls.due.tick (λ e. let t = calls.is_due.tick.0 e in no_number t.0 (sym since ∙ t.1)))
        (by_not calls.due.goes_on (λ e. not_true (sym next.resumes ∙ (calls.is_due.goes_on.0 e).0))) in
        let is = ticking_is ∙ ticking_kept old.times (noted old.ticking old.times now calls.seen old.stirred)
        now calls.due last idle in (
          idle,
          subst (IsWaiting (length values) from) (sym is) (record {
            known = next.known;
            resumes = next.resumes;
            since = λ a at. absurd
                (no_number a (sym since ∙ at));
          }),
        )

    -- nor one that waits for less than its patience, and waited before or was stirred
    pub patient_waits : (from : ℕ) → from ≤ now → now - from < old.patience
        → IsWaiting (length values) from old.ticking → (old.ticking.since ≢ None) ⊎ (old.stirred ≡ true)
        → IsNoTick last × IsWaiting (length values) from mid.ticking
    patient_waits from low soon w busy =
        let next = noted_waits (length values) from old.ticking old.times now calls.seen old.stirred so_many
        low w in
        let idle = no_tick_of
        (by_not calls.due.fresh (λ e. let f = (calls.is_due.fresh.0 e).0 in ⊎_elim (λ x. x f.1)
        (λ x. not_true (sym f.2 ∙ x)) busy))
        (by_not calls.due.tick (λ e. too_soon (length values) from
        (noted old.ticking old.times now calls.seen old.stirred) now old.patience old.times
        calls.seen.stake next soon (calls.is_due.tick.0 e)))
        (by_not calls.due.goes_on (λ e. not_true (sym next.resumes ∙ (calls.is_due.goes_on.0 e).0))) in
        (idle, waiting_on from low w idle)

    -- a value that is wanted, while none was, is tried at once
    module _ (wants : WantsTick s) (untried : IsPromise s.entries (suc (length values)) None)
        (since : old.ticking.since ≡ None) (still : old.stirred ≡ false)
        (turn : ¬ IsBehind old.yielding old.me) (kept : old.ticking.known ≡ length values) where
      yields_to_none : calls.due.yields ≡ false
      yields_to_none = by_not calls.due.yields (λ e.
          let is = calls.is_due.yields.0 e in
          let here = nobody s (suc calls.seen.known) calls.tries
          (subst (λ k. IsPromise s.entries (suc k) None) (sym so_many) untried) calls.is_tried in
          waits_for_none old.yielding now old.me turn (subst
          (λ t. Waits (noted_tries old.yielding now t) old.me) here is.0))

      is_fresh : calls.due.fresh ≡ true
      is_fresh = calls.is_due.fresh.1 ((calls.is_seen.wanted.1 wants, since, still), yields_to_none)

      at_once : (d : Due) → d.fresh ≡ true → call_behind d ≡ TickOrAsk
      at_once d e = ap (λ f. cond f TickOrAsk (keeping_or d.block d.question
          (cond (d.tick || d.goes_on) TickOrAsk (cond d.question Ask
          (telling_or d.telling (cond d.yields Nothing Widen)))))) e

      pub fresh_ticks : (last ≡ TickOrAsk) × (mid.ticking.since ≢ None)
          × IsWaiting (length values) now mid.ticking
      fresh_ticks =
          let is : last ≡ TickOrAsk = calls.is_called ∙ at_once calls.due is_fresh in
          let after : mid.ticking ≡ begun (noted old.ticking old.times now calls.seen old.stirred) =
          ticking_is ∙ fresh_begun old.times (noted old.ticking old.times now calls.seen old.stirred) now
          calls.due last is is_fresh in
          let same = same_noted old.ticking old.times now calls.seen old.stirred (so_many ∙ sym kept) in
          let now_is : mid.ticking.since ≡ Some now = ap (λ (t : Ticking). t.since) after
          ∙ ap (λ (t : Ticking). t.since) same ∙ since_now
          (leaves old.ticking old.times now calls.seen old.stirred) in (
            is,
            λ e. no_number now (sym e ∙ now_is),
            record {
              known = ap (λ (t : Ticking). t.known) after ∙ ap (λ (t : Ticking). t.known) same ∙ kept;
              resumes = ap (λ (t : Ticking). t.resumes) after;
              since = λ a at. let x = inside now a (sym now_is ∙ at) in omega (arith, x);
            },
          )
        where
          since_now : (left : Bool) → cond (not calls.seen.wanted) None
              (cond left (Some now) (Some (unwrap_or old.ticking.since now))) ≡ Some now
          since_now left = ap (λ w. cond (not w) None (cond left (Some now)
              (Some (unwrap_or old.ticking.since now)))) (calls.is_seen.wanted.1 wants) ∙ by left
            where
              by : (left : Bool) → cond left (Some now) (Some (unwrap_or old.ticking.since now)) ≡ Some now
              by true = refl
              by false = ap (λ o. Some (unwrap_or o now)) since

-- ---- what is heard

counted_up : (b : Bool) (n : ℕ) → 0 < n → 0 < counted_if b n
counted_up true n some = omega (arith, some)
counted_up false n some = some

stirs_more : (n : ℕ) (came : List (List ℕ)) (old new : Delivered) → 0 < old.stirs → AreNoted n came old new
    → 0 < new.stirs
stirs_more n [] old new some how = let e = ap (λ (x : Delivered). x.stirs) how in omega (arith, some, e)
stirs_more n (d ∷ came) old new some how =
    stirs_more n came how.0 new
    (⊎_elim
    (λ x. let up = counted_up (stirs x.0) old.stirs some in let e = ap (λ (y : Delivered). y.stirs) x.2
    in omega (arith, up, e))
    (λ x. let e = ap (λ (y : Delivered). y.stirs) x.1 in omega (arith, some, e))
    how.1)
    how.2

-- a message came that is no question
pub stirred_by : (n : ℕ) (came : List (List ℕ)) (old new : Delivered) (d0 : List ℕ) (m0 : Message)
    → In came d0 → Spells n d0 m0 → stirs m0 ≡ true → AreNoted n came old new → 0 < new.stirs
stirred_by n [] old new d0 m0 here spells is how = absurd here
stirred_by n (d ∷ came) old new d0 m0 here spells is how =
    ⊎_elim
    (λ (e : d ≡ d0). stirs_more n came how.0 new
    (⊎_elim
    (λ (x : (m : Message) × Spells n d m × (how.0 ≡ noted_more m old)).
    let same : x.0 ≡ m0 = one_message n n d x.0 m0 x.1 (subst (λ y. Spells n y m0) (sym e) spells) in
    let f = ap (λ (y : Delivered). y.stirs) x.2 in
    let g : counted_if (stirs x.0) old.stirs ≡ min (old.stirs + 1) (2 ^ 32 - 1) = ap
    (λ b. counted_if b old.stirs) (ap stirs same ∙ is) in
    omega (arith, f, g))
    (λ (x : ((m : Message) → ¬ Spells n d m) × (how.0 ≡ old)). absurd
    (x.0 m0 (subst (λ y. Spells n y m0) (sym e) spells)))
    how.1)
    how.2)
    (λ (k : In came d0). stirred_by n came how.0 new d0 m0 k spells is how.2)
    here

some_more : (n : ℕ) → 0 < n → nat_lt 0 n ≡ true
some_more n h = grind (arith, nat_tests)

or_true : (a b : Bool) → b ≡ true → (a || b) ≡ true
or_true true b e = refl
or_true false b e = e

module _ (mid new : Pace) (delivered : Delivered) (hears : HearsBatch mid delivered new) where
  pub heard_ticking : new.ticking ≡ mid.ticking
  heard_ticking = ap (λ (x : Pace). x.ticking) hears.is

  pub heard_patience : new.patience ≡ mid.patience
  heard_patience = ap (λ (x : Pace). x.patience) hears.is

  pub heard_stirred : 0 < delivered.stirs → new.stirred ≡ true
  heard_stirred some = ap (λ (x : Pace). x.stirred) hears.is
      ∙ or_true mid.stirred (nat_lt 0 delivered.stirs) (some_more delivered.stirs some)
