-- A plan is short, decides, and has no bad event.
use Rattle.std.proofs.Common.{◌≡◌, ⊎_elim, ℕ, zero, suc, ◌+◌, ◌*◌, ◌<◌, ◌≤◌, List, [], ◌∷◌, ◌++◌, length, refl, sym, ap, subst, ◌∙◌, arith}
use Rattle.site_ids.specs.Ids.{IsNode}
use Rattle.node.specs.Nodes.{IsMute}
use Rattle.node.proofs.Gaps.{one_first}
use Rattle.node.specs.Calls.{fresh_ballot, HasRound, oldest}
use Rattle.world.specs.declared.event.Event.{Event}
use Rattle.world.specs.declared.event.Event.TheVariants.{Tick, Deliver}
use Rattle.world.specs.Worlds.{World, Runs, start}
use Rattle.world.specs.Taking.{Takes, TakesAll, IsBad}
use Rattle.world.specs.Quiet.{AllRun, IsQuiet, to_each, each_to, quorum, one_attempt, overbid_first, HasNoneAbove, Overbids, IsPlan, AreCalm, ticks, deliveries, IsShort}
use Rattle.world.specs.Quieting.{Learns, PlansAreShort, QuietDecides, PlansAreGood}
use Rattle.world.proofs.Calm.{run_before, calm_to_each, calm_each_to, calm_both}
use Rattle.world.proofs.Going.{NeverBad, never_at}
use Rattle.world.proofs.QuietLists.{quorum_within}
use Rattle.world.proofs.QuietAnswers.{IsClear}
use Rattle.world.proofs.Attempting.{Decides, decides, never_bad}
use Rattle.world.proofs.Bounds.{last_low, heard_low, has_round, fresh_unvoted}
use Rattle.world.proofs.Overbidding.{Heard, long_1, long_2, refused}

-- ---- short

ticks_to_each : (index q k : ℕ) → ticks (to_each index q k) ≡ 0
ticks_to_each index q zero = refl
ticks_to_each index q (suc k) = ticks_to_each index (suc q) k

ticks_each_to : (p index k : ℕ) → ticks (each_to p index k) ≡ 0
ticks_each_to p index zero = refl
ticks_each_to p index (suc k) = ticks_each_to p (suc index) k

all_to_each : (index q k : ℕ) → deliveries (to_each index q k) ≡ k
all_to_each index q zero = refl
all_to_each index q (suc k) = ap suc (all_to_each index (suc q) k)

all_each_to : (p index k : ℕ) → deliveries (each_to p index k) ≡ k
all_each_to p index zero = refl
all_each_to p index (suc k) = ap suc (all_each_to p (suc index) k)

ticks_both : (xs ys : List Event) → AreCalm xs → ticks (xs ++ ys) ≡ ticks xs + ticks ys
ticks_both [] ys calm = omega arith
ticks_both (Tick p ∷ xs) ys calm = let r = ticks_both xs ys calm in omega (arith, r)
ticks_both (Deliver p k ∷ xs) ys calm = ticks_both xs ys calm
ticks_both (_ ∷ xs) ys calm = absurd calm

deliveries_both : (xs ys : List Event) → AreCalm xs → deliveries (xs ++ ys) ≡ deliveries xs + deliveries ys
deliveries_both [] ys calm = omega arith
deliveries_both (Tick p ∷ xs) ys calm = deliveries_both xs ys calm
deliveries_both (Deliver p k ∷ xs) ys calm = let r = deliveries_both xs ys calm in omega (arith, r)
deliveries_both (_ ∷ xs) ys calm = absurd calm

module _ (n p c e : ℕ) where
  abbrev m : ℕ
  m = quorum n

  abbrev first : List Event
  first = to_each c 1 m

  abbrev second : List Event
  second = each_to p (c + 1 + e) m

  abbrev third : List Event
  third = to_each (c + 1 + e + m) 1 m

  abbrev fourth : List Event
  fourth = each_to p (c + 2 + e + m) m

  calm_1 : AreCalm first
  calm_1 = calm_to_each c 1 m

  calm_2 : AreCalm second
  calm_2 = calm_each_to p (c + 1 + e) m

  calm_3 : AreCalm third
  calm_3 = calm_to_each (c + 1 + e + m) 1 m

  calm_4 : AreCalm fourth
  calm_4 = calm_each_to p (c + 2 + e + m) m

  pub attempt_calm : AreCalm (one_attempt n p c e)
  attempt_calm = calm_both first (second ++ (third ++ fourth)) calm_1 (calm_both second (third ++ fourth) calm_2 (calm_both third fourth calm_3 calm_4))

  pub attempt_ticks : ticks (one_attempt n p c e) ≡ 1
  attempt_ticks =
      let a = ticks_both first (second ++ (third ++ fourth)) calm_1 in
      let b = ticks_both second (third ++ fourth) calm_2 in
      let d = ticks_both third fourth calm_3 in
      let a1 = ticks_to_each c 1 m in
      let b1 = ticks_each_to p (c + 1 + e) m in
      let d1 = ticks_to_each (c + 1 + e + m) 1 m in
      let f1 = ticks_each_to p (c + 2 + e + m) m in
      omega (arith, a, b, d, a1, b1, d1, f1)

  pub attempt_deliveries : deliveries (one_attempt n p c e) ≡ 4 * quorum n
  attempt_deliveries =
      let a = deliveries_both first (second ++ (third ++ fourth)) calm_1 in
      let b = deliveries_both second (third ++ fourth) calm_2 in
      let d = deliveries_both third fourth calm_3 in
      let a1 = all_to_each c 1 m in
      let b1 = all_each_to p (c + 1 + e) m in
      let d1 = all_to_each (c + 1 + e + m) 1 m in
      let f1 = all_each_to p (c + 2 + e + m) m in
      omega (arith, a, b, d, a1, b1, d1, f1)

pub attempt_is_short : (n p c e : ℕ) → 1 ≤ n → IsShort n (one_attempt n p c e)
attempt_is_short n p c e some = record {
  calm = attempt_calm n p c e;
  ticked = let t = attempt_ticks n p c e in omega (arith, t);
  delivered = let d = attempt_deliveries n p c e in omega (arith, d, some);
}

pub refused_is_short : (n p q c d e : ℕ) → 1 ≤ n → IsShort n (overbid_first p q c e (one_attempt n p d e))
refused_is_short n p q c d e some = record {
  calm = attempt_calm n p d e;
  ticked = let t = attempt_ticks n p d e in omega (arith, t);
  delivered = let x = attempt_deliveries n p d e in omega (arith, x, some);
}

pub some_nodes : (n p : ℕ) → IsNode n p → 1 ≤ n
some_nodes n p node = let a = node.0 in let b = node.1 in omega (arith, a, b)

pub plans_are_short : PlansAreShort
plans_are_short n p w events node plan =
    ⊎_elim
    (λ x. subst (λ l. IsShort n l) (sym x.1) (attempt_is_short n p (length w.sent) (length plan.elsewhere) (some_nodes n p node)))
    (λ x. subst (λ l. IsShort n l) (sym x.2) (refused_is_short n p x.0 (length w.sent) (length w.sent + 2 + length plan.elsewhere) (length plan.elsewhere) (some_nodes n p node)))
    plan.is

-- ---- in a quiet state

module _ (n p : ℕ) (past events : List Event) (w : World) (runs : Runs n start past w) (node : IsNode n p) (quiet : IsQuiet n w p) (plan : IsPlan n w p events) where
  abbrev i : ℕ
  i = plan.instance

  abbrev e : ℕ
  e = length plan.elsewhere

  same_first : plan.instance ≡ quiet.instance
  same_first = one_first (w.node p).known quiet.instance plan.instance quiet.unknown plan.unknown

  not_mute : ¬ IsMute (w.node p) plan.instance
  not_mute = subst (λ j. ¬ IsMute (w.node p) j) (sym same_first) quiet.not_mute

  none_mute : (q : ℕ) → IsNode (quorum n) q → ¬ IsMute (w.node q) plan.instance
  none_mute q is = subst (λ j. ¬ IsMute (w.node q) j) (sym same_first) (quiet.none_mute q is)

  round : HasRound (w.node p)
  round = has_round n p past w runs node quiet

  clear : HasNoneAbove n w i (fresh_ballot p (w.node p)) → (q : ℕ) → IsNode (quorum n) q → IsClear (w.node q).entries i (fresh_ballot p (w.node p))
  clear none q is = record { below = λ x c k raised. none q x c is k raised; unvoted = λ x last. fresh_unvoted n p past w runs q i not_mute x last; not_mute = none_mute q is }

  -- what is left of the refused attempt
  heard_of : (q : ℕ) → Overbids n w i (fresh_ballot p (w.node p)) q → (w1 : World) → AllRun n w1 → Takes n w (Tick p) w1 → (w2 : World) → AllRun n w2 → Takes n w1 (Deliver q (length w.sent)) w2
      → (w3 : World) → AllRun n w3 → Takes n w2 (Deliver p (length w.sent + 1 + e)) w3 → Heard n p i w w3 plan.elsewhere
  heard_of q over w1 run_1 t1 w2 run_2 t2 w3 run_3 t3 =
      refused n p i w plan.elsewhere node plan.unknown not_mute round plan.open_elsewhere q over (last_low n p past w runs node quiet) (heard_low n p past w runs node quiet) none_mute (λ r m. (quiet.each r m).rounds) w1 run_1 t1 w2 run_2 t2 w3 run_3 t3

  decided_after : (w3 after : World) → Heard n p i w w3 plan.elsewhere → AllRun n after → TakesAll n w3 (one_attempt n p (length w.sent + 2 + e) e) after → Decides n p i w3 after
  decided_after w3 after h run how =
      decides n p i w3 plan.elsewhere node h.first h.not_mute h.round h.open_elsewhere h.clear after run (subst (λ k. TakesAll n w3 (one_attempt n p k e) after) (sym h.sent) how)

  learns : (after : World) → AllRun n after → TakesAll n w events after → Learns n w p after
  learns after run how =
      ⊎_elim
      (λ x.
      let d = decides n p i w plan.elsewhere node plan.unknown not_mute round plan.open_elsewhere (clear x.0) after run (subst (λ l. TakesAll n w l after) x.1 how) in
      record { instance = i; unknown = plan.unknown; value = d.value; known = d.known; own = d.own })
      (λ x.
      let rest = one_attempt n p (length w.sent + 2 + e) e in
      let how : TakesAll n w (overbid_first p x.0 (length w.sent) e rest) after = subst (λ l. TakesAll n w l after) x.2 how in
      let w1 = how.0 in
      let w2 = how.2.0 in
      let w3 = how.2.2.0 in
      let run_3 = run_before n rest w3 after (attempt_calm n p (length w.sent + 2 + e) e) how.2.2.2 run in
      let run_2 = run_before n (Deliver p (length w.sent + 1 + e) ∷ []) w2 w3 tt (w3, how.2.2.1, refl) run_3 in
      let run_1 = run_before n (Deliver x.0 (length w.sent) ∷ []) w1 w2 tt (w2, how.2.1, refl) run_2 in
      let h = heard_of x.0 x.1 w1 run_1 how.1 w2 run_2 how.2.1 w3 run_3 how.2.2.1 in
      let d = decided_after w3 after h run how.2.2.2 in
      record { instance = i; unknown = plan.unknown; value = d.value; known = d.known; own = λ none. d.own (λ q is. h.last q ∙ none q is) ∙ ap oldest_of h.pending })
      plan.is
    where
      oldest_of : List (List ℕ) → List ℕ
      oldest_of = oldest

  good_tick : ¬ IsBad n w (Tick p)
  good_tick bad = ⊎_elim (λ none. none node) (λ other. ⊎_elim (λ none. none) (λ none. none) other) bad

  good_delivery : (u : World) (q k : ℕ) → IsNode n q → k < length u.sent → ¬ IsBad n u (Deliver q k)
  good_delivery u q k here below bad = ⊎_elim (λ none. none here) (λ other. ⊎_elim (λ (h : length u.sent ≤ k). omega (arith, h, below)) (λ none. none) other) bad

  never : NeverBad n w events
  never =
      ⊎_elim
      (λ x. subst (λ l. NeverBad n w l) (sym x.1) (never_bad n p i w plan.elsewhere node plan.unknown not_mute round plan.open_elsewhere (clear x.0)))
      (λ x.
      let low = last_low n p past w runs node quiet in
      let heard = heard_low n p past w runs node quiet in
      let there = quorum_within n x.0 (some_nodes n p node) x.1.node in
      subst (λ l. NeverBad n w l) (sym x.2) (
        good_tick,
        λ w1 t1 run_1.
            let l1 = long_1 n p i w plan.elsewhere node plan.unknown not_mute round plan.open_elsewhere x.0 x.1 low heard none_mute (λ r m. (quiet.each r m).rounds) w1 run_1 t1 in (
              good_delivery w1 x.0 (length w.sent) there (omega (arith, l1)),
              λ w2 t2 run_2.
                  let l2 = long_2 n p i w plan.elsewhere node plan.unknown not_mute round plan.open_elsewhere x.0 x.1 low heard none_mute (λ r m. (quiet.each r m).rounds) w1 run_1 t1 w2 run_2 t2 in (
                    good_delivery w2 p (length w.sent + 1 + e) node (omega (arith, l2)),
                    λ w3 t3 run_3.
                        let h = heard_of x.0 x.1 w1 run_1 t1 w2 run_2 t2 w3 run_3 t3 in
                        subst (λ k. NeverBad n w3 (one_attempt n p k e)) h.sent (never_bad n p i w3 plan.elsewhere node h.first h.not_mute h.round h.open_elsewhere h.clear),
                  ),
            ),
      ))
      plan.is

pub quiet_decides : QuietDecides
quiet_decides n p past events w after runs node quiet plan how run = learns n p past events w runs node quiet plan after run how

pub plans_are_good : PlansAreGood
plans_are_good n p k past events w after event runs node quiet plan how run at =
    never_at n k events w after event (plans_are_short n p w events node plan).calm (never n p past events w runs node quiet plan) how run at
