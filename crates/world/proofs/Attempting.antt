-- One attempt, from its tick to the value that is known.
use Rattle.std.proofs.Common.{◌≡◌, ◌≢◌, inr, ⊎_elim, ℕ, zero, suc, ◌+◌, ◌<◌, ◌≤◌, Option, Some, None, List, [], ◌∷◌, ◌++◌, map, length, refl, sym, ap, subst, ◌∙◌, arith, length-append}
use Rattle.std.specs.Prelude.{slice_get}
use Rattle.site_ids.specs.Ids.{BallotOf, IsNode}
use Rattle.site_ids.specs.Lists.{In, Distinct, put_at}
use Rattle.site_ids.specs.declared.value.Vote.{Vote}
use Rattle.site_ids.proofs.MapLemmas.{put_here}
use Rattle.site_ids.proofs.MemberLemmas.{in_left, in_push, distinct_within}
use Rattle.wire.specs.declared.message.Message.{Message}
use Rattle.wire.specs.declared.message.Message.TheVariants.{Prepare, Propose}
use Rattle.durable.specs.Entries.{Entry, Round, Raises, last_vote, with_entry, floor_of}
use Rattle.durable.proofs.Push.{vote_after-push, floor_of-push}
use Rattle.proposer.specs.Attempts.{Attempt, opened}
use Rattle.node.specs.Nodes.{Value, Up, Node, IsFirstUnknown, IsMute}
use Rattle.node.specs.Effects.{Effect, messages_of}
use Rattle.node.specs.Calls.{tick, Ticks, AsksInstead, Does, fresh_ballot, HasRound, oldest, RisesFrom, AreOpenElsewhere, resent}
use Rattle.node.proofs.Gaps.{one_first}
use Rattle.world.specs.declared.event.Event.{Event}
use Rattle.world.specs.declared.event.Event.TheVariants.{Tick}
use Rattle.world.specs.Worlds.{World}
use Rattle.world.specs.Taking.{Takes, TakesAll, IsBad}
use Rattle.world.specs.Quiet.{AllRun, to_each, each_to, quorum, one_attempt}
use Rattle.world.proofs.Calm.{tick_acts, for_each, run_before, split_at, calm_to_each, calm_each_to}
use Rattle.world.proofs.Going.{NeverBad, never_both, never_to_each, never_each_to}
use Rattle.world.proofs.QuietLists.{Stand, stand_behind, quorum_within}
use Rattle.world.proofs.QuietAnswers.{IsClear, round_clear}
use Rattle.world.proofs.Stages.{promises_from, Asked, asked, votes_from, Voted, voted, IsWaiting, Proposed, proposed, IsUnsure, learns}

-- ---- attempts elsewhere

rising_above : (low : ℕ) (xs : List (ℕ × Attempt)) → RisesFrom low xs → (x : ℕ × Attempt) → In xs x → low < x.0
rising_above low [] rising x k = absurd k
rising_above low (y ∷ xs) rising x k =
    ⊎_elim
    (λ (e : y ≡ x). subst (λ (z : ℕ × Attempt). low < z.0) e rising.0)
    (λ k. let r = rising_above y.0 xs rising.1 x k in let a = rising.0 in omega (arith, r, a))
    k

not_under : (a : ℕ) → a < a → ⊥
not_under a h = omega (arith, h)

rising_distinct : (low : ℕ) (xs : List (ℕ × Attempt)) → RisesFrom low xs → Distinct xs
rising_distinct low [] rising = tt
rising_distinct low (y ∷ xs) rising = ((λ k. not_under y.0 (rising_above y.0 xs rising.1 y k)), rising_distinct y.0 xs rising.1)

elsewhere_within : (s : Node) (i : ℕ) (xs ys : List (ℕ × Attempt)) → AreOpenElsewhere s i xs → AreOpenElsewhere s i ys → length xs ≤ length ys
elsewhere_within s i xs ys a b = distinct_within xs ys (rising_distinct 0 xs a.rising) (λ x k. let h = a.each x k in b.whole x.0 x.1 h.0 h.1)

pub same_elsewhere : (s : Node) (i : ℕ) (xs ys : List (ℕ × Attempt)) → AreOpenElsewhere s i xs → AreOpenElsewhere s i ys → length xs ≡ length ys
same_elsewhere s i xs ys a b = let l = elsewhere_within s i xs ys a b in let r = elsewhere_within s i ys xs b a in omega (arith, l, r)

resent_many : (p : ℕ) (xs : List (ℕ × Attempt)) → length (messages_of (map (resent p) xs)) ≡ length xs
resent_many p [] = refl
resent_many p (x ∷ xs) = let r = resent_many p xs in omega (arith, r)

-- ---- the tick

-- node p has begun an attempt at the instance, and sent this many other messages after its prepare
pub record Ticked (p i : ℕ) (w after : World) (e : ℕ) : Type 0 where
  pub again : List Message
  pub many : length again ≡ e
  pub sent : after.sent ≡ w.sent ++ Prepare p i (fresh_ballot p (w.node p)) 1 ∷ again
  pub others : (r : ℕ) → r ≢ p → after.node r ≡ w.node r
  pub entries : (after.node p).entries ≡ (w.node p).entries ++ Round (fresh_ballot p (w.node p)).round ∷ []
  pub attempts : (after.node p).attempts ≡ put_at (w.node p).attempts i (Some (opened (fresh_ballot p (w.node p)) (oldest (w.node p).pending)))
  pub known : (after.node p).known ≡ (w.node p).known
  pub votes : (after.node p).votes ≡ (w.node p).votes
  pub pending : (after.node p).pending ≡ (w.node p).pending
  pub heard : (after.node p).heard ≡ (w.node p).heard
  pub clear : (r : ℕ) (b : BallotOf) → IsClear (w.node r).entries i b → IsClear (after.node r).entries i b
  pub last : (r : ℕ) → last_vote i (after.node r).entries ≡ last_vote i (w.node r).entries
  pub not_mute : (r : ℕ) → ¬ IsMute (w.node r) i → ¬ IsMute (after.node r) i
  pub kept : (r : ℕ) (x : Entry) → In (w.node r).entries x → In (after.node r).entries x
  pub raised : (r : ℕ) (x : Entry) (c : BallotOf) → In (after.node r).entries x → Raises x i c → In (w.node r).entries x

-- a node that isn't mute at its first unknown instance begins there
begins_here : (n p i : ℕ) (s : Node) (effect : Effect) → IsFirstUnknown s.known i → ¬ IsMute s i → Does n p s tick effect → Ticks p s effect
begins_here n p i s effect first not_mute how =
    ⊎_elim
    (λ (x : Ticks p s effect). x)
    (λ (x : AsksInstead p s effect). absurd (not_mute (subst (IsMute s) (one_first s.known i x.asks.instance first x.asks.first) x.mute)))
    how

pub ticked : (n p i : ℕ) (w after : World) (elsewhere : List (ℕ × Attempt)) → IsFirstUnknown (w.node p).known i → ¬ IsMute (w.node p) i → HasRound (w.node p) → AreOpenElsewhere (w.node p) i elsewhere → (after.node p).mode ≡ Up → Takes n w (Tick p) after
    → Ticked p i w after (length elsewhere)
ticked n p i w after elsewhere first not_mute round open_elsewhere up how =
    let s = w.node p in
    let acts = tick_acts n w p i after first round up how in
    let does = begins_here n p i s acts.effect first not_mute acts.does in
    let b = fresh_ballot p s in
    let e : does.instance ≡ i = one_first s.known i does.instance first does.first in
    let same : AreOpenElsewhere s i does.elsewhere = subst (λ j. AreOpenElsewhere s j does.elsewhere) e does.open_elsewhere in
    let again = messages_of (map (resent p) does.elsewhere) in
    let entries : (after.node p).entries ≡ s.entries ++ Round b.round ∷ [] = ap (λ (x : Node). x.entries) acts.at ∙ ap (λ (x : Effect). with_entry s.entries x.entry) does.is in
    let entries_here : with_entry s.entries acts.effect.entry ≡ s.entries ++ Round b.round ∷ [] = ap (λ (x : Effect). with_entry s.entries x.entry) does.is in
    record {
      again = again;
      many = resent_many p does.elsewhere ∙ same_elsewhere s i does.elsewhere elsewhere same open_elsewhere;
      sent = acts.sent ∙ ap (λ (x : Effect). w.sent ++ messages_of x.out) does.is ∙ ap (λ j. w.sent ++ Prepare p j b 1 ∷ again) e;
      others = acts.others;
      entries = entries;
      attempts = ap (λ (x : Node). x.attempts) acts.at ∙ ap (λ (x : Effect). x.after.attempts) does.is ∙ ap (λ j. put_at s.attempts j (Some (opened b (oldest s.pending)))) e;
      known = ap (λ (x : Node). x.known) acts.at ∙ ap (λ (x : Effect). x.after.known) does.is;
      votes = ap (λ (x : Node). x.votes) acts.at ∙ ap (λ (x : Effect). x.after.votes) does.is;
      pending = ap (λ (x : Node). x.pending) acts.at ∙ ap (λ (x : Effect). x.after.pending) does.is;
      heard = ap (λ (x : Node). x.heard) acts.at ∙ ap (λ (x : Effect). x.after.heard) does.is;
      clear = λ r c. for_each n w p tick after (λ x y. IsClear x.entries i c → IsClear y.entries i c) (λ x h. h) acts (λ h. subst (λ es. IsClear es i c) (sym entries_here) (round_clear i c s.entries b.round h)) r;
      last = for_each n w p tick after (λ x y. last_vote i y.entries ≡ last_vote i x.entries) (λ x. refl) acts (ap (λ es. last_vote i es) entries_here ∙ vote_after-push i None s.entries (Round b.round ∷ []));
      not_mute = λ r. for_each n w p tick after (λ x y. ¬ IsMute x i → ¬ IsMute y i) (λ x h. h) acts (λ h mute. h (let f = ap floor_of entries_here ∙ floor_of-push s.entries (Round b.round) refl in omega (arith, f, mute))) r;
      kept = λ r x. for_each n w p tick after (λ y z. In y.entries x → In z.entries x) (λ y h. h) acts (λ h. subst (λ es. In es x) (sym entries_here) (in_left s.entries (Round b.round ∷ []) x h)) r;
      raised = λ r x c. for_each n w p tick after (λ y z. In z.entries x → Raises x i c → In y.entries x) (λ y h k. h) acts
          (λ h k. ⊎_elim (λ z. z) (λ (z : Round b.round ≡ x). absurd (subst (λ y. Raises y i c) (sym z) k)) (in_push s.entries (Round b.round) x (subst (λ es. In es x) entries_here h))) r;
    }

-- ---- all of it

promises_many : (q i : ℕ) (b : BallotOf) (xs : List (Option Vote)) → length (promises_from q i b xs) ≡ length xs
promises_many q i b [] = refl
promises_many q i b (x ∷ xs) = let r = promises_many (suc q) i b xs in omega (arith, r)

votes_many : (n p i : ℕ) (b : BallotOf) (v : Value) (q k : ℕ) → length (votes_from n p i b v q k) ≡ k
votes_many n p i b v q zero = refl
votes_many n p i b v q (suc k) = let r = votes_many n p i b v (suc q) k in omega (arith, r)

behind : (l before ms : List Message) (k : ℕ) → l ≡ before ++ ms → length before ≡ k → Stand l k ms
behind l before ms k is at = subst (λ j. Stand l j ms) at (subst (λ x. Stand x (length before) ms) (sym is) (stand_behind before ms))

pub first_behind : (l before rest : List Message) (m : Message) (k : ℕ) → l ≡ before ++ m ∷ rest → length before ≡ k → slice_get l k ≡ Some m
first_behind l before rest m k is at = (behind l before (m ∷ rest) k is at).0

pub longer : (l before ms : List Message) → l ≡ before ++ ms → length l ≡ length before + length ms
longer l before ms is = ap (λ (x : List Message). length x) is ∙ length-append before ms

-- node p knows a value at the instance: its oldest pending one, or the no-op, if no node had voted there
pub record Decides (n p i : ℕ) (w after : World) : Type 0 where
  pub value : Value
  pub known : (after.node p).known i ≡ Some value
  pub own : ((q : ℕ) → IsNode n q → last_vote i (w.node q).entries ≡ None) → value ≡ oldest (w.node p).pending

module _ (n p i : ℕ) (w : World) (elsewhere : List (ℕ × Attempt)) (node : IsNode n p) (first : IsFirstUnknown (w.node p).known i) (not_mute : ¬ IsMute (w.node p) i) (round : HasRound (w.node p)) (open_elsewhere : AreOpenElsewhere (w.node p) i elsewhere)
    (clear : (q : ℕ) → IsNode (quorum n) q → IsClear (w.node q).entries i (fresh_ballot p (w.node p)))
  where
    some : 1 ≤ n
    some = let a = node.0 in let b = node.1 in omega (arith, a, b)

    abbrev b : BallotOf
    b = fresh_ballot p (w.node p)

    abbrev begun_attempt : Attempt
    begun_attempt = opened b (oldest (w.node p).pending)

    in_quorum : (r : ℕ) → 1 ≤ r → r < 1 + quorum n → IsNode (quorum n) r
    in_quorum r low high = (low, omega (arith, high))

    -- the stages' events
    abbrev prepares : List Event
    prepares = to_each (length w.sent) 1 (quorum n)

    abbrev promises : List Event
    promises = each_to p (length w.sent + 1 + length elsewhere) (quorum n)

    abbrev proposals : List Event
    proposals = to_each (length w.sent + 1 + length elsewhere + quorum n) 1 (quorum n)

    abbrev votes : List Event
    votes = each_to p (length w.sent + 2 + length elsewhere + quorum n) (quorum n)

    module _ (w1 : World) (run_1 : AllRun n w1) (tick_taken : Takes n w (Tick p) w1) where
      began : Ticked p i w w1 (length elsewhere)
      began = ticked n p i w w1 elsewhere first not_mute round open_elsewhere (run_1 p node) tick_taken

      long_1 : length w1.sent ≡ length w.sent + 1 + length elsewhere
      long_1 = let l = longer w1.sent w.sent (Prepare p i b 1 ∷ began.again) began.sent in let m = began.many in omega (arith, l, m)

      module _ (w2 : World) (run_2 : AllRun n w2) (asked_all : TakesAll n w1 prepares w2) where
        stage_1 : Asked n p i b 1 (quorum n) w1 w2
        stage_1 =
            asked n p i b (length w.sent) (quorum n) 1 w1 w2 (first_behind w1.sent w.sent began.again (Prepare p i b 1) (length w.sent) began.sent refl)
            (λ r low high. let q = in_quorum r low high in (quorum_within n r some q, began.clear r b (clear r q))) asked_all run_2

        long_2 : length w2.sent ≡ length w.sent + 1 + length elsewhere + quorum n
        long_2 =
            let l = longer w2.sent w1.sent (promises_from 1 i b stage_1.priors) stage_1.sent in
            let m = promises_many 1 i b stage_1.priors in
            let k = stage_1.counted in
            let j = long_1 in
            omega (arith, l, m, k, j)

        attempt_there : (w2.node p).attempts i ≡ Some begun_attempt
        attempt_there = ap (λ (f : ℕ → Option Attempt). f i) ((stage_1.steady p).mind.attempts ∙ began.attempts) ∙ put_here (w.node p).attempts i (Some begun_attempt) i refl

        waits : IsWaiting n p i b begun_attempt 1
        waits = record { ballot = refl; unproposed = refl; distinct = tt; below = λ x k. absurd k; many = refl }

        module _ (w3 : World) (run_3 : AllRun n w3) (told_all : TakesAll n w2 promises w3) where
          stage_2 : Proposed n p i b w2 begun_attempt stage_1.priors w3
          stage_2 =
              proposed n p i b stage_1.priors (length w.sent + 1 + length elsewhere) 1 begun_attempt w2 w3 node some (omega arith) (omega arith) (let k = stage_1.counted in omega (arith, k)) attempt_there waits
              (behind w2.sent w1.sent (promises_from 1 i b stage_1.priors) (length w.sent + 1 + length elsewhere) stage_1.sent long_1)
              (subst (λ k. TakesAll n w2 (each_to p (length w.sent + 1 + length elsewhere) k) w3) (sym stage_1.counted) told_all) run_3

          long_3 : length w3.sent ≡ length w.sent + 2 + length elsewhere + quorum n
          long_3 = let l = longer w3.sent w2.sent (Propose p i b stage_2.value ∷ []) stage_2.sent in let j = long_2 in omega (arith, l, j)

          clear_3 : (r : ℕ) → IsNode (quorum n) r → IsClear (w3.node r).entries i b
          clear_3 r q = subst (λ es. IsClear es i b) (sym (stage_2.entries r)) ((stage_1.steady r).stays.clear (began.clear r b (clear r q)))

          module _ (w4 : World) (run_4 : AllRun n w4) (voted_all : TakesAll n w3 proposals w4) where
            stage_3 : Voted n p i b stage_2.value 1 (quorum n) w3 w4
            stage_3 =
                voted n p i b stage_2.value (length w.sent + 1 + length elsewhere + quorum n) (quorum n) 1 w3 w4
                (first_behind w3.sent w2.sent [] (Propose p i b stage_2.value) (length w.sent + 1 + length elsewhere + quorum n) stage_2.sent long_2)
                (λ r low high. let q = in_quorum r low high in (quorum_within n r some q, clear_3 r q)) voted_all run_4

            long_4 : length w4.sent ≡ length w.sent + 2 + length elsewhere + quorum n + quorum n
            long_4 = let l = longer w4.sent w3.sent (votes_from n p i b stage_2.value 1 (quorum n)) stage_3.sent in let m = votes_many n p i b stage_2.value 1 (quorum n) in let j = long_3 in omega (arith, l, m, j)

            unknown : (w4.node p).known i ≡ None
            unknown = ap (λ (f : ℕ → Option Value). f i) ((stage_3.mind p).known ∙ stage_2.known ∙ (stage_1.steady p).mind.known ∙ began.known) ∙ first.unknown

            unsure : IsUnsure n p i b stage_2.value (w4.node p) 1
            unsure = record { unknown = unknown; told = λ x low high. absurd (omega (arith, low, high)); few = λ h. absurd (omega (arith, h)) }

            decided : (after : World) → AllRun n after → TakesAll n w4 votes after → Decides n p i w after
            decided after run heard_all = record {
              value = stage_2.value;
              known = learns n p i b stage_2.value (quorum n) (length w.sent + 2 + length elsewhere + quorum n) 1 w4 after node some (omega arith) (omega arith) (inr unsure)
                  (behind w4.sent w3.sent (votes_from n p i b stage_2.value 1 (quorum n)) (length w.sent + 2 + length elsewhere + quorum n) stage_3.sent long_3) heard_all run;
              own = λ none. stage_2.own (λ x k. absurd k) (stage_1.truth (λ r is. began.last r ∙ none r is));
            }

    -- taken, it decides
    pub decides : (after : World) → AllRun n after → TakesAll n w (one_attempt n p (length w.sent) (length elsewhere)) after → Decides n p i w after
    decides after run how =
        let x = split_at n prepares (promises ++ (proposals ++ votes)) how.0 after how.2 in
        let y = split_at n promises (proposals ++ votes) x.0 after x.2 in
        let z = split_at n proposals votes y.0 after y.2 in
        let run_4 = run_before n votes z.0 after (calm_each_to p (length w.sent + 2 + length elsewhere + quorum n) (quorum n)) z.2 run in
        let run_3 = run_before n proposals y.0 z.0 (calm_to_each (length w.sent + 1 + length elsewhere + quorum n) 1 (quorum n)) z.1 run_4 in
        let run_2 = run_before n promises x.0 y.0 (calm_each_to p (length w.sent + 1 + length elsewhere) (quorum n)) y.1 run_3 in
        let run_1 = run_before n prepares how.0 x.0 (calm_to_each (length w.sent) 1 (quorum n)) x.1 run_2 in
        decided how.0 run_1 how.1 x.0 run_2 x.1 y.0 run_3 y.1 z.0 run_4 z.1 after run z.2

    quorum_nodes : (r : ℕ) → 1 ≤ r → r < 1 + quorum n → IsNode n r
    quorum_nodes r low high = quorum_within n r some (in_quorum r low high)

    good_tick : ¬ IsBad n w (Tick p)
    good_tick bad = ⊎_elim (λ none. none node) (λ other. ⊎_elim (λ none. none) (λ none. none) other) bad

    -- none of its events is bad
    pub never_bad : NeverBad n w (one_attempt n p (length w.sent) (length elsewhere))
    never_bad = (
      good_tick,
      λ w1 t1 run_1.
          let l1 = long_1 w1 run_1 t1 in
          never_both n prepares (promises ++ (proposals ++ votes)) w1 run_1 (never_to_each n (length w.sent) (quorum n) 1 w1 (omega (arith, l1)) quorum_nodes) (λ w2 t2 run_2.
          let l2 = long_2 w1 run_1 t1 w2 run_2 t2 in
          never_both n promises (proposals ++ votes) w2 run_2 (never_each_to n p (length w.sent + 1 + length elsewhere) (quorum n) w2 node (omega (arith, l2))) (λ w3 t3 run_3.
          let l3 = long_3 w1 run_1 t1 w2 run_2 t2 w3 run_3 t3 in
          never_both n proposals votes w3 run_3 (never_to_each n (length w.sent + 1 + length elsewhere + quorum n) (quorum n) 1 w3 (omega (arith, l3)) quorum_nodes) (λ w4 t4 run_4.
          let l4 = long_4 w1 run_1 t1 w2 run_2 t2 w3 run_3 t3 w4 run_4 t4 in
          never_each_to n p (length w.sent + 2 + length elsewhere + quorum n) (quorum n) w4 node (omega (arith, l4))))),
    )
