-- The first two rounds: a tick, and promises.
use Rattle.std.proofs.Common.{◌≡◌, ◌≢◌, ◌⊎◌, inl, inr, ⊎_elim, ℕ, suc, ◌<◌, ◌≤◌, true, Option, Some, None}
use Rattle.std.proofs.Common.{List, [], ◌∷◌, length, refl, sym, ap, subst, ◌∙◌, arith}
use Rattle.std.specs.Prelude.{◌-◌, ◌*◌, nat_eq}
use Rattle.std.proofs.lemmas.Bool.Decides.{nat_tests}
use Rattle.std.proofs.Props.{props}
use Rattle.site_ids.specs.Ids.{BallotOf, IsInstance, IsNode}
use Rattle.site_ids.specs.Lists.{In}
use Rattle.site_ids.specs.declared.value.Vote.{Vote}
use Rattle.wire.specs.declared.message.Message.{Message}
use Rattle.wire.specs.Decoding.{Spells}
use Rattle.wire.specs.Spelling.{spelled}
use Rattle.durable.specs.Entries.{Voted}
use Rattle.proposer.specs.Attempts.{Attempt, opened}
use Rattle.node.specs.declared.to.To.{To}
use Rattle.node.specs.declared.to.To.TheVariants.{One, All}
use Rattle.node.specs.Nodes.{Value, Node, WantsTick, IsKnownPrefix, IsFirstUnknown}
use Rattle.node.proofs.Gaps.{one_first}
use Rattle.node.proofs.OnRecord.{last_vote-in}
use Rattle.site_drive.specs.Drives.{EndsTurns}
use Rattle.server.specs.Mailing.{is_for}
use Rattle.server_pace.specs.declared.pace.Pace.{Pace}
use Rattle.rounds.specs.Rounds.{Server, Group, Steps, IsRound}
use Rattle.rounds.specs.Deciding.{IsCalmNode, IsCalm}
use Rattle.rounds.proofs.Elsewhere.{IsElsewhere, IsClean}
use Rattle.rounds.proofs.Besides.{either}
use Rattle.rounds.proofs.Holding.{IsHeld, AreAll, IsSaid, IsNoTick, IsTellLow, calls_held}
use Rattle.rounds.proofs.Answering.{IsAsideOut, IsAsideOrIt, IsAnswer, answers_held, answered}
use Rattle.rounds.proofs.Acting.{IsNoVote, IsNoBallot, IsThis, on_prepare}
use Rattle.rounds.proofs.Beginning.{IsStill, still_taken, begun, first_of}
use Rattle.rounds.proofs.Waiting.{IsWaiting, tell_low, unwanted_waits, patient_waits, fresh_ticks}
use Rattle.rounds.proofs.Waiting.{patience_is, stirred_by, heard_ticking, heard_patience, heard_stirred}
use Rattle.rounds.proofs.Arriving.{read_aside, read_back, prepare_is, promise_is, out_of, waits_are}
use Rattle.rounds.proofs.Arriving.{waits_for}
use Rattle.rounds.proofs.Arriving.{both_parts, in_first, in_then}
use Rattle.rounds.proofs.Stages

one_proof : (n q : ℕ) (a b : IsNode n q) → a ≡ b
one_proof n q a b = let is : IsProp (IsNode n q) = hlevel props in is a b

-- ---- what a step leaves of a pace

module _ (n q : ℕ) (x y : Server) (letters : _) (st : Steps n q x y letters) where
  pub ticking_after : y.pace.ticking ≡ st.called.ticking
  ticking_after = ap (λ (p : Pace). p.ticking) st.rests ∙ heard_ticking st.called st.heard st.delivered
      st.hears

  pub patience_after : y.pace.patience ≡ x.pace.patience
  patience_after = ap (λ (p : Pace). p.patience) st.rests ∙ heard_patience st.called st.heard st.delivered
      st.hears ∙ patience_is n x.pace x.node y.now st.drained st.last st.called st.calls

  pub stirred_after : 0 < st.delivered.stirs → y.pace.stirred ≡ true
  stirred_after some = ap (λ (p : Pace). p.stirred) st.rests
      ∙ heard_stirred st.called st.heard st.delivered st.hears some

  pub low_after : IsTellLow st.last
  low_after = tell_low n x.pace x.node y.now st.drained st.last st.called st.calls

-- what is said without a vote is about others
pub aside_said : (q i : ℕ) (out : List (To × Message)) → AreAll (IsSaid q i IsNoVote) out
    → AreAll (IsAsideOut i) out
aside_said q i out all x k = ⊎_elim (λ y. y) (λ y. absurd y.1) (all x k)

pub prefix_of : (values : List Value) (Only : BallotOf → Type 0) (Mine : Vote → Type 0) (s : Node)
    → IsClean values Only Mine s → IsKnownPrefix s values
prefix_of values Only Mine s clean = record { begins = clean.begins; gap = clean.unknown }

-- what held of no ballot and no vote holds of any
pub loosened : (n q : ℕ) (values : List Value) (Only More : BallotOf → Type 0) (Mine Ours : Vote → Type 0)
    (o : Option Attempt) (s : Node) → ((c : BallotOf) → Only c → More c) → ((x : Vote) → Mine x → Ours x)
    → IsHeld n q values Only Mine o s → IsHeld n q values More Ours o s
loosened n q values Only More Mine Ours o s f g held = record {
  clean = record {
    begins = held.clean.begins;
    unknown = held.clean.unknown;
    raised = λ e c k r. f c (held.clean.raised e c k r);
    voted = λ x at. g x (held.clean.voted x at);
    unlearned = held.clean.unlearned;
    not_mute = held.clean.not_mute;
  };
  busy = held.busy;
}

module _ (n p d : ℕ) (values rest : List Value) (v : Value) (node : IsNode n p)
    (instance : IsInstance (suc (length values))) where
  abbrev i : ℕ
  i = suc (length values)

  abbrev prepare : BallotOf → Message
  prepare = Stages.prepare n p d values v

  abbrev promise : BallotOf → ℕ → Message
  promise = Stages.promise n p d values v

  abbrev IsOwn : BallotOf → Type 0
  IsOwn = Stages.IsOwn n p d values v

  abbrev StepsOne : BallotOf → ℕ → Server → List (To × Message) → Type 0
  StepsOne = Stages.StepsOne n p d values v

  abbrev IsOne : BallotOf → Group → Type 0
  IsOne = Stages.IsOne n p d values v

  abbrev IsAttemptOf : BallotOf → ℕ → Option Attempt → Type 0
  IsAttemptOf = Stages.IsAttemptOf n p d values v

  abbrev StepsTwo : BallotOf → ℕ → ℕ → Server → List (To × Message) → Type 0
  StepsTwo = Stages.StepsTwo n p d values v

  abbrev IsTwo : BallotOf → Group → Type 0
  IsTwo = Stages.IsTwo n p d values v

  -- ---- the first round

  still_of : (g : Group) (q : ℕ) (pending : List Value) → IsCalmNode values (g q).node
      → (g q).node.pending ≡ pending → IsStill n q values pending (g q).node
  still_of g q pending calm are = record {
    clean = record {
      begins = calm.known.begins;
      unknown = calm.known.gap;
      raised = λ e c k r. calm.unpromised e c k r;
      voted = λ x at. calm.unpromised (Voted i x.ballot x.value) x.ballot
          (last_vote-in i (g q).node.entries x at) (refl, refl);
      unlearned = calm.unlearned;
      not_mute = calm.not_mute;
    };
    pending_are = are;
    reached = calm.reached;
    untried = calm.untried;
  }

  -- a node with nothing pending wants none
  no_wish : (q : ℕ) (s : Node) → IsHeld n q values IsNoBallot IsNoVote None s → s.reached ≤ length values
      → ¬ WantsTick s
  no_wish q s held low wants =
      ⊎_elim
      (λ (some : s.pending ≢ []). some held.busy)
      (λ (x : (j : ℕ) × IsFirstUnknown s.known j × (j ≤ s.reached)).
      let e = one_first s.known i x.0 (first_of n q values s held.clean instance) x.1 in
      let high = x.2 in
      omega (arith, e, high, low))
      wants

  module _ (g h : Group) (round : IsRound n d g h) where
    abbrev step : (q : ℕ) (here : IsNode n q) → Steps n q (g q) (h q) (round.letters q)
    step q here = round.steps q here

    -- the node that ticks
    module _ (calm : IsCalm n p values (v ∷ rest) g) where
      first_step : (b : BallotOf) × IsOwn b × StepsOne b p (h p) (step p node).out
          × In (step p node).out (All, prepare b)
      first_step =
          let st = step p node in
          let w = st.batch.works in
          let still = still_of g p (v ∷ rest) (calm.nodes p node) calm.pending_at in
          let wants : WantsTick (g p).node = inl (λ e. let x : v ∷ rest ≡ [] = sym calm.pending_at
          ∙ e in absurd (cc)) in
          let taken = still_taken n p values (v ∷ rest) (g p).waits (g p).node w.mid st.malformed w.first
          (λ bytes m k spells. calm.settled p bytes m node k spells) w.takes still in
          let paced = fresh_ticks n (g p).pace (g p).node (h p).now st.drained st.last st.called st.calls
          values (prefix_of values IsNoBallot IsNoVote (g p).node still.clean) wants
          (calm.nodes p node).unpromised calm.fresh.none_wanted calm.fresh.still calm.fresh.turn
          (calm.paces p node).noted in
          let after = begun n p values v rest w.mid taken.0 instance (h p).node w.then
          (subst (λ l. EndsTurns l n p w.mid w.then (h p).node) paced.0 w.ends) in
          let same = ticking_after n p (g p) (h p) (round.letters p) st in (
            after.ballot,
            record { of = after.of; round = after.round },
            record {
              side = inl (refl, after.held, subst (λ t. t.since ≢ None) (sym same) paced.1);
              waiting = subst (IsWaiting (length values) (h p).now) (sym same) paced.2;
              says = both_parts n d g h round (IsAnswer i (All, prepare after.ballot)) p node
                  (λ x k. inl (taken.1 x k)) after.says;
            },
            in_then n d g h round p node (All, prepare after.ballot) after.prepares,
          )

      -- the others
      other_step : (b : BallotOf) (q : ℕ) (here : IsNode n q) → q ≢ p → StepsOne b q (h q) (step q here).out
      other_step b q here apart =
          let st = step q here in
          let w = st.batch.works in
          let still = still_of g q [] (calm.nodes q here) (calm.pending_else q here apart) in
          let held : IsHeld n q values IsNoBallot IsNoVote None (g q).node = record
          { clean = still.clean; busy = still.pending_are } in
          let taken = still_taken n q values [] (g q).waits (g q).node w.mid st.malformed w.first
          (λ bytes m k spells. calm.settled q bytes m here k spells) w.takes still in
          let mid_held : IsHeld n q values IsNoBallot IsNoVote None w.mid = record
          { clean = taken.0.clean; busy = taken.0.pending_are } in
          let pace = calm.paces q here in
          let paced = unwanted_waits n (g q).pace (g q).node (h q).now st.drained st.last st.called st.calls
          values (prefix_of values IsNoBallot IsNoVote (g q).node still.clean) (h q).now
          (no_wish q (g q).node held still.reached) pace.noted pace.resumes in
          let after = calls_held n q values IsNoBallot IsNoVote None st.last w.mid (h q).node w.then paced.0
          (low_after n q (g q) (h q) (round.letters q) st) mid_held w.ends in
          record {
            side = inr (apart, after.0, subst (λ r. r ≤ length values) (sym after.1.1) taken.0.reached);
            waiting = subst (IsWaiting (length values) (h q).now)
                (sym (ticking_after n q (g q) (h q) (round.letters q) st)) paced.1;
            says = λ x k. inl (both_parts n d g h round (IsAsideOut i) q here taken.1
                (aside_said q i w.then after.2) x k);
          }

  pub first_round : (g h : Group) → IsRound n d g h → IsCalm n p values (v ∷ rest) g
      → ((q : ℕ) → IsNode n q → 2 * d < (g q).pace.patience) → (b : BallotOf) × IsOne b h
  first_round g h round calm patience =
      let first = first_step g h round calm in
      let b = first.0 in
      let each : (q : ℕ) (here : IsNode n q) → StepsOne b q (h q) (out_of n d g h round q here) = λ q here.
      ⊎_elim
      (λ (e : p ≡ q). at q e here first.2)
      (λ (apart : p ≢ q). other_step g h round calm b q here (λ e. apart (sym e)))
      (either p q) in (
        b,
        record {
          own = first.1;
          side = λ q here. (each q here).side;
          waiting = λ q here. (each q here).waiting;
          patience = λ q here. subst (λ k. 2 * d < k)
              (sym (patience_after n q (g q) (h q) (round.letters q) (round.steps q here))) (patience q here);
          allowed = λ q here. waits_are n d g h round (IsAsideOrIt i (prepare b)) q here
              (λ r there x m k to spells. ⊎_elim
              (λ aside. inl (read_aside n i m x.1 aside.0 aside.1 spells))
              (λ (e : x ≡ (All, prepare b)). inr (read_back n m (prepare b)
              (prepare_is n p i b node instance first.1.of first.1.round)
              (subst (λ (y : To × Message). Spells n (spelled y.1) m) e spells)))
              ((each r there).says x k));
          here = λ q here. waits_for n d g h round q p here node (All, prepare b) first.3 refl;
        },
      )
    where
      at : (q : ℕ) → p ≡ q → (here : IsNode n q) → StepsOne (first_step g h round calm).0 p (h p)
          (out_of n d g h round p node) → StepsOne (first_step g h round calm).0 q (h q)
          (out_of n d g h round q here)
      at q e here one =
          subst (λ r. (there : IsNode n r) → StepsOne (first_step g h round calm).0 r (h r)
          (out_of n d g h round r there)) e
          (λ there. subst (λ k. StepsOne (first_step g h round calm).0 p (h p) (out_of n d g h round p k))
          (one_proof n p node there) one) here

  -- ---- the second round

  waiting_sooner : (k from before : ℕ) (x : Server) → before ≤ from → IsWaiting k from x.pace.ticking
      → IsWaiting k before x.pace.ticking
  waiting_sooner k from before x low w = record {
    known = w.known;
    resumes = w.resumes;
    since = λ a at. let m
        = w.since a at in omega (arith, low, m);
  }

  module _ (b : BallotOf) (g h : Group) (round : IsRound n d g h) (one : IsOne b g) (q : ℕ)
      (here : IsNode n q) where
    abbrev st : Steps n q (g q) (h q) (round.letters q)
    st = round.steps q here

    low : IsTellLow st.last
    low = low_after n q (g q) (h q) (round.letters q) st

    on_time : ((h q).now - (g q).now < (g q).pace.patience) × ((g q).now ≤ (h q).now)
    on_time =
        let clock = round.clocks q here in
        let first = clock.0 in
        let last = clock.1 in
        let patience = one.patience q here in
        (omega (arith, first, last, patience), omega (arith, first))

    -- with this attempt at its instance, and without a tick
    second_by : (o : Option Attempt) → IsAttemptOf b q o → IsHeld n q values IsNoBallot IsNoVote o (g q).node
        → IsNoTick st.last × IsWaiting (length values) (g q).now st.called.ticking
        → StepsTwo b q (g q).now (h q) st.out
    second_by o of held paced =
        let w = st.batch.works in
        let spells : Spells n (spelled (prepare b)) (prepare b)
        = (prepare_is n p i b node instance one.own.of one.own.round, refl) in
        let on = on_prepare n q p values b one.own.of o in
        let before = loosened n q values IsNoBallot (IsThis b) IsNoVote IsNoVote o (g q).node
        (λ c x. absurd x) (λ c x. x) held in
        let mid = answers_held n q values (IsThis b) IsNoVote o (prepare b) (One p, promise b q) on
        (g q).waits (g q).node w.mid st.malformed w.first (one.allowed q here) w.takes before in
        let answer = answered n q values (IsThis b) IsNoVote o (prepare b) (One p, promise b q) on
        (spelled (prepare b)) spells (g q).waits (g q).node w.mid st.malformed w.first (one.here q here)
        (one.allowed q here) w.takes before in
        let after = calls_held n q values (IsThis b) IsNoVote o st.last w.mid (h q).node w.then paced.0 low
        mid.0 w.ends in
        record {
          attempt = o;
          attempt_of = of;
          held = after.0;
          waiting = subst (IsWaiting (length values) (g q).now)
              (sym (ticking_after n q (g q) (h q) (round.letters q) st)) paced.1;
          stirred = stirred_after n q (g q) (h q) (round.letters q) st
              (stirred_by n (g q).waits _ st.delivered (spelled (prepare b)) (prepare b) (one.here q here)
              spells refl st.noted);
          says = both_parts n d g h round (IsAnswer i (One p, promise b q)) q here mid.1
              (λ x k. inl (aside_said q i w.then after.2 x k));
          promises = in_first n d g h round q here (One p, promise b q) answer;
        }

    second_step : StepsTwo b q (g q).now (h q) st.out
    second_step =
        ⊎_elim
        (λ (x : (q ≡ p) × IsHeld n q values IsNoBallot IsNoVote (Some (opened b v)) (g q).node
        × ((g q).pace.ticking.since ≢ None)).
        second_by (Some (opened b v)) (inl (x.0, refl)) x.1
        (patient_waits n (g q).pace (g q).node (h q).now st.drained st.last st.called st.calls values
        (prefix_of values IsNoBallot IsNoVote (g q).node x.1.clean) (g q).now on_time.1 on_time.0
        (one.waiting q here) (inl x.2)))
        (λ (x : (q ≢ p) × IsHeld n q values IsNoBallot IsNoVote None (g q).node
        × ((g q).node.reached ≤ length values)).
        let w = one.waiting q here in
        second_by None (inr (x.0, refl)) x.1
        (unwanted_waits n (g q).pace (g q).node (h q).now st.drained st.last st.called st.calls values
        (prefix_of values IsNoBallot IsNoVote (g q).node x.1.clean) (g q).now
        (no_wish q (g q).node x.1 x.2) w.known w.resumes))
        (one.side q here)

  one_for : (q : ℕ) → is_for q (One p) ≡ true → q ≡ p
  one_for q e = sym (same_number p q e)
    where
      same_number : (a b : ℕ) → nat_eq a b ≡ true → a ≡ b
      same_number a b = grind (arith, nat_tests)

  for_one : is_for p (One p) ≡ true
  for_one = same p
    where
      same : (a : ℕ) → nat_eq a a ≡ true
      same a = grind (arith, nat_tests)

  pub second_round : (b : BallotOf) (g h : Group) → IsRound n d g h → IsOne b g → IsTwo b h
  second_round b g h round one =
      let each : (q : ℕ) (here : IsNode n q) → StepsTwo b q (g q).now (h q) (out_of n d g h round q here)
      = λ q here. second_step b g h round one q here in
      record {
        own = one.own;
        attempt = λ q here. let s = each q here in (s.attempt, s.attempt_of, s.held);
        stirred = λ q here. (each q here).stirred;
        waiting = λ q here.
            let clock = round.clocks q here in
            let first = clock.0 in
            let last = clock.1 in
            let patience = one.patience q here in
            let same = patience_after n q (g q) (h q) (round.letters q) (round.steps q here) in (
              (g q).now,
              (each q here).waiting,
              omega (arith, first),
              omega
                  (arith, first, last, patience, same),
            );
        allowed = λ q here. waits_are n d g h round (λ m. IsElsewhere i m
            ⊎ ((q ≡ p) × ((r : ℕ) × IsNode n r × (m ≡ promise b r)))) q here
            (λ r there x m k to spells. ⊎_elim
            (λ aside. inl (read_aside n i m x.1 aside.0 aside.1 spells))
            (λ (e : x ≡ (One p, promise b r)). inr (
              one_for q (subst (λ (y : To × Message). is_for q y.0 ≡ true) e to),
              (
                r,
                there,
                read_back n m (promise b r) (promise_is n p i b node instance one.own.of
                    one.own.round r there) (subst (λ (y : To × Message). Spells n (spelled y.1) m) e spells),
              ),
            ))
            ((each r there).says x k));
        here = λ r there. waits_for n d g h round p r node there (One p, promise b r) (each r there).promises
            for_one;
      }
