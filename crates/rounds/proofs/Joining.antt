-- The last three rounds, and all five joined: a proposal, votes, and that they are a majority's.
use Rattle.std.proofs.Common.{◌≡◌, ◌≢◌, ◌⊎◌, inl, inr, ⊎_elim, ℕ, suc, ◌<◌, ◌≤◌, Some, None, List, [], ◌∷◌}
use Rattle.std.proofs.Common.{length, refl, sym, ap, subst, ◌∙◌, arith}
use Rattle.std.specs.Prelude.{◌*◌}
use Rattle.site_ids.specs.Ids.{BallotOf, IsInstance, IsNode}
use Rattle.site_ids.specs.Lists.{In}
use Rattle.site_ids.specs.Majorities.{Majority}
use Rattle.site_ids.specs.declared.value.Vote.{Vote}
use Rattle.wire.specs.declared.message.Message.{Message}
use Rattle.wire.specs.declared.message.Message.TheVariants.{Accepted}
use Rattle.wire.specs.Messages.{kind_of}
use Rattle.wire.specs.Decoding.{Spells}
use Rattle.wire.specs.Spelling.{spelled}
use Rattle.proposer.specs.Attempts.{opened, senders}
use Rattle.node.specs.declared.to.To.{To}
use Rattle.node.specs.declared.to.To.TheVariants.{All}
use Rattle.node.specs.Nodes.{Value}
use Rattle.rounds.specs.Rounds.{Server, Group, Steps, IsRound, AreRounds}
use Rattle.rounds.specs.Deciding.{IsCalm, CalmRoundsDecide}
use Rattle.rounds.proofs.Besides.{IsBusy, either}
use Rattle.rounds.proofs.Delivering.{AreAllowed}
use Rattle.rounds.proofs.Holding.{IsHeld, IsSaid, IsNoTick, IsTellLow, calls_held}
use Rattle.rounds.proofs.Answering.{IsAsideOrIt, IsAnswer, asides_held, answers_held, answered}
use Rattle.rounds.proofs.Acting.{IsNoVote, IsVoteOf, IsThis, on_proposal}
use Rattle.rounds.proofs.Promising.{Asks, IsPromised, promises_held, proposed}
use Rattle.rounds.proofs.Counting.{IsVoteOrBlank, votes_known, calls_known}
use Rattle.rounds.proofs.Loosening.{IsLoose, loosely_called}
use Rattle.rounds.proofs.Waiting.{patient_waits}
use Rattle.rounds.proofs.Arriving.{read_kind, read_aside, read_back, promise_is, propose_is, accepted_is}
use Rattle.rounds.proofs.Arriving.{out_of, waits_are, waits_for}
use Rattle.rounds.proofs.Arriving.{both_parts, in_first}
use Rattle.rounds.proofs.Opening.{low_after, aside_said, prefix_of, loosened, first_round, second_round}
use Rattle.rounds.proofs.Stages

module _ (n p d : ℕ) (values rest : List Value) (v : Value) (node : IsNode n p)
    (instance : IsInstance (suc (length values))) where
  abbrev i : ℕ
  i = suc (length values)

  abbrev promise : BallotOf → ℕ → Message
  promise = Stages.promise n p d values v

  abbrev proposal : BallotOf → Message
  proposal = Stages.proposal n p d values v

  abbrev accepted : BallotOf → ℕ → Message
  accepted = Stages.accepted n p d values v

  abbrev IsOwn : BallotOf → Type 0
  IsOwn = Stages.IsOwn n p d values v

  abbrev IsTwo : BallotOf → Group → Type 0
  IsTwo = Stages.IsTwo n p d values v

  abbrev StepsThree : BallotOf → ℕ → Server → List (To × Message) → Type 0
  StepsThree = Stages.StepsThree n p d values v

  abbrev IsThree : BallotOf → Group → Type 0
  IsThree = Stages.IsThree n p d values v

  abbrev StepsFour : BallotOf → ℕ → Server → List (To × Message) → Type 0
  StepsFour = Stages.StepsFour n p d values v

  abbrev IsFour : BallotOf → Group → Type 0
  IsFour = Stages.IsFour n p d values v

  some_nodes : 1 ≤ n
  some_nodes = let a = node.0 in let b = node.1 in omega (arith, a, b)

  -- ---- the third round

  module _ (b : BallotOf) (g h : Group) (round : IsRound n d g h) (two : IsTwo b g) where
    module _ (q : ℕ) (here : IsNode n q) where
      abbrev st_3 : Steps n q (g q) (h q) (round.letters q)
      st_3 = round.steps q here

      low_3 : IsTellLow st_3.last
      low_3 = low_after n q (g q) (h q) (round.letters q) st_3

      no_tick : IsNoTick st_3.last
      no_tick =
          let a = two.attempt q here in
          let w = two.waiting q here in
          let clock = round.clocks q here in
          let first = clock.0 in
          let last = clock.1 in
          let since = w.2 in
          let soon = w.3 in
          (patient_waits n (g q).pace (g q).node (h q).now st_3.drained st_3.last st_3.called st_3.calls
          values (prefix_of values (IsThis b) IsNoVote (g q).node a.2.clean) w.0
          (omega (arith, since, first)) (omega (arith, soon, last, first)) w.1
          (inr (two.stirred q here))).0

      third_other : q ≢ p → StepsThree b q (h q) st_3.out
      third_other apart =
          let w = st_3.batch.works in
          let a = two.attempt q here in
          let mid = asides_held n q values (IsThis b) IsNoVote a.0 (g q).waits (g q).node w.mid st_3.malformed
          w.first (λ bytes m k spells. ⊎_elim (λ x. x) (λ x. absurd (apart x.0))
          (two.allowed q here bytes m k spells)) w.takes a.2 in
          let after = calls_held n q values (IsThis b) IsNoVote a.0 st_3.last w.mid (h q).node w.then no_tick
          low_3 mid.0 w.ends in
          record {
            attempt = a.0;
            held = after.0;
            says = both_parts n d g h round (IsAnswer i (All, proposal b)) q here (λ x k. inl (mid.1 x k))
                (λ x k. inl (aside_said q i w.then after.2 x k));
          }

    -- node p hears all promises, and proposes
    third_own : (here : IsNode n p) → StepsThree b p (h p) (out_of n d g h round p here)
        × In (out_of n d g h round p here) (All, proposal b)
    third_own here =
        let st = round.steps p here in
        let w = st.batch.works in
        let a = two.attempt p here in
        let open_at : (g p).node.attempts i ≡ Some (opened b v) = ⊎_elim
        (λ (x : (p ≡ p) × (a.0 ≡ Some (opened b v))). subst (λ o. IsBusy i o (g p).node) x.1 a.2.busy)
        (λ (x : (p ≢ p) × (a.0 ≡ None)). absurd (x.0 refl))
        a.1 in
        let few : ¬ Majority n (senders []) = λ m. let enough = m.enough in omega (arith, enough) in
        let asks : Asks n p values b v (g p).node [] = record {
          attempt = opened b v;
          at = open_at;
          asking = record {
            ballot = refl;
            own = refl;
            none = λ x k. absurd k;
            nodes = λ x k. absurd k;
            distinct = tt;
          };
          left = inl (refl, few);
        } in
        let allowed : AreAllowed n p (IsPromised n p values b v) (g p).waits = λ bytes m k spells.
        ⊎_elim (λ x. inl x) (λ x. inr x.1) (two.allowed p here bytes m k spells) in
        let each : (r : ℕ) → IsNode n r → (bytes : List ℕ) × In (g p).waits bytes
        × Spells n bytes (promise b r) =
        λ r there. (
          spelled (promise b r),
          two.here r there,
          (promise_is n p i b node instance two.own.of two.own.round r there, refl),
        ) in
        let mid = promises_held n p values b v (g p).waits (g p).node w.mid st.malformed w.first allowed
        w.takes a.2.clean asks in
        let said = proposed n p values b v some_nodes (g p).waits (g p).node w.mid st.malformed w.first each
        allowed w.takes a.2.clean asks in
        let held : IsHeld n p values (IsThis b) IsNoVote (Some mid.1.attempt) w.mid = record
        { clean = mid.0; busy = mid.1.at } in
        let after = calls_held n p values (IsThis b) IsNoVote (Some mid.1.attempt) st.last w.mid (h p).node
        w.then (no_tick p here) (low_3 p here) held w.ends in (
          record {
            attempt = Some mid.1.attempt;
            held = after.0;
            says = both_parts n d g h round (IsAnswer i (All, proposal b)) p here mid.2
                (λ x k. inl (aside_said p i w.then after.2 x k));
          },
          in_first n d g h round p here (All, proposal b) said,
        )

    third_step : (q : ℕ) (here : IsNode n q) → StepsThree b q (h q) (out_of n d g h round q here)
    third_step q here =
        ⊎_elim
        (λ (e : p ≡ q). subst (λ r. (there : IsNode n r) → StepsThree b r (h r)
        (out_of n d g h round r there)) e (λ there. (third_own there).0) here)
        (λ (apart : p ≢ q). third_other q here (λ e. apart (sym e)))
        (either p q)

  third_round : (b : BallotOf) (g h : Group) → IsRound n d g h → IsTwo b g → IsThree b h
  third_round b g h round two =
      let own = third_own b g h round two node in
      let fits : length v ≤ 32768 = (round.steps p node).batch.works.fits (All, proposal b) own.1 in
      let each : (q : ℕ) (here : IsNode n q) → StepsThree b q (h q) (out_of n d g h round q here) = λ q here.
      third_step b g h round two q here in
      record {
        own = two.own;
        fits = fits;
        attempt = λ q here. let s = each q here in (s.attempt, s.held);
        allowed = λ q here. waits_are n d g h round (IsAsideOrIt i (proposal b)) q here
            (λ r there x m k to spells. ⊎_elim
            (λ aside. inl (read_aside n i m x.1 aside.0 aside.1 spells))
            (λ (e : x ≡ (All, proposal b)). inr (read_back n m (proposal b)
            (propose_is n p i b node instance two.own.of two.own.round v fits)
            (subst (λ (y : To × Message). Spells n (spelled y.1) m) e spells)))
            ((each r there).says x k));
        here = λ q here. waits_for n d g h round q p here node (All, proposal b) own.1 refl;
      }

  -- ---- the fourth round

  fourth_step : (b : BallotOf) (g h : Group) (round : IsRound n d g h) → IsThree b g
      → (q : ℕ) (here : IsNode n q) → StepsFour b q (h q) (out_of n d g h round q here)
  fourth_step b g h round three q here =
      let st = round.steps q here in
      let w = st.batch.works in
      let a = three.attempt q here in
      let spells : Spells n (spelled (proposal b)) (proposal b)
      = (propose_is n p i b node instance three.own.of three.own.round v three.fits, refl) in
      let on = on_proposal n q p values b v a.0 in
      let before = loosened n q values (IsThis b) (IsThis b) IsNoVote (IsVoteOf b v) a.0 (g q).node (λ c x. x)
      (λ c x. absurd x) a.1 in
      let mid = answers_held n q values (IsThis b) (IsVoteOf b v) a.0 (proposal b) (All, accepted b q) on
      (g q).waits (g q).node w.mid st.malformed w.first (three.allowed q here) w.takes before in
      let answer = answered n q values (IsThis b) (IsVoteOf b v) a.0 (proposal b) (All, accepted b q) on
      (spelled (proposal b)) spells (g q).waits (g q).node w.mid st.malformed w.first (three.here q here)
      (three.allowed q here) w.takes before in
      let after = loosely_called n q values (IsThis b) (IsVoteOf b v) st.last w.mid (h q).node w.then
      (low_after n q (g q) (h q) (round.letters q) st) mid.0.clean w.ends in
      record {
        unknown = after.0.unknown;
        says = both_parts n d g h round (λ x. IsAnswer i (All, accepted b q) x ⊎ IsLoose q i (IsVoteOf b v) x)
            q here (λ x k. inl (mid.1 x k)) (λ x k. inr (after.1 x k));
        votes = in_first n d g h round q here (All, accepted b q) answer;
      }

  -- what the fourth round hands out is read as a vote for the value, or as a message that brings none
  read_four : (b : BallotOf) (own : IsOwn b) (fits : length v ≤ 32768) (q r : ℕ) → IsNode n r
      → (x : To × Message) (m : Message) → IsAnswer i (All, accepted b r) x ⊎ IsLoose r i (IsVoteOf b v) x
      → Spells n (spelled x.1) m → IsVoteOrBlank n q values b v m
  read_four b own fits q r there x m said spells =
      let vote : x.1 ≡ accepted b r → IsVoteOrBlank n q values b v m =
      λ e. inr (
        r,
        read_back n m (accepted b r) (accepted_is n p i b node instance own.of own.round r v there
            fits) (subst (λ (y : Message). Spells n (spelled y) m) e spells),
      ) in
      ⊎_elim
      (λ (y : IsAnswer i (All, accepted b r) x).
      ⊎_elim (λ aside. inl (inl (read_aside n i m x.1 aside.0 aside.1 spells)))
      (λ (e : x ≡ (All, accepted b r)). vote (ap (λ (z : To × Message). z.1) e)) y)
      (λ (y : IsLoose r i (IsVoteOf b v) x). ⊎_elim
      (λ (z : IsSaid r i (IsVoteOf b v) x). ⊎_elim
      (λ aside. inl (inl (read_aside n i m x.1 aside.0 aside.1 spells)))
      (λ (u : (c : Vote) × IsVoteOf b v c × (x.1 ≡ Accepted r i c.ballot c.value)). vote
      (u.2 ∙ ap (λ (c : Vote). Accepted r i c.ballot c.value) u.1))
      z)
      (λ (z : (kind_of x.1 ≡ 1) ⊎ (kind_of x.1 ≡ 3)). inl (inr
      (⊎_elim (λ e. inl (read_kind n m x.1 spells ∙ e)) (λ e. inr (read_kind n m x.1 spells ∙ e)) z)))
      y)
      said

  fourth_round : (b : BallotOf) (g h : Group) → IsRound n d g h → IsThree b g → IsFour b h
  fourth_round b g h round three =
      let each : (q : ℕ) (here : IsNode n q) → StepsFour b q (h q) (out_of n d g h round q here) = λ q here.
      fourth_step b g h round three q here in
      record {
        own = three.own;
        fits = three.fits;
        unknown = λ q here. (each q here).unknown;
        allowed = λ q here. waits_are n d g h round (IsVoteOrBlank n q values b v) q here
            (λ r there x m k to spells. read_four b three.own three.fits q r there x m
            ((each r there).says x k) spells);
        here = λ q r here there. waits_for n d g h round q r here there (All, accepted b r)
            (each r there).votes refl;
      }

  -- ---- the fifth round

  fifth_round : (b : BallotOf) (g h : Group) → IsRound n d g h → IsFour b g → (q : ℕ) → IsNode n q
      → (h q).node.known i ≡ Some v
  fifth_round b g h round four q here =
      let st = round.steps q here in
      let w = st.batch.works in
      let each : (r : ℕ) → IsNode n r → (bytes : List ℕ) × In (g q).waits bytes
      × Spells n bytes (accepted b r) =
      λ r there. (
        spelled (accepted b r),
        four.here q r here there,
        (accepted_is n p i b node instance four.own.of four.own.round r v there four.fits, refl),
      ) in
      let known = votes_known n q values b v some_nodes (g q).waits (g q).node w.mid st.malformed w.first each
      (four.allowed q here) w.takes (four.unknown q here) in
      calls_known n q values b v st.last w.mid (h q).node w.then w.ends known

  pub decided : (g h : Group) → IsCalm n p values (v ∷ rest) g
      → ((q : ℕ) → IsNode n q → 2 * d < (g q).pace.patience) → AreRounds n d 5 g h → (q : ℕ) → IsNode n q
      → (h q).node.known i ≡ Some v
  decided g h calm patience rounds =
      let one = first_round n p d values rest v node instance g rounds.0 rounds.1 calm patience in
      let b = one.0 in
      let two = second_round n p d values rest v node instance b rounds.0 rounds.2.0 rounds.2.1 one.1 in
      let three = third_round b rounds.2.0 rounds.2.2.0 rounds.2.2.1 two in
      let four = fourth_round b rounds.2.2.0 rounds.2.2.2.0 rounds.2.2.2.1 three in
      let last : rounds.2.2.2.2.0 ≡ h = sym rounds.2.2.2.2.2 in
      subst (λ (k : Group). (q : ℕ) → IsNode n q → (k q).node.known i ≡ Some v) last
      (fifth_round b rounds.2.2.2.0 rounds.2.2.2.2.0 rounds.2.2.2.2.1 four)

pub calm_rounds_decide : CalmRoundsDecide
calm_rounds_decide n p d values rest v g h calm patience rounds = decided n p d values rest v calm.in_cluster
    calm.next g h calm patience rounds
