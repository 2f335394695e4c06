-- A step of a server's code is a step of a round, and rounds of code are rounds.
use Rattle.std.proofs.Common.{◌⊎◌, inl, inr, ⊎_elim, ℕ, zero, suc, ◌<◌, ◌≤◌, List, refl, sym, ap, subst}
use Rattle.std.proofs.Common.{arith}
use Rattle.site_ids.specs.Ids.{IsNode}
use Rattle.site_disk.specs.Model.{DiskState}
use Rattle.node.specs.declared.to.To.{To}
use Rattle.node.specs.Nodes.{Node}
use Rattle.node.specs.Standing.{IsNodeOf}
use Rattle.server_pace.specs.declared.pace.Pace.{Pace}
use Rattle.server.specs.Mailing.{waiting_of, posted_of}
use Rattle.rounds.specs.Rounds.{Steps, IsRound, AreRounds}
use Rattle.rounds.specs.Coding.{StepsAreSteps, CodeServer, server_of, group_of, IsCodeRound}
use Rattle.rounds.specs.Coding.{AreCodeRounds, CodeRoundsDecide}
use Rattle.rounds.proofs.Joining.{calm_rounds_decide}

pub steps_are_steps : {D : Type 0} (stands_for : D → DiskState → Type 0) → StepsAreSteps stands_for
steps_are_steps stands_for old new before after pace paced last malformed earlier now batch paces s stands =
    let r = batch.1.leads s stands in (
      r.0,
      r.2,
      λ waits empty. record {
        drained = paces.drained;
        last = last;
        called = paces.mid;
        delivered = paces.delivered;
        heard = paced;
        malformed = malformed;
        out = batch.0;
        fed = new.releases;
        calls = paces.calls s stands;
        batch = r.1.0;
        noted = paces.noted;
        hears = paces.hears;
        rests = refl;
        letters_are = r.1.1;
      },
    )

-- it is one of the nodes, or not
is_node_or : (n q : ℕ) → IsNode n q ⊎ (¬ IsNode n q)
is_node_or n q =
    ⊎_elim
    (λ (low : q < 1). inr (λ (node : IsNode n q). let first = node.0 in omega (arith, low, first)))
    (λ (some : 1 ≤ q). ⊎_elim
    (λ (high : n < q). inr (λ (node : IsNode n q). let last = node.1 in omega (arith, high, last)))
    (λ (within : q ≤ n). inl (some, within))
    (sides n q))
    (sides q 1)
  where
    sides : (a b : ℕ) → (a < b) ⊎ (b ≤ a)
    sides a b = grind arith

module _ {D : Type 0} (stands_for : D → DiskState → Type 0) (n d : ℕ) where
  module _ (g h : ℕ → CodeServer D) (round : IsCodeRound stands_for n d g h) (nodes : ℕ → Node)
      (stand : (q : ℕ) → IsNode n q → IsNodeOf (g q).node (nodes q)) where
    -- where a step of the code leads
    led : (q : ℕ) (here : IsNode n q) → (next : Node) × IsNodeOf (h q).node next
        × Steps n q (group_of g nodes q) (server_of next (h q).pace (waiting_of (h q).mail) (h q).now)
        (round.letters q)
    led q here =
        let st = round.steps q here in
        let whose = round.whose q here in
        let r = steps_are_steps stands_for (g q).node (h q).node (g q).mail st.left (g q).pace st.paced
        st.last
        st.malformed (g q).now (h q).now st.batch st.paces (nodes q) (stand q here) in
        let step = r.2 (waiting_of (h q).mail) (h q).pace.empty in
        let there = server_of r.0 (h q).pace (waiting_of (h q).mail) (h q).now in
        let paced : Steps (g q).node.cluster (g q).node.me (group_of g nodes q) there (posted_of st.left) =
        subst (λ (p : Pace). Steps (g q).node.cluster (g q).node.me (group_of g nodes q)
        (server_of r.0 p (waiting_of (h q).mail) (h q).now) (posted_of st.left)) (sym st.rests) step in
        let said : Steps (g q).node.cluster (g q).node.me (group_of g nodes q) there (round.letters q) =
        subst
        (λ (l : List (To × List ℕ)). Steps (g q).node.cluster (g q).node.me (group_of g nodes q) there l)
        (sym st.letters_are) paced in (
          r.0,
          r.1,
          subst (λ m. Steps m q (group_of g nodes q) there (round.letters q)) whose.1
              (subst (λ p. Steps (g q).node.cluster p (group_of g nodes q) there (round.letters q)) whose.0
              said),
        )

    abbrev pick : (q : ℕ) → IsNode n q ⊎ (¬ IsNode n q) → Node
    pick q (inl here) = (led q here).0
    pick q (inr none) = nodes q

    picked : (q : ℕ) (x : IsNode n q ⊎ (¬ IsNode n q)) → IsNode n q → IsNodeOf (h q).node (pick q x)
        × Steps n q (group_of g nodes q) (server_of (pick q x) (h q).pace (waiting_of (h q).mail) (h q).now)
        (round.letters q)
    picked q (inl here) node = let r = led q here in (r.1, r.2)
    picked q (inr none) node = absurd (none node)

    abbrev next : ℕ → Node
    next q = pick q (is_node_or n q)

    next_stand : (q : ℕ) → IsNode n q → IsNodeOf (h q).node (next q)
    next_stand q here = (picked q (is_node_or n q) here).0

    -- a round of the code is a round
    is_round : IsRound n d (group_of g nodes) (group_of h next)
    is_round = record {
      letters = round.letters;
      steps = λ q here. (picked q (is_node_or n q) here).1;
      clocks = round.clocks;
      arrive = round.arrive;
      alone = round.alone;
    }

  -- and so are many
  are_rounds : (k : ℕ) (g h : ℕ → CodeServer D) (nodes : ℕ → Node)
      → ((q : ℕ) → IsNode n q → IsNodeOf (g q).node (nodes q)) → AreCodeRounds stands_for n d k g h
      → (after : ℕ → Node) × ((q : ℕ) → IsNode n q → IsNodeOf (h q).node (after q))
      × AreRounds n d k (group_of g nodes) (group_of h after)
  are_rounds zero g h nodes stand how = (
    nodes,
    λ q here. subst (λ (x : ℕ → CodeServer D). IsNodeOf (x q).node (nodes q)) (sym how) (stand q here),
    ap (λ (x : ℕ → CodeServer D). group_of x nodes) how,
  )
  are_rounds (suc k) g h nodes stand how =
      let mid = how.0 in
      let then_nodes = next g mid how.1 nodes stand in
      let rest = are_rounds k mid h then_nodes (next_stand g mid how.1 nodes stand) how.2 in
      (rest.0, rest.1, (group_of mid then_nodes, is_round g mid how.1 nodes stand, rest.2))

pub code_rounds_decide : {D : Type 0} (stands_for : D → DiskState → Type 0) → CodeRoundsDecide stands_for
code_rounds_decide stands_for n p d values rest v g h nodes stand calm patience rounds q here =
    let r = are_rounds stands_for n d 5 g h nodes stand rounds in
    let groups : AreRounds n d 5 (group_of g nodes) (group_of h r.0) = r.2 in
    let known = calm_rounds_decide n p d values rest v (group_of g nodes) (group_of h r.0) calm patience groups q
    here in
    (r.0 q, r.1 q here, known)
