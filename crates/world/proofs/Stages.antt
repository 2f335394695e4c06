-- The four stages of an attempt: prepares, promises, proposals, votes.
use Rattle.std.proofs.Common.{◌≡◌, ◌≢◌, ◌⊎◌, inl, inr, ⊎_elim, ℕ, zero, suc, ◌+◌, ◌<◌, ◌≤◌, max, Option, Some, None, List, [], ◌∷◌, ◌++◌, length, refl, sym, ap, subst, ◌∙◌, arith, append_assoc, length-append, append-nil}
use Rattle.std.specs.Prelude.{slice_get}
use Rattle.site_ids.specs.Ids.{BallotOf, IsNode}
use Rattle.site_ids.specs.Lists.{In, Distinct, put_at}
use Rattle.site_ids.specs.Majorities.{Majority}
use Rattle.site_ids.specs.Spans.{last_of}
use Rattle.site_ids.specs.declared.value.Vote.{Vote}
use Rattle.site_ids.proofs.MapLemmas.{put_here}
use Rattle.site_ids.proofs.MemberLemmas.{in_push, distinct_push}
use Rattle.wire.specs.declared.message.Message.{Message}
use Rattle.wire.specs.declared.message.Message.TheVariants.{Prepare, Promise, Propose, Accepted}
use Rattle.durable.specs.Entries.{last_vote, with_entry}
use Rattle.proposer.specs.Attempts.{Answer, Attempt, senders, ToldNone, Highest, Chooses, Counts, with_answer, waiting, TakesPromise}
use Rattle.learner.specs.ToldVotes.{told_vote, HasMajority}
use Rattle.node.specs.declared.to.To.{To}
use Rattle.node.specs.Nodes.{Value, Up, Node}
use Rattle.node.specs.Effects.{Effect, quiet, recorded, messages_of, learned}
use Rattle.node.specs.Calls.{deliver}
use Rattle.node.specs.Deliveries.{promise_out, with_vote, OnAccepted}
use Rattle.world.specs.Worlds.{World}
use Rattle.world.specs.Taking.{TakesAll}
use Rattle.world.specs.Quiet.{AllRun, to_each, each_to, quorum}
use Rattle.world.proofs.Calm.{Acts, deliver_acts, for_each, run_before, calm_to_each, calm_each_to}
use Rattle.world.proofs.QuietLists.{get_left, Stand, stand_left, nodes_from, among, quorum_majority}
use Rattle.world.proofs.QuietAnswers.{IsClear, SameMind, same_mind, mind_on, Stays, stays_same, stays_by, Promises, promises, Votes, votes_for, round_over_vote}

-- ---- prepares

-- promises of nodes q, q + 1 .. that report these votes
abbrev pub promises_from : ℕ → ℕ → BallotOf → List (Option Vote) → List Message
promises_from q i b [] = []
promises_from q i b (x ∷ xs) = Promise q i b x ∷ promises_from (suc q) i b xs

-- a node over a prepare that it promises
pub record Steady (i : ℕ) (b : BallotOf) (s t : Node) : Type 0 where
  pub mind : SameMind s t
  pub stays : Stays i b s.entries t.entries

steady_same : (i : ℕ) (b : BallotOf) (s : Node) → Steady i b s s
steady_same i b s = record { mind = same_mind s; stays = stays_same i b s.entries }

steady_on : (i : ℕ) (b : BallotOf) (s t u : Node) → Steady i b s t → Steady i b t u → Steady i b s u
steady_on i b s t u x y = record {
  mind = mind_on s t u x.mind y.mind;
  stays = record { round = y.stays.round ∙ x.stays.round; vote = y.stays.vote ∙ x.stays.vote; clear = λ clear. y.stays.clear (x.stays.clear clear) };
}

steady_over : (i : ℕ) (b : BallotOf) (q r : ℕ) (s : Node) (effect : Effect) → Promises q (record s { reached = r }) i b effect → Steady i b s (recorded (record s { reached = r }) effect)
steady_over i b q r s effect how =
    let stays = stays_by i b s.entries effect.entry how.entry in
    record {
      mind = record {
        attempts = ap (λ (x : Node). x.attempts) how.after;
        known = ap (λ (x : Node). x.known) how.after;
        votes = ap (λ (x : Node). x.votes) how.after;
        pending = ap (λ (x : Node). x.pending) how.after;
        heard = ap (λ (x : Node). x.heard) how.after;
        round = stays.round;
      };
      stays = stays;
    }

module _ (n p i : ℕ) (b : BallotOf) where
  pub record Asked (q k : ℕ) (w after : World) : Type 0 where
    pub steady : (r : ℕ) → Steady i b (w.node r) (after.node r)
    pub priors : List (Option Vote)
    pub counted : length priors ≡ k
    pub sent : after.sent ≡ w.sent ++ promises_from q i b priors
    pub truth : ((r : ℕ) → IsNode n r → last_vote i (w.node r).entries ≡ None) → (x : Option Vote) → In priors x → x ≡ None

  pub asked : (index k q : ℕ) (w after : World) → slice_get w.sent index ≡ Some (Prepare p i b 1) → ((r : ℕ) → q ≤ r → r < q + k → IsNode n r × IsClear (w.node r).entries i b)
      → TakesAll n w (to_each index q k) after → AllRun n after → Asked q k w after
  asked index zero q w after at clear how run = subst (λ x. Asked q zero w x) (sym how) (record {
    steady = λ r. steady_same i b (w.node r);
    priors = [];
    counted = refl;
    sent = sym (append-nil w.sent);
    truth = λ none x k. absurd k;
  })
  asked index (suc k) q w after at clear how run =
      let mid = how.0 in
      let here = clear q (omega arith) (omega arith) in
      let runs = run_before n (to_each index (suc q) k) mid after (calm_to_each index (suc q) k) how.2 run in
      let acts = deliver_acts n w q index (Prepare p i b 1) mid at (λ x. x) (runs q here.0) how.1 in
      let told = promises q (record (w.node q) { reached = max (w.node q).reached (last_of i 1) }) i b acts.effect here.1 acts.does in
      let steady : (r : ℕ) → Steady i b (w.node r) (mid.node r) = for_each n w q (deliver (Prepare p i b 1)) mid (Steady i b) (steady_same i b) acts (steady_over i b q (max (w.node q).reached (last_of i 1)) (w.node q) acts.effect told) in
      let sent : mid.sent ≡ w.sent ++ Promise q i b told.prior ∷ [] = acts.sent ∙ ap (λ (l : List (To × Message)). w.sent ++ messages_of l) told.out in
      let still : slice_get mid.sent index ≡ Some (Prepare p i b 1) = subst (λ l. slice_get l index ≡ Some (Prepare p i b 1)) (sym sent) (get_left w.sent (Promise q i b told.prior ∷ []) index (Prepare p i b 1) at) in
      let rest : Asked (suc q) k mid after = asked index k (suc q) mid after still (λ r low high. let c = clear r (omega (arith, low)) (omega (arith, high)) in (c.0, (steady r).stays.clear c.1)) how.2 run in
      record {
        steady = λ r. steady_on i b (w.node r) (mid.node r) (after.node r) (steady r) (rest.steady r);
        priors = told.prior ∷ rest.priors;
        counted = let c = rest.counted in omega (arith, c);
        sent = rest.sent ∙ ap (λ l. l ++ promises_from (suc q) i b rest.priors) sent ∙ append_assoc w.sent (Promise q i b told.prior ∷ []) (promises_from (suc q) i b rest.priors);
        truth = λ none x m. ⊎_elim (λ (e : told.prior ≡ x). sym e ∙ told.told ∙ none q here.0) (λ m. rest.truth (λ r is. (steady r).stays.vote ∙ none r is) x m) m;
      }

  -- ---- proposals

  abbrev pub votes_from : Value → ℕ → ℕ → List Message
  votes_from v q zero = []
  votes_from v q (suc k) = Accepted q i b v ∷ votes_from v (suc q) k

  module _ (v : Value) where
    mind_over : (q r : ℕ) (s : Node) (effect : Effect) → Votes q (record s { reached = r }) i b v effect → SameMind s (recorded (record s { reached = r }) effect)
    mind_over q r s effect how = record {
      attempts = ap (λ (x : Node). x.attempts) how.after;
      known = ap (λ (x : Node). x.known) how.after;
      votes = ap (λ (x : Node). x.votes) how.after;
      pending = ap (λ (x : Node). x.pending) how.after;
      heard = ap (λ (x : Node). x.heard) how.after;
      round = round_over_vote i b v s.entries effect.entry how.entry;
    }

    pub record Voted (q k : ℕ) (w after : World) : Type 0 where
      pub mind : (r : ℕ) → SameMind (w.node r) (after.node r)
      pub sent : after.sent ≡ w.sent ++ votes_from v q k

    pub voted : (index k q : ℕ) (w after : World) → slice_get w.sent index ≡ Some (Propose p i b v) → ((r : ℕ) → q ≤ r → r < q + k → IsNode n r × IsClear (w.node r).entries i b)
        → TakesAll n w (to_each index q k) after → AllRun n after → Voted q k w after
    voted index zero q w after at clear how run = subst (λ x. Voted q zero w x) (sym how) (record { mind = λ r. same_mind (w.node r); sent = sym (append-nil w.sent) })
    voted index (suc k) q w after at clear how run =
        let mid = how.0 in
        let here = clear q (omega arith) (omega arith) in
        let runs = run_before n (to_each index (suc q) k) mid after (calm_to_each index (suc q) k) how.2 run in
        let acts = deliver_acts n w q index (Propose p i b v) mid at (λ x. x) (runs q here.0) how.1 in
        let told = votes_for q (record (w.node q) { reached = max (w.node q).reached i }) i b v acts.effect here.1 acts.does in
        let mind : (r : ℕ) → SameMind (w.node r) (mid.node r) = for_each n w q (deliver (Propose p i b v)) mid SameMind same_mind acts (mind_over q (max (w.node q).reached i) (w.node q) acts.effect told) in
        let sent : mid.sent ≡ w.sent ++ Accepted q i b v ∷ [] = acts.sent ∙ ap (λ (l : List (To × Message)). w.sent ++ messages_of l) told.out in
        let still : slice_get mid.sent index ≡ Some (Propose p i b v) = subst (λ l. slice_get l index ≡ Some (Propose p i b v)) (sym sent) (get_left w.sent (Accepted q i b v ∷ []) index (Propose p i b v) at) in
        let rest : Voted (suc q) k mid after = voted index k (suc q) mid after still
        (λ r low high.
        let c = clear r (omega (arith, low)) (omega (arith, high)) in
        let apart : r ≢ q = λ e. omega (arith, low, e) in
        (c.0, subst (λ (s : Node). IsClear s.entries i b) (sym (acts.others r apart)) c.1)) how.2 run in
        record {
          mind = λ r. mind_on (w.node r) (mid.node r) (after.node r) (mind r) (rest.mind r);
          sent = rest.sent ∙ ap (λ l. l ++ votes_from v (suc q) k) sent ∙ append_assoc w.sent (Accepted q i b v ∷ []) (votes_from v (suc q) k);
        }

  -- ---- promises

  -- the attempt has the answers of the nodes below q, and no other
  pub record IsWaiting (a : Attempt) (q : ℕ) : Type 0 where
    pub ballot : a.ballot ≡ b
    pub unproposed : a.proposal ≡ None
    pub distinct : Distinct (senders a.answers)
    pub below : (x : ℕ) → In (senders a.answers) x → (1 ≤ x) × (x < q)
    pub many : length (senders a.answers) + 1 ≡ q

  senders_push : (answers : List Answer) (x : Answer) → senders (answers ++ x ∷ []) ≡ senders answers ++ x.sender ∷ []
  senders_push [] x = refl
  senders_push (y ∷ answers) x = ap (λ l. y.sender ∷ l) (senders_push answers x)

  waits_on : (a : Attempt) (q : ℕ) (prior : Option Vote) → 1 ≤ q → IsWaiting a q → IsWaiting (waiting a q prior) (suc q)
  waits_on a q prior some h =
      let e = senders_push a.answers (record { sender = q; prior = prior }) in
      let many = h.many in
      record {
        ballot = h.ballot;
        unproposed = h.unproposed;
        distinct = subst Distinct (sym e) (distinct_push (senders a.answers) q h.distinct (λ k. let r = (h.below q k).1 in omega (arith, r)));
        below = λ x k. ⊎_elim
            (λ m. let r = h.below x m in let high = r.1 in (r.0, omega (arith, high)))
            (λ (m : q ≡ x). (omega (arith, m, some), omega (arith, m)))
            (in_push (senders a.answers) q x (subst (λ l. In l x) e k));
        many = ap (λ (l : List ℕ). length l + 1) e ∙ ap (λ (x : ℕ). x + 1) (length-append (senders a.answers) (q ∷ [])) ∙ (omega (arith, many));
      }

  counts : (a : Attempt) (q : ℕ) → IsWaiting a q → Counts a q b
  counts a q h = (h.ballot, h.unproposed, λ k. let r = (h.below q k).1 in omega (arith, r))

  too_few : (a : Attempt) (q : ℕ) (prior : Option Vote) → 1 ≤ q → q < quorum n → IsWaiting a q → ¬ Majority n (senders (with_answer a q prior))
  too_few a q prior some few h m =
      let enough = m.enough in
      let many = (waits_on a q prior some h).many in
      omega (arith, enough, many, few)

  enough_now : (a : Attempt) (q : ℕ) (prior : Option Vote) → 1 ≤ n → q ≡ quorum n → IsWaiting a q → Majority n (senders (with_answer a q prior))
  enough_now a q prior some is h =
      let now = waits_on a q prior (omega (arith, is)) h in
      let many = now.many in
      record {
        distinct = now.distinct;
        nodes = λ x k. let r = now.below x k in let low = r.0 in let high = r.1 in (low, omega (arith, high, is, some));
        enough = omega (arith, many, is);
      }

  -- an attempt of p proposed, and nothing else changed
  pub record Proposed (w : World) (a : Attempt) (priors : List (Option Vote)) (after : World) : Type 0 where
    pub value : Value
    pub known : (after.node p).known ≡ (w.node p).known
    pub votes : (after.node p).votes ≡ (w.node p).votes
    pub entries : (r : ℕ) → (after.node r).entries ≡ (w.node r).entries
    pub sent : after.sent ≡ w.sent ++ Propose p i b value ∷ []
    pub own : ToldNone a.answers → ((x : Option Vote) → In priors x → x ≡ None) → value ≡ a.own

  inside_attempt : (a c : Attempt) → Some a ≡ Some c → a ≡ c
  inside_attempt a c e = cc

  takes_more : (f after : ℕ → Option Attempt) (a : Attempt) (q : ℕ) (prior : Option Vote) (o : Option Value) → f i ≡ Some a → 1 ≤ q → q < quorum n → IsWaiting a q → TakesPromise n f q i b prior after o
      → (o ≡ None) × (after ≡ put_at f i (Some (waiting a q prior)))
  takes_more f after a q prior None at some few h step =
      ⊎_elim
      (λ x. absurd (x.0 a at (counts a q h)))
      (λ x. (refl, x.4 ∙ ap (λ c. put_at f i (Some (waiting c q prior))) (inside_attempt x.0 a (sym x.1 ∙ at))))
      step
  takes_more f after a q prior (Some v) at some few h step =
      absurd (too_few a q prior some few h (subst (λ c. Majority n (senders (with_answer c q prior))) (inside_attempt step.0 a (sym step.1 ∙ at)) step.3))

  takes_last : (f after : ℕ → Option Attempt) (a : Attempt) (q : ℕ) (prior : Option Vote) (o : Option Value) → f i ≡ Some a → 1 ≤ n → q ≡ quorum n → IsWaiting a q → TakesPromise n f q i b prior after o
      → (v : Value) × (o ≡ Some v) × Chooses a.own (with_answer a q prior) v
  takes_last f after a q prior None at some is h step =
      ⊎_elim
      (λ x. absurd (x.0 a at (counts a q h)))
      (λ x. absurd (x.3 (subst (λ c. Majority n (senders (with_answer c q prior))) (sym (inside_attempt x.0 a (sym x.1 ∙ at))) (enough_now a q prior some is h))))
      step
  takes_last f after a q prior (Some v) at some is h step = (v, refl, subst (λ (c : Attempt). Chooses c.own (with_answer c q prior) v) (inside_attempt step.0 a (sym step.1 ∙ at)) step.4)

  told_none_more : (a : Attempt) (q : ℕ) (prior : Option Vote) → ToldNone a.answers → prior ≡ None → ToldNone (with_answer a q prior)
  told_none_more a q prior none is x k =
      ⊎_elim (λ m. none x m) (λ (e : record { sender = q; prior = prior } ≡ x). ap (λ (y : Answer). y.prior) (sym e) ∙ is) (in_push a.answers (record { sender = q; prior = prior }) x k)

  no_vote : (x : Vote) → ◌≡◌ {A = Option Vote} None (Some x) → ⊥
  no_vote x e = cc

  own_chosen : (own : Value) (answers : List Answer) (v : Value) → ToldNone answers → Chooses own answers v → v ≡ own
  own_chosen own answers v none how =
      ⊎_elim (λ x. x.1) (λ (x : Highest answers v). absurd (no_vote (record { ballot = x.1; value = v }) (sym (none x.0 x.2) ∙ x.3))) how

  -- what a delivered promise leaves as it was
  pub record Promised (w : World) (after : World) : Type 0 where
    pub known : (after.node p).known ≡ (w.node p).known
    pub votes : (after.node p).votes ≡ (w.node p).votes
    pub entries : (r : ℕ) → (after.node r).entries ≡ (w.node r).entries

  promised_by : (w after : World) (q : ℕ) (prior : Option Vote) (acts : Acts n w p (deliver (Promise q i b prior)) after) → Promised w after
  promised_by w after q prior acts = record {
    known = ap (λ (x : Node). x.known) acts.at ∙ ap (λ (x : Effect). x.after.known) acts.does.is;
    votes = ap (λ (x : Node). x.votes) acts.at ∙ ap (λ (x : Effect). x.after.votes) acts.does.is;
    entries = for_each n w p (deliver (Promise q i b prior)) after (λ s t. t.entries ≡ s.entries) (λ s. refl) acts (ap (λ (x : Effect). with_entry (w.node p).entries x.entry) acts.does.is);
  }

  pub proposed : (priors : List (Option Vote)) (index q : ℕ) (a : Attempt) (w after : World) → IsNode n p → 1 ≤ n → 1 ≤ q → q ≤ quorum n → q + length priors ≡ quorum n + 1 → (w.node p).attempts i ≡ Some a → IsWaiting a q
      → Stand w.sent index (promises_from q i b priors) → TakesAll n w (each_to p index (length priors)) after → AllRun n after → Proposed w a priors after
  proposed [] index q a w after node some first low many at h stand how run = absurd (omega (arith, low, many))
  proposed (prior ∷ []) index q a w after node some first low many at h stand how run =
      let mid = how.0 in
      let up = subst (λ (x : World). (x.node p).mode ≡ Up) how.2 (run p node) in
      let acts = deliver_acts n w p index (Promise q i b prior) mid stand.0 (λ x. x) up how.1 in
      let does = acts.does in
      let last = takes_last (w.node p).attempts does.attempts a q prior does.proposed at some (omega (arith, many)) h does.step in
      let kept = promised_by w mid q prior acts in
      subst (λ x. Proposed w a (prior ∷ []) x) (sym how.2) (record {
        value = last.0;
        known = kept.known;
        votes = kept.votes;
        entries = kept.entries;
        sent = acts.sent ∙ ap (λ (x : Effect). w.sent ++ messages_of x.out) does.is ∙ ap (λ o. w.sent ++ messages_of (promise_out p i b o)) last.1;
        own = λ none priors_none. own_chosen a.own (with_answer a q prior) last.0 (told_none_more a q prior none (priors_none prior (inl refl))) last.2;
      })
  proposed (prior ∷ other ∷ rest) index q a w after node some first low many at h stand how run =
      let mid = how.0 in
      let runs = run_before n (each_to p (suc index) (length (other ∷ rest))) mid after (calm_each_to p (suc index) (length (other ∷ rest))) how.2 run in
      let acts = deliver_acts n w p index (Promise q i b prior) mid stand.0 (λ x. x) (runs p node) how.1 in
      let does = acts.does in
      let more = takes_more (w.node p).attempts does.attempts a q prior does.proposed at first (omega (arith, many)) h does.step in
      let kept = promised_by w mid q prior acts in
      let sent : mid.sent ≡ w.sent = acts.sent ∙ ap (λ (x : Effect). w.sent ++ messages_of x.out) does.is ∙ ap (λ o. w.sent ++ messages_of (promise_out p i b o)) more.0 ∙ append-nil w.sent in
      let now : (mid.node p).attempts i ≡ Some (waiting a q prior) =
      ap (λ (x : Node). x.attempts i) acts.at ∙ ap (λ (x : Effect). x.after.attempts i) does.is ∙ ap (λ (f : ℕ → Option Attempt). f i) more.1 ∙ put_here (w.node p).attempts i (Some (waiting a q prior)) i refl in
      let on : Proposed mid (waiting a q prior) (other ∷ rest) after = proposed (other ∷ rest) (suc index) (suc q) (waiting a q prior) mid after node some (omega arith) (omega (arith, many)) (omega (arith, many)) now (waits_on a q prior first h)
      (subst (λ l. Stand l (suc index) (promises_from (suc q) i b (other ∷ rest))) (sym sent) stand.1) how.2 run in
      record {
        value = on.value;
        known = on.known ∙ kept.known;
        votes = on.votes ∙ kept.votes;
        entries = λ r. on.entries r ∙ kept.entries r;
        sent = on.sent ∙ ap (λ l. l ++ Propose p i b on.value ∷ []) sent;
        own = λ none priors_none. on.own (told_none_more a q prior none (priors_none prior (inl refl))) (λ x k. priors_none x (inr k));
      }

  -- ---- votes

  module _ (v : Value) where
    -- the node does not know the instance. Nodes below q reported their votes, which are no majority yet
    pub record IsUnsure (s : Node) (q : ℕ) : Type 0 where
      pub unknown : s.known i ≡ None
      pub told : (x : ℕ) → 1 ≤ x → x < q → In s.votes (told_vote x i b v)
      pub few : 1 < q → ¬ HasMajority n (In s.votes) i b v

    -- the node knows v, or is unsure
    abbrev pub Seen : Node → ℕ → Type 0
    Seen s q = (s.known i ≡ Some v) ⊎ IsUnsure s q

    no_known : (u : Value) → ◌≡◌ {A = Option Value} None (Some u) → ⊥
    no_known u e = cc

    last_or : (x q : ℕ) → x < suc q → (x < q) ⊎ (q ≡ x)
    last_or x q h = grind arith

    sees : (s : Node) (q : ℕ) (effect : Effect) → 1 ≤ q → OnAccepted n s q i b v effect → Seen s q → Seen (recorded s effect) (suc q)
    sees s q effect first (inl how) (inl known) = absurd (no_known v (sym how.0 ∙ known))
    sees s q effect first (inl how) (inr unsure) =
        ⊎_elim
        (λ (x : (¬ HasMajority n (In (with_vote s (told_vote q i b v)).votes) i b v) × (effect ≡ quiet (with_vote s (told_vote q i b v)))).
        subst (λ e. Seen (recorded s e) (suc q)) (sym x.1) (inr (record {
          unknown = unsure.unknown;
          told = λ y low high. ⊎_elim (λ below. inr (unsure.told y low below)) (λ (e : q ≡ y). inl (ap (λ z. told_vote z i b v) e)) (last_or y q high);
          few = λ _. x.0;
        })))
        (λ (x : HasMajority n (In (with_vote s (told_vote q i b v)).votes) i b v × (effect ≡ quiet (learned (with_vote s (told_vote q i b v)) i v))).
        subst (λ e. Seen (recorded s e) (suc q)) (sym x.1) (inl (put_here s.known i (Some v) i refl)))
        how.1
    sees s q effect first (inr how) (inl known) = subst (λ e. Seen (recorded s e) (suc q)) (sym how.1) (inl known)
    sees s q effect first (inr how) (inr unsure) = absurd (no_known how.0.0 (sym unsure.unknown ∙ how.0.1))

    seen_still : (s : Node) (q r : ℕ) → Seen s q → Seen (record s { reached = r }) q
    seen_still s q r seen = ⊎_elim (λ x. inl x) (λ (x : IsUnsure s q). inr (record { unknown = x.unknown; told = x.told; few = x.few })) seen

    pub learns : (k index q : ℕ) (w after : World) → IsNode n p → 1 ≤ n → 1 ≤ q → q + k ≡ quorum n + 1 → Seen (w.node p) q → Stand w.sent index (votes_from v q k) → TakesAll n w (each_to p index k) after → AllRun n after
        → (after.node p).known i ≡ Some v
    learns zero index q w after node some first many (inl known) stand how run = subst (λ (x : World). (x.node p).known i ≡ Some v) (sym how) known
    learns zero index q w after node some first many (inr unsure) stand how run =
        absurd (unsure.few (omega (arith, many)) (nodes_from 1 (quorum n), quorum_majority n some, λ x k. let r = among 1 (quorum n) x k in let high = r.1 in unsure.told x r.0 (omega (arith, high, many))))
    learns (suc k) index q w after node some first many seen stand how run =
        let mid = how.0 in
        let runs = run_before n (each_to p (suc index) k) mid after (calm_each_to p (suc index) k) how.2 run in
        let acts = deliver_acts n w p index (Accepted q i b v) mid stand.0 (λ x. x) (runs p node) how.1 in
        let now = sees (record (w.node p) { reached = max (w.node p).reached i }) q acts.effect first acts.does (seen_still (w.node p) q (max (w.node p).reached i) seen) in
        let still : Stand mid.sent (suc index) (votes_from v (suc q) k) = subst (λ l. Stand l (suc index) (votes_from v (suc q) k)) (sym acts.sent) (stand_left w.sent (messages_of acts.effect.out) (suc index) (votes_from v (suc q) k) stand.1) in
        learns k (suc index) (suc q) mid after node some (omega arith) (omega (arith, many)) (subst (λ (s : Node). Seen s (suc q)) (sym acts.at) now) still how.2 run
