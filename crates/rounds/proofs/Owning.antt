-- What becomes of a server's attempt in a step: it stands, it proposes, its instance is known, or a higher
-- one takes its place.
use Rattle.std.proofs.Common.{◌≡◌, ◌≢◌, ◌⊎◌, inl, inr, ⊎_elim, ℕ, suc, max, ◌+◌, ◌<◌, ◌≤◌, Option, Some, None}
use Rattle.std.proofs.Common.{List}
use Rattle.std.proofs.Common.{[], ◌∷◌, ◌++◌, length, refl, sym, ap, subst, ◌∙◌, arith}
use Rattle.std.specs.Prelude.{⊤}
use Rattle.site_ids.specs.Ids.{BallotOf, Below, IsNode}
use Rattle.site_ids.specs.Lists.{In, Distinct, put_at}
use Rattle.site_ids.specs.Majorities.{Majority}
use Rattle.site_ids.specs.Spans.{IsInSpan}
use Rattle.site_ids.specs.declared.value.Vote.{Vote}
use Rattle.site_ids.proofs.MapLemmas.{put_here, put_other}
use Rattle.site_ids.proofs.MemberLemmas.{in_left, in_right, in_push, distinct_push}
use Rattle.wire.specs.declared.message.Message.{Message}
use Rattle.wire.specs.declared.message.Message.TheVariants.{Prepare, Promise, Propose, Accepted, Nack, Ask}
use Rattle.wire.specs.declared.message.Message.TheVariants.{Chosen}
use Rattle.wire.specs.Messages.{IsMessage}
use Rattle.durable.specs.Entries.{last_round}
use Rattle.learner.specs.ToldVotes.{told_vote, HasMajority}
use Rattle.proposer.specs.Attempts.{Answer, Attempt, senders, Counts, with_answer, waiting, proposing}
use Rattle.proposer.specs.Attempts.{TakesPromise, opened, opened_span}
use Rattle.node.specs.declared.to.To.{To}
use Rattle.node.specs.declared.to.To.TheVariants.{One, All}
use Rattle.node.specs.Nodes.{Value, Node, IsKnown, IsUnknown, IsMute}
use Rattle.node.specs.Effects.{Effect, quiet, says, learned}
use Rattle.node.specs.Calls.{Call, submit, tick, widen, ask, tell, deliver, keep, Does, Ticks, AsksInstead}
use Rattle.node.specs.Calls.{Begins}
use Rattle.node.specs.Calls.{MayWiden, KeepsOne, MayKeep, fresh_ballot, oldest, queued}
use Rattle.node.specs.Deliveries.{OnPrepare, OnPropose, OnPromise, Counted, with_vote, ByKind, promise_out}
use Rattle.node.specs.Deliveries.{reached_by}
use Rattle.node.specs.Endings.{Whole, EndsWhole}
use Rattle.node.specs.Tickets.{IsCommand, IsHeld}
use Rattle.node.proofs.Knowing.{known_stays}
use Rattle.rounds.proofs.Promising.{senders_push, in_or_not, inside_attempt}

no_attempt : (a : Attempt) → ◌≡◌ {A = Option Attempt} None (Some a) → ⊥
no_attempt a e = cc

equal_or : (j k : ℕ) → (j ≡ k) ⊎ (j ≢ k)
equal_or j k = grind arith

-- attempts that begin elsewhere
pub span_other : (b : BallotOf) (vs : List Value) (f : ℕ → Option Attempt) (i j : ℕ)
    → ¬ IsInSpan j (length vs) i
    → opened_span f j b vs i ≡ f i
span_other b [] f i j outside = refl
span_other b (v ∷ vs) f i j outside = span_other b vs (put_at f j (Some (opened b v))) i (suc j)
    (λ within. let low = within.0 in let high = within.1 in outside (omega (arith, low), omega (arith, high)))
    ∙ put_other f j (Some (opened b v)) i (λ e. outside (omega (arith, e), omega (arith, e)))

-- ---- answers

abbrev pub any_answers : List Answer → Type 0
any_answers all = ⊤

-- node r's is one of them
abbrev pub Has : ℕ → List Answer → Type 0
Has r all = In (senders all) r

pub any_grow : (all : List Answer) (x : Answer) → any_answers all → any_answers (all ++ x ∷ [])
any_grow all x h = tt

pub has_grow : (r : ℕ) (all : List Answer) (x : Answer) → Has r all → Has r (all ++ x ∷ [])
has_grow r all x h = subst (λ l. In l r) (sym (senders_push all x)) (in_left (senders all) (x.sender ∷ []) r
    h)

-- ---- an attempt

module _ (n p i : ℕ) (b : BallotOf) where
  -- an attempt at this ballot that waits: too few nodes answered it
  pub record IsAsking (a : Attempt) : Type 0 where
    pub ballot : a.ballot ≡ b
    pub unmade : a.proposal ≡ None
    pub few : ¬ Majority n (senders a.answers)
    pub nodes : (x : ℕ) → In (senders a.answers) x → IsNode n x
    pub distinct : Distinct (senders a.answers)

  abbrev pub Knows : Node → Type 0
  Knows s = (u : Value) × (s.known i ≡ Some u)

  -- it proposed
  abbrev pub Says : List (To × Message) → Type 0
  Says l = (v : Value) × In l (All, Propose p i b v)

  -- it began a higher one
  abbrev pub Bids : List (To × Message) → Type 0
  Bids l = (c : BallotOf) × Below b c × In l (All, Prepare p i c 1)

  module _ (P : List Answer → Type 0) (grows : (all : List Answer) (x : Answer) → P all
      → P (all ++ x ∷ [])) where
    -- it waits, with such answers
    abbrev Waits : Node → Type 0
    Waits s = (a : Attempt) × (s.attempts i ≡ Some a) × IsAsking a × P a.answers

    abbrev pub Stands : Node → List (To × Message) → Type 0
    Stands s l = Knows s ⊎ (Says l ⊎ (Bids l ⊎ Waits s))

    abbrev After : Effect → Type 0
    After effect = Knows effect.after ⊎ (Says effect.out ⊎ (Bids effect.out ⊎ Waits effect.after))

    same_after : (s t : Node) (effect : Effect) → effect.after ≡ t → t.attempts i ≡ s.attempts i → Waits s
        → After effect
    same_after s t effect is same waits = inr (inr (inr (
      waits.0,
      ap (λ (x : Node). x.attempts i) is ∙ same ∙ waits.1,
      waits.2,
      waits.3,
    )))

    learned_after : (s : Node) (j : ℕ) (u : Value) (effect : Effect) → effect.after ≡ learned s j u → Waits s
        → After effect
    learned_after s j u effect is waits =
        ⊎_elim
        (λ (e : i ≡ j). inl (u, ap (λ (x : Node). x.known i) is ∙ put_here s.known j (Some u) i e))
        (λ (apart : i ≢ j). same_after s (learned s j u) effect is (put_other s.attempts j None i apart)
        waits)
        (equal_or i j)

    -- ---- a promise

    pushed : (a : Attempt) (r : ℕ) (prior : Option Vote)
        → senders (with_answer a r prior) ≡ senders a.answers ++ r ∷ []
    pushed a r prior = senders_push a.answers (record { sender = r; prior = prior })

    asking_more : (a : Attempt) (r : ℕ) (prior : Option Vote) → IsNode n r → IsAsking a → Counts a r b
        → ¬ Majority n (senders (with_answer a r prior)) → IsAsking (waiting a r prior)
    asking_more a r prior node h counts few = record {
      ballot = h.ballot;
      unmade = h.unmade;
      few = few;
      nodes = λ x k. ⊎_elim (λ m. h.nodes x m) (λ (e : r ≡ x). subst (IsNode n) e node)
          (in_push (senders a.answers) r x (subst (λ l. In l x) (pushed a r prior) k));
      distinct = subst Distinct (sym (pushed a r prior))
          (distinct_push (senders a.answers) r h.distinct counts.2);
    }

    -- node r's promise at the instance and ballot is among the answers then, or it proposes
    taken : (r : ℕ) (prior : Option Vote) (f after : ℕ → Option Attempt) (o : Option Value) (a : Attempt)
        → IsNode n r → f i ≡ Some a → IsAsking a → P a.answers → TakesPromise n f r i b prior after o
        → ((v : Value) × (o ≡ Some v))
        ⊎ ((c : Attempt) × (after i ≡ Some c) × IsAsking c × P c.answers × In (senders c.answers) r)
    taken r prior f after None a node at h such how =
        ⊎_elim
        (λ (x : ((c : Attempt) → f i ≡ Some c → ¬ Counts c r b) × (after ≡ f)). inr (
          a,
          ap (λ (g : ℕ → Option Attempt). g i) x.1 ∙ at,
          h,
          such,
          ⊎_elim (λ (k : In (senders a.answers) r). k)
              (λ (apart : ¬ In (senders a.answers) r). absurd (x.0 a at (h.ballot, h.unmade, apart)))
              (in_or_not (senders a.answers) r),
        ))
        (λ x.
        let e : x.0 ≡ a = inside_attempt x.0 a (sym x.1 ∙ at) in
        let counts : Counts a r b = subst (λ c. Counts c r b) e x.2 in
        let few : ¬ Majority n (senders (with_answer a r prior))
        = subst (λ c. ¬ Majority n (senders (with_answer c r prior))) e x.3 in
        inr (
          waiting a r prior,
          ap (λ (g : ℕ → Option Attempt). g i) x.4 ∙ put_here f i (Some (waiting x.0 r prior)) i refl
              ∙ ap (λ c. Some (waiting c r prior)) e,
          asking_more a r prior node h counts few,
          grows a.answers (record { sender = r; prior = prior }) such,
          subst (λ l. In l r) (sym (pushed a r prior)) (in_right (senders a.answers) (r ∷ []) r (inl refl)),
        ))
        how
    taken r prior f after (Some v) a node at h such how = inl (v, refl)

    promise_other : (f after : ℕ → Option Attempt) (r j : ℕ) (c : BallotOf) (prior : Option Vote)
        (o : Option Value) → i ≢ j → TakesPromise n f r j c prior after o → after i ≡ f i
    promise_other f after r j c prior None apart how =
        ⊎_elim
        (λ x. ap (λ (g : ℕ → Option Attempt). g i) x.1)
        (λ x. ap (λ (g : ℕ → Option Attempt). g i) x.4 ∙ put_other f j (Some (waiting x.0 r prior)) i apart)
        how
    promise_other f after r j c prior (Some v) apart how = ap (λ (g : ℕ → Option Attempt). g i) how.5
        ∙ put_other f j (Some (proposing how.0 r prior v)) i apart

    -- a promise at another ballot counts for no attempt at this one
    promise_late : (f after : ℕ → Option Attempt) (r : ℕ) (c : BallotOf) (prior : Option Vote)
        (o : Option Value) (a : Attempt) → f i ≡ Some a → IsAsking a → TakesPromise n f r i c prior after o
        → (c ≡ b) ⊎ (after i ≡ f i)
    promise_late f after r c prior None a at h how =
        ⊎_elim
        (λ x. inr (ap (λ (g : ℕ → Option Attempt). g i) x.1))
        (λ x. inl (sym x.2.0 ∙ ap (λ (y : Attempt). y.ballot) (inside_attempt x.0 a (sym x.1 ∙ at))
        ∙ h.ballot))
        how
    promise_late f after r c prior (Some v) a at h how = inl (sym how.2.0
        ∙ ap (λ (y : Attempt). y.ballot) (inside_attempt how.0 a (sym how.1 ∙ at)) ∙ h.ballot)

    -- a promise at this instance and ballot, with the answer
    on_this : (s : Node) (r : ℕ) (prior : Option Vote) (effect : Effect) → IsNode n r → Waits s
        → OnPromise n p s r i b prior effect
        → Says effect.out ⊎ ((a : Attempt) × (effect.after.attempts i ≡ Some a) × IsAsking a × P a.answers
        × In (senders a.answers) r)
    on_this s r prior effect node waits how =
        ⊎_elim
        (λ (x : (v : Value) × (how.proposed ≡ Some v)). inl (
          x.0,
          subst (λ l. In l (All, Propose p i b x.0))
              (sym (ap (λ (y : Effect). y.out) how.is ∙ ap (λ o. promise_out p i b o) x.1)) (inl refl),
        ))
        (λ x. inr (x.0, ap (λ (y : Effect). y.after.attempts i) how.is ∙ x.1, x.2, x.3, x.4))
        (taken r prior s.attempts how.attempts how.proposed waits.0 node waits.1 waits.2 waits.3 how.step)

    on_promise : (s : Node) (r j : ℕ) (c : BallotOf) (prior : Option Vote) (effect : Effect) → IsNode n r
        → Waits s → OnPromise n p s r j c prior effect → After effect
    on_promise s r j c prior effect node waits how =
        let other : how.attempts i ≡ s.attempts i → After effect = λ same.
        same_after s (record s { attempts = how.attempts }) effect (ap (λ (y : Effect). y.after) how.is) same
        waits in
        ⊎_elim
        (λ (e : i ≡ j).
        let step = subst (λ k. TakesPromise n s.attempts r k c prior how.attempts how.proposed) (sym e)
        how.step in
        ⊎_elim
        (λ (same : c ≡ b).
        let here : OnPromise n p s r i b prior effect = subst (λ x. OnPromise n p s r i x prior effect) same
        (subst (λ k. OnPromise n p s r k c prior effect) (sym e) how) in
        ⊎_elim (λ said. inr (inl said)) (λ x. inr (inr (inr (x.0, x.1, x.2, x.3))))
        (on_this s r prior effect node waits here))
        (λ same. other same)
        (promise_late s.attempts how.attempts r c prior how.proposed waits.0 waits.1 waits.2 step))
        (λ (apart : i ≢ j). other (promise_other s.attempts how.attempts r j c prior how.proposed apart
        how.step))
        (equal_or i j)

    -- ---- any message

    on_message : (s : Node) (m : Message) (effect : Effect) → IsMessage n m → Waits s → ByKind n p s m effect
        → After effect
    on_message s (Prepare x j c k) effect is waits how =
        ⊎_elim
        (λ (y : IsMute s j × (effect ≡ quiet s)). same_after s s effect (ap (λ (z : Effect). z.after) y.1)
        refl
        waits)
        (λ (y : (¬ IsMute s j) × OnPrepare p s j c k effect). same_after s s effect
        (ap (λ (z : Effect). z.after) y.1.is) refl waits)
        how
    on_message s (Promise x j c prior) effect is waits how = on_promise s x j c prior effect is.sender waits
        how
    on_message s (Propose x j c u) effect is waits how =
        ⊎_elim
        (λ (y : IsMute s j × (effect ≡ quiet s)). same_after s s effect (ap (λ (z : Effect). z.after) y.1)
        refl
        waits)
        (λ (y : (¬ IsMute s j) × OnPropose p s j c u effect). same_after s s effect
        (ap (λ (z : Effect). z.after) y.1.is) refl waits)
        how
    on_message s (Accepted x j c u) effect is waits how =
        let t = told_vote x j c u in
        ⊎_elim
        (λ (y : IsUnknown s j × Counted n (with_vote s t) j c u effect).
        ⊎_elim
        (λ (few : (¬ HasMajority n (In (with_vote s t).votes) j c u) × (effect ≡ quiet (with_vote s t))).
        same_after s (with_vote s t) effect (ap (λ (z : Effect). z.after) few.1) refl waits)
        (λ (many : HasMajority n (In (with_vote s t).votes) j c u
        × (effect ≡ quiet (learned (with_vote s t) j u))).
        learned_after (with_vote s t) j u effect (ap (λ (z : Effect). z.after) many.1) waits)
        y.1)
        (λ (y : IsKnown s j × (effect ≡ quiet s)). same_after s s effect (ap (λ (z : Effect). z.after) y.1)
        refl
        waits)
        how
    on_message s (Nack x j c d) effect is waits how = same_after s (record s { heard = max s.heard d.round })
        effect (ap (λ (z : Effect). z.after) how) refl waits
    on_message s (Ask x j) effect is waits how =
        ⊎_elim
        (λ (y : (u : Value) × (s.known j ≡ Some u) × (effect ≡ says s (One x) (Chosen p j u))). same_after s s
        effect (ap (λ (z : Effect). z.after) y.2) refl waits)
        (λ (y : IsUnknown s j × (effect ≡ quiet s)). same_after s s effect (ap (λ (z : Effect). z.after) y.1)
        refl waits)
        how
    on_message s (Chosen x j u) effect is waits how =
        ⊎_elim
        (λ (y : IsUnknown s j × (effect ≡ quiet (learned s j u))). learned_after s j u effect
        (ap (λ (z : Effect). z.after) y.1) waits)
        (λ (y : (s.known j ≡ Some u) × (effect ≡ quiet s)). same_after s s effect
        (ap (λ (z : Effect). z.after) y.1) refl waits)
        how

    -- ---- any call

    on_tick : (s : Node) (effect : Effect) → b.round ≤ last_round s.entries → Waits s → Ticks p s effect
        → After effect
    on_tick s effect low waits how =
        ⊎_elim
        (λ (e : i ≡ how.instance). inr (inr (inl (
          fresh_ballot p s,
          inl (above b.round (last_round s.entries) s.heard low),
          subst (λ l. In l (All, Prepare p i (fresh_ballot p s) 1)) (sym (ap (λ (y : Effect). y.out) how.is))
              (inl (ap (λ k. (All, Prepare p k (fresh_ballot p s) 1)) (sym e))),
        ))))
        (λ (apart : i ≢ how.instance). inr (inr (inr (
          waits.0,
          ap (λ (y : Effect). y.after.attempts i) how.is
              ∙ put_other s.attempts how.instance (Some (opened (fresh_ballot p s) (oldest s.pending))) i
              apart
              ∙ waits.1,
          waits.2,
          waits.3,
        ))))
        (equal_or i how.instance)
      where
        above : (r last heard : ℕ) → r ≤ last → r < suc (max last heard)
        above r last heard low = omega (arith, low)

    on_begin : (s : Node) (effect : Effect) → Waits s → Begins p s effect → After effect
    on_begin s effect waits how =
        let outside : ¬ IsInSpan how.instance (length how.values) i = λ within.
        no_attempt waits.0 (sym (how.span.free i within).untried ∙ waits.1) in
        inr (inr (inr (
          waits.0,
          ap (λ (y : Effect). y.after.attempts i) how.is
              ∙ span_other (fresh_ballot p s) how.values s.attempts i how.instance outside ∙ waits.1,
          waits.2,
          waits.3,
        )))

    on_call : (s : Node) (call : Call) (effect : Effect) → ((m : Message) → call ≡ deliver m → IsMessage n m)
        → b.round ≤ last_round s.entries → Waits s → Does n p s call effect → After effect
    on_call s (submit v) effect is low waits does =
        ⊎_elim
        (λ (x : IsCommand v × IsHeld s v × (effect ≡ quiet s)). same_after s s effect
        (ap (λ (z : Effect). z.after) x.2) refl waits)
        (λ x. same_after s (queued s v) effect (ap (λ (z : Effect). z.after) x.3) refl waits)
        does
    on_call s tick effect is low waits does =
        ⊎_elim
        (λ (x : Ticks p s effect). on_tick s effect low waits x)
        (λ (x : AsksInstead p s effect). same_after s s effect (ap (λ (z : Effect). z.after) x.asks.is) refl
        waits)
        does
    on_call s widen effect is low waits does =
        ⊎_elim
        (λ (x : Begins p s effect). on_begin s effect waits x)
        (λ (x : (¬ MayWiden s) × (effect ≡ quiet s)). same_after s s effect (ap (λ (z : Effect). z.after) x.1)
        refl waits)
        does
    on_call s ask effect is low waits does = same_after s s effect (ap (λ (z : Effect). z.after) does.is) refl
        waits
    on_call s (tell to j) effect is low waits does = same_after s s effect (ap (λ (z : Effect). z.after) does)
        refl waits
    on_call s (deliver m) effect is low waits does = on_message (record s {
      reached = reached_by s.reached m;
    }) m
        effect (is m refl) waits does
    on_call s (keep j) effect is low waits does =
        ⊎_elim
        (λ (x : KeepsOne s j effect). same_after s s effect (ap (λ (z : Effect). z.after) x.is) refl waits)
        (λ (x : (¬ MayKeep s j) × (effect ≡ quiet s)). same_after s s effect (ap (λ (z : Effect). z.after)
        x.1)
        refl waits)
        does

    -- so it goes on
    pub stands_on : (s t : Node) (before out : List (To × Message)) (call : Call)
        → ((m : Message) → call ≡ deliver m → IsMessage n m)
        → ((a : Attempt) → s.attempts i ≡ Some a → a.ballot.round ≤ last_round s.entries)
        → Stands s before → EndsWhole n p s call out t → Stands t (before ++ out)
    stands_on s t before out call is low stands ends =
        ⊎_elim
        (λ (x : Knows s). inl (x.0, known_stays n p s t call Whole out ends i x.0 x.1))
        (λ y. ⊎_elim
        (λ (x : Says before). inr (inl (x.0, in_left before out (All, Propose p i b x.0) x.1)))
        (λ z. ⊎_elim
        (λ (x : Bids before). inr (inr (inl (x.0, x.1, in_left before out (All, Prepare p i x.0 1) x.2))))
        (λ (x : Waits s).
        let round : b.round ≤ last_round s.entries = subst (λ (c : BallotOf). c.round ≤ last_round s.entries)
        x.2.ballot (low x.0 x.1) in
        after_out (on_call s call ends.effect is round x ends.does))
        z)
        y)
        stands
      where
        after_out : After ends.effect → Stands t (before ++ out)
        after_out a =
            ⊎_elim
            (λ (x : Knows ends.effect.after). inl (x.0, ap (λ (u : Node). u.known i) ends.node ∙ x.1))
            (λ y. ⊎_elim
            (λ (x : Says ends.effect.out). inr (inl (
              x.0,
              in_right before out (All, Propose p i b x.0)
                  (subst (λ l. In l (All, Propose p i b x.0)) (sym ends.handed_out) x.1),
            )))
            (λ z. ⊎_elim
            (λ (x : Bids ends.effect.out). inr (inr (inl (
              x.0,
              x.1,
              in_right before out (All, Prepare p i x.0 1)
                  (subst (λ l. In l (All, Prepare p i x.0 1)) (sym ends.handed_out) x.2),
            ))))
            (λ (x : Waits ends.effect.after). inr (inr (inr (
              x.0,
              ap (λ (u : Node). u.attempts i) ends.node ∙ x.1,
              x.2,
              x.3,
            ))))
            z)
            y)
            a

  -- ---- the promise of node r

  -- it is among the answers then, or something else became of the attempt
  pub promise_heard : (r : ℕ) (prior : Option Vote) (s t : Node) (before out : List (To × Message))
      → IsNode n r → Stands any_answers any_grow s before → EndsWhole n p s (deliver (Promise r i b prior))
      out t
      → Stands (Has r) (has_grow r) t (before ++ out)
  promise_heard r prior s t before out node stands ends =
      ⊎_elim
      (λ (x : Knows s). inl (
        x.0,
        known_stays n p s t (deliver (Promise r i b prior)) Whole out ends i x.0
            x.1,
      ))
      (λ y. ⊎_elim
      (λ (x : Says before). inr (inl (x.0, in_left before out (All, Propose p i b x.0) x.1)))
      (λ z. ⊎_elim
      (λ (x : Bids before). inr (inr (inl (x.0, x.1, in_left before out (All, Prepare p i x.0 1) x.2))))
      (λ waits.
      ⊎_elim
      (λ (x : Says ends.effect.out). inr (inl (
        x.0,
        in_right before out (All, Propose p i b x.0)
            (subst (λ l. In l (All, Propose p i b x.0)) (sym ends.handed_out) x.1),
      )))
      (λ x. inr (inr (inr (x.0, ap (λ (u : Node). u.attempts i) ends.node ∙ x.1, x.2, x.4))))
      (on_this any_answers any_grow (record s { reached = max s.reached i }) r prior ends.effect node waits
      ends.does))
      z)
      y)
      stands
