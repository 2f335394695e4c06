-- An attempt that nobody overbids decides in four rounds.
use Rattle.std.proofs.Common.{◌≡◌, ◌⊎◌, inl, inr, ⊎_elim, ℕ, ◌≤◌, Option, Some, None, List, []}
use Rattle.std.proofs.Common.{◌∷◌, ◌++◌}
use Rattle.std.proofs.Common.{refl, sym, ap, subst, ◌∙◌, arith}
use Rattle.site_ids.specs.Ids.{BallotOf, IsNode}
use Rattle.site_ids.specs.Lists.{In}
use Rattle.site_ids.specs.Majorities.{Majority}
use Rattle.site_ids.specs.declared.value.Vote.{Vote}
use Rattle.site_ids.proofs.MajorityLemmas.{all_are_many}
use Rattle.site_ids.proofs.MemberLemmas.{distinct_within, in_right}
use Rattle.wire.specs.declared.message.Message.{Message}
use Rattle.wire.specs.declared.message.Message.TheVariants.{Prepare, Promise, Propose}
use Rattle.wire.specs.Decoding.{Spells}
use Rattle.wire.specs.Messages.{IsMessage}
use Rattle.wire.specs.Spelling.{spelled}
use Rattle.durable.specs.Entries.{Voted, last_round, floor_of}
use Rattle.proposer.specs.Attempts.{Attempt, senders}
use Rattle.node.specs.declared.to.To.{To}
use Rattle.node.specs.declared.to.To.TheVariants.{One, All}
use Rattle.node.specs.Nodes.{Value, Node}
use Rattle.node.specs.Calls.{Call, deliver}
use Rattle.node.specs.Endings.{EndsWhole}
use Rattle.world.specs.declared.event.Event.{Event}
use Rattle.world.specs.Agreement.{WasLost}
use Rattle.world.specs.Batches.{CallsAreEvents, SealedIsARun}
use Rattle.world.specs.Worlds.{World, Runs, start}
use Rattle.world.proofs.Growing.{runs_on, sound, IsGiven}
use Rattle.world.proofs.Invariant.{IsSound}
use Rattle.world.proofs.Lists.{number_itself}
use Rattle.world.proofs.Order.{below_not_above}
use Rattle.rounds.specs.Rounds.{Server, Group, Steps, IsRound, AreRounds}
use Rattle.rounds.specs.Agreeing.{IsLedTo, GoesOn}
use Rattle.rounds.specs.Proposing.{IsProposed, IsAttempted, NobodyOverbids, AttemptDecides}
use Rattle.rounds.specs.Proposing.{NobodyPromisedAbove}
use Rattle.rounds.proofs.Arriving.{waits_for, in_first}
use Rattle.rounds.proofs.Attending.{promised, step_floor, step_below}
use Rattle.rounds.proofs.Awaiting.{IsAwaiting}
use Rattle.rounds.proofs.Calling.{all_called}
use Rattle.rounds.proofs.Delivering.{all_taken, brought}
use Rattle.rounds.proofs.Keeping.{rounds_keep}
use Rattle.rounds.proofs.Ordering.{are_orderly}
use Rattle.rounds.proofs.Owning.{IsAsking, Knows, Says, Bids, Stands, stands_on, any_answers, any_grow, Has}
use Rattle.rounds.proofs.Owning.{has_grow, promise_heard}
use Rattle.rounds.proofs.Promising.{all_or, inside_attempt}
use Rattle.rounds.proofs.Proposing.{proposal_decides}
use Rattle.rounds.proofs.Scheduling.{IsLed, MayCall, may_call, none_led, one_more, rounds_go, round_says}
use Rattle.rounds.proofs.Telling.{stays_told}
use Rattle.rounds.proofs.Voting.{IsLow, IsBound}

no_value : (v : Value) → ◌≡◌ {A = Option Value} None (Some v) → ⊥
no_value v e = cc

module _ (are_events : CallsAreEvents) (sealed : SealedIsARun) (n p i : ℕ) (b : BallotOf) where
  -- ---- a step of the owner

  module _ (earlier : List Event) (w : World) (runs : Runs n start earlier w) (node : IsNode n p) where
    -- an attempt's round is on record
    round_low : (s : Node) (l : List (To × Message)) → IsLed n w p s l → (a : Attempt) → s.attempts i ≡ Some a
        → a.ballot.round ≤ last_round s.entries
    round_low s l led a at =
        let good = sound n (earlier ++ led.events) led.lead.after
        (runs_on n earlier led.events start w led.lead.after runs led.lead.runs) in
        let same : led.lead.after.node p ≡ s = led.lead.moves.at in
        subst (λ (t : Node). a.ballot.round ≤ last_round t.entries) same ((good.sound.nodes p).attempts i a
        (subst (λ (t : Node). t.attempts i ≡ Some a) (sym same) at)).round

    -- what is called is a message, if it is delivered
    is_message : (call : Call) → MayCall w.sent call → (m : Message) → call ≡ deliver m → IsMessage n m
    is_message call may m same = (are_orderly n earlier w runs).messages m (subst (MayCall w.sent) same may)

    module _ (x y : Server) (letters : List (To × List ℕ)) (st : Steps n p x y letters) (at : w.node p
        ≡ x.node)
        (sent : (bytes : List ℕ) (m : Message) → In x.waits bytes → Spells n bytes m → In w.sent m) where
      abbrev Any : Node → List (To × Message) → Type 0
      Any s l = IsLed n w p s l × Stands n p i b any_answers any_grow s l

      any_on : (s t : Node) (before out : List (To × Message)) (call : Call) → MayCall w.sent call
          → Any s before → EndsWhole n p s call out t → Any t (before ++ out)
      any_on s t before out call may h ends = (
        one_more are_events sealed n w p s t before out call node may h.0 ends,
        stands_on n p i b any_answers any_grow s t before out call (is_message call may) (round_low s before
            h.0)
            h.1 ends,
      )

      -- what becomes of the attempt
      owner_steps : Stands n p i b any_answers any_grow x.node []
          → Stands n p i b any_answers any_grow y.node st.out
      owner_steps stands =
          let works = st.batch.works in
          let taken : Any works.mid works.first = all_taken n p (λ m. In w.sent m) Any
          (λ s t before out m h is may ends. any_on s t before out (deliver m) may h ends)
          x.waits x.node works.mid st.malformed [] works.first (λ d m k spells. sent d m k spells) works.takes
          (none_led n w p x.node node at, stands) in
          subst (λ o. Stands n p i b any_answers any_grow y.node o) (sym works.out_is)
          (all_called n p Any (MayCall w.sent)
          (λ s t before out call may h ends. any_on s t before out call may h ends)
          st.last works.mid y.node works.first works.then (λ call is. may_call w.sent call st.last is)
          works.ends
          taken).1

      -- all servers promised, so it does not wait any more
      abbrev Ended : Type 0
      Ended = Knows n p i b st.batch.works.mid ⊎ (Says n p i b st.batch.works.first
          ⊎ Bids n p i b st.batch.works.first)

      owner_hears : Stands n p i b any_answers any_grow x.node []
          → ((r : ℕ) → IsNode n r → (prior : Option Vote) × (d : List ℕ) × In x.waits d
          × Spells n d (Promise r i b prior))
          → Ended
      owner_hears stands each =
          let works = st.batch.works in
          let low = node.0 in
          let high = node.1 in
          let all = all_are_many n (omega (arith, low, high)) in
          let heard : (r : ℕ) → In all.0 r → Stands n p i b (Has r) (has_grow r) works.mid
          works.first = λ r k.
          let here = all.1.nodes r k in
          let d = each r here in
          brought n p (λ m. In w.sent m) Any
          (λ s l. Stands n p i b (Has r) (has_grow r) s l)
          (λ s t before out m h is may ends. any_on s t before out (deliver m) may h ends)
          (λ s t before out m h is may ends. (
            any_on s t before out (deliver m) may h.0 ends,
            stands_on n p i b (Has r) (has_grow r) s t before out (deliver m)
                (is_message (deliver m) may) (round_low s before h.0.0) h.1 ends,
          ))
          d.1 (Promise r i b d.0) d.3
          (λ s t before out h ends. promise_heard n p i b r d.0 s t before out here h.1 ends)
          x.waits x.node works.mid st.malformed [] works.first d.2 (λ d m k spells. sent d m k spells)
          works.takes (none_led n w p x.node node at, stands) in
          let split = all_or (λ r. (a : Attempt) × (works.mid.attempts i ≡ Some a) × IsAsking n p i b a
          × Has r a.answers) Ended all.0
          (λ r k. ⊎_elim (λ h. inr (inl h)) (λ y. ⊎_elim (λ h. inr (inr (inl h))) (λ z. ⊎_elim
          (λ h. inr (inr (inr h))) (λ h. inl h) z) y) (heard r k)) in
          ⊎_elim (λ waits. absurd (none_waits works.mid all.0 all.1 waits)) (λ h. h) split
        where
          -- a majority answered
          many : (s : Node) (ps : List ℕ) → Majority n ps → (a : Attempt) → s.attempts i ≡ Some a
              → IsAsking n p i b a
              → ((r : ℕ) → In ps r → (c : Attempt) × (s.attempts i ≡ Some c) × IsAsking n p i b c
              × Has r c.answers) → ⊥
          many s ps majority a at asking each =
              let long = distinct_within ps (senders a.answers) majority.distinct
              (λ r k. let c = each r k in subst (λ (y : Attempt). In (senders y.answers) r)
              (inside_attempt c.0 a (sym c.1 ∙ at)) c.3) in
              let enough = majority.enough in
              asking.few (record {
                distinct = asking.distinct;
                nodes = asking.nodes;
                enough = omega (arith, enough, long);
              })

          none_waits : (s : Node) (ps : List ℕ) → Majority n ps
              → ((r : ℕ) → In ps r → (c : Attempt) × (s.attempts i ≡ Some c) × IsAsking n p i b c
              × Has r c.answers) → ⊥
          none_waits s [] majority each = let enough = majority.enough in omega (arith, enough)
          none_waits s (r ∷ ps) majority each = let c = each r (inl refl) in many s (r ∷ ps) majority c.0 c.1
              c.2
              each

-- ---- the rounds

module _ (are_events : CallsAreEvents) (sealed : SealedIsARun) (n d i : ℕ) (b : BallotOf) (events : List
    Event)
    (e f g : Group) (led : IsLedTo n events e) (made : IsAttempted n i b e) (one : IsRound n d e f)
    (two : IsRound n d f g) (none_e : NobodyOverbids n i b e) (none_f : NobodyOverbids n i b f)
    (none_g : NobodyOverbids n i b g) where
  abbrev p : ℕ
  p = b.node

  abbrev all : IsSound n (IsGiven events) (WasLost n led.world) led.world
  all = sound n events led.world led.runs

  there : (led.world.node p).attempts i ≡ Some made.attempt
  there = ap (λ (s : Node). s.attempts i) (sym (led.stands.nodes p made.owner)) ∙ made.at

  -- nothing is proposed at the ballot
  unproposed : (r : ℕ) (u : Value) → In led.world.sent (Propose r i b u) → ⊥
  unproposed r u k =
      no_value u (sym made.unmade ∙ ((all.sound.nodes p).attempts i made.attempt there).only r u
      (subst (λ c. In led.world.sent (Propose r i c u)) (sym made.ballot) k))

  low : (v : Value) (q : ℕ) (here : IsNode n q) (bytes : List ℕ) (m : Message) → In (e q).waits bytes
      → Spells n bytes m → IsLow n q i b v m
  low v q here bytes m k spells = record {
    below = λ c asks. none_e q here bytes m c k spells asks;
    same = λ r u is. absurd (unproposed r u (subst (In led.world.sent) is
        (led.stands.sent q bytes m here k spells)));
  }

  bound : (v : Value) (q : ℕ) (here : IsNode n q) → IsBound n q i b v (e q).node.entries
  bound v q here = record {
    below = made.promised q here;
    votes = λ u k.
        let mine = subst (λ (s : Node). In s.entries (Voted i b u)) (led.stands.nodes q here) k in
        let from = (all.sound.nodes q).votes i b u
        (inl (in_right (all.lost q) (led.world.node q).entries (Voted i b u) mine)) in
        absurd (unproposed from.0 u from.1);
    not_mute = λ mute. made.not_mute q here (let span = made.span.0 in omega (arith, mute, span));
  }

  -- each server promises
  promises : (q : ℕ) (here : IsNode n q) → (prior : Option Vote)
      × In (one.steps q here).out (One p, Promise q i b prior)
  promises q here =
      let st = one.steps q here in
      let works = st.batch.works in
      let w = made.waits q here in
      let said = promised n q i b (floor_of (e q).node.entries) p made.first made.count w.0 w.2
      (made.not_mute q here) made.span (e q).waits (e q).node works.mid st.malformed works.first w.1
      (λ bytes m k spells. record {
        first = low [] q here bytes m k spells;
        second = low (0 ∷ []) q here bytes m k spells;
      }) works.takes (record {
        first = bound [] q here;
        second = bound (0 ∷ []) q here;
        floor_is = refl;
      }) in
      (said.0, in_first n d e f one q here (One p, Promise q i b said.0) said.1)

  -- and the owner hears that
  hears : (r : ℕ) → IsNode n r → (prior : Option Vote) × (bytes : List ℕ) × In (f p).waits bytes
      × Spells n bytes (Promise r i b prior)
  hears r here =
      let said = promises r here in (
        said.0,
        spelled (Promise r i b said.0),
        waits_for n d e f one p r made.owner here (One p, Promise r i b said.0) said.1 (number_itself p),
        (
          round_says are_events sealed n d e f one events led.world led.runs led.stands r here
              (One p, Promise r i b said.0) said.1,
          refl,
        ),
      )

  not_mute_f : (q : ℕ) → IsNode n q → ¬ (i ≤ floor_of (f q).node.entries)
  not_mute_f q here mute =
      let floor = step_floor n q (e q) (f q) (one.letters q) (one.steps q here) in
      let span = made.span.0 in
      made.not_mute q here (omega (arith, floor, span, mute))

  not_mute_g : (q : ℕ) → IsNode n q → ¬ (i ≤ floor_of (g q).node.entries)
  not_mute_g q here mute =
      let floor = step_floor n q (f q) (g q) (two.letters q) (two.steps q here) in
      not_mute_f q here (omega (arith, floor, mute))

  promised_f : NobodyPromisedAbove n i b f
  promised_f q here = step_below n q i b (e q) (f q) (one.letters q) (one.steps q here) (made.promised q here)
      (λ bytes m c k spells asks. none_e q here bytes m c k spells asks)

  promised_g : NobodyPromisedAbove n i b g
  promised_g q here = step_below n q i b (f q) (g q) (two.letters q) (two.steps q here) (promised_f q here)
      (λ bytes m c k spells asks. none_f q here bytes m c k spells asks)

  -- a schedule led to the later groups too
  first_goes : GoesOn n led.world f
  first_goes = rounds_go are_events sealed n d 1 e f events led.world led.runs led.stands (f, one, refl)

  led_f : IsLedTo n (events ++ first_goes.more) f
  led_f = record {
    world = first_goes.after;
    runs = runs_on n events first_goes.more start led.world first_goes.after led.runs first_goes.runs;
    stands = first_goes.stands;
  }

  second_goes : GoesOn n led_f.world g
  second_goes = rounds_go are_events sealed n d 1 f g (events ++ first_goes.more) led_f.world led_f.runs
      led_f.stands (g, two, refl)

  led_g : IsLedTo n ((events ++ first_goes.more) ++ second_goes.more) g
  led_g = record {
    world = second_goes.after;
    runs = runs_on n (events ++ first_goes.more) second_goes.more start led_f.world second_goes.after
        led_f.runs
        second_goes.runs;
    stands = second_goes.stands;
  }

  -- too few answered so far
  awaits : IsAwaiting n made.attempt
  awaits = ((are_orderly n events led.world led.runs).nodes p made.owner).awaiting i made.attempt there

  -- the first step of the owner
  abbrev Later : Node → List (To × Message) → Type 0
  Later s l = Stands n p i b any_answers any_grow s l

  first_step : Later (f p).node (one.steps p made.owner).out
  first_step = owner_steps are_events sealed n p i b events led.world led.runs made.owner (e p) (f p)
      (one.letters p) (one.steps p made.owner) (sym (led.stands.nodes p made.owner))
      (λ bytes m k spells. led.stands.sent p bytes m made.owner k spells)
      (inr (inr (inr (
        made.attempt,
        made.at,
        record {
          ballot = made.ballot;
          unmade = made.unmade;
          few = awaits.few made.unmade;
          nodes = awaits.nodes;
          distinct = awaits.distinct;
        },
        tt,
      ))))

  -- it began no higher one
  no_bid : (x y : Group) (round : IsRound n d x y) (earlier : List Event) (at : IsLedTo n earlier x)
      → NobodyOverbids n i b y → Bids n p i b (round.steps p made.owner).out → ⊥
  no_bid x y round earlier at none bid =
      let is = round_says are_events sealed n d x y round earlier at.world at.runs at.stands p made.owner
      (All, Prepare p i bid.0 1) bid.2 in
      let here = waits_for n d x y round p p made.owner made.owner (All, Prepare p i bid.0 1) bid.2 refl in
      below_not_above b bid.0 bid.1
      (none p made.owner (spelled (Prepare p i bid.0 1)) (Prepare p i bid.0 1) bid.0 here (is, refl)
      ((omega arith, omega arith), refl))

  -- its proposal waits for all
  proposed : (x y : Group) (round : IsRound n d x y) (earlier : List Event) (at : IsLedTo n earlier x)
      → NobodyPromisedAbove n i b y → ((q : ℕ) → IsNode n q → ¬ (i ≤ floor_of (y q).node.entries))
      → (v : Value) → In (round.steps p made.owner).out (All, Propose p i b v) → IsProposed n i b v y
  proposed x y round earlier at none not_mute v said = record {
    from = p;
    waits = λ q here. (
      spelled (Propose p i b v),
      waits_for n d x y round q p here made.owner (All, Propose p i b v) said refl,
      (
        round_says are_events sealed n d x y round earlier at.world at.runs at.stands p made.owner
            (All, Propose p i b v) said,
        refl,
      ),
    );
    not_mute = not_mute;
    promised = none;
  }

  abbrev st : Steps n p (f p) (g p) (two.letters p)
  st = two.steps p made.owner

  owner_knows : (h : Group) → AreRounds n d 2 g h → (v : Value) × ((h p).node.known i ≡ Some v)
  owner_knows h rounds =
      ⊎_elim
      (λ (x : Knows n p i b (f p).node).
      (x.0, rounds_keep n d 3 f h (g, two, rounds) p i x.0 made.owner x.1))
      (λ y. ⊎_elim
      (λ (x : Says n p i b (one.steps p made.owner).out).
      let mid = rounds.0 in
      let known = proposal_decides are_events sealed n d i b x.0 (events ++ first_goes.more) f mid led_f
      (proposed e f one events led promised_f not_mute_f x.0 x.1) none_f (g, two, (mid, rounds.1, refl)) p
      made.owner in
      (x.0, rounds_keep n d 1 mid h rounds.2 p i x.0 made.owner known))
      (λ z. ⊎_elim
      (λ (x : Bids n p i b (one.steps p made.owner).out). absurd (no_bid e f one events led none_f x))
      (λ waits. second (inr (inr (inr waits))))
      z)
      y)
      first_step
    where
      second : Later (f p).node [] → (v : Value) × ((h p).node.known i ≡ Some v)
      second stands =
          let ended = owner_hears are_events sealed n p i b (events ++ first_goes.more) led_f.world led_f.runs
          made.owner (f p) (g p) (two.letters p) (two.steps p made.owner)
          (sym (led_f.stands.nodes p made.owner))
          (λ bytes m k spells. led_f.stands.sent p bytes m made.owner k spells) stands hears in
          ⊎_elim
          (λ (x : Knows n p i b st.batch.works.mid).
          let known = stays_told n p i b x.0 st.last st.batch.works.mid (g p).node st.batch.works.then x.0
          st.batch.works.ends x.1 in
          (x.0, rounds_keep n d 2 g h rounds p i x.0 made.owner known))
          (λ y. ⊎_elim
          (λ (x : Says n p i b st.batch.works.first).
          let said = in_first n d f g two p made.owner (All, Propose p i b x.0) x.1 in (
            x.0,
            proposal_decides are_events sealed n d i b x.0 ((events ++ first_goes.more) ++ second_goes.more) g
                h
                led_g (proposed f g two (events ++ first_goes.more) led_f promised_g not_mute_g x.0 said)
                none_g
                rounds p made.owner,
          ))
          (λ (x : Bids n p i b st.batch.works.first).
          let said = in_first n d f g two p made.owner (All, Prepare p i x.0 1) x.2 in
          absurd (no_bid f g two (events ++ first_goes.more) led_f none_g (x.0, x.1, said)))
          y)
          ended

pub attempt_decides : CallsAreEvents → SealedIsARun → AttemptDecides
attempt_decides are_events sealed n d i b events e f g h led made one two rounds none_e none_f none_g =
    owner_knows
    are_events sealed n d i b events e f g led made one two none_e none_f none_g h rounds
