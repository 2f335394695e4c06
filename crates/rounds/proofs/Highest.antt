-- The highest ballot that is asked for decides, if nobody overbids it.
use Rattle.std.proofs.Common.{◌≡◌, ◌⊎◌, inl, inr, ⊎_elim, ℕ, ◌≤◌, Some, None, List, [], ◌++◌}
use Rattle.std.proofs.Common.{refl}
use Rattle.std.proofs.Common.{sym, ap, subst, ◌∙◌, arith}
use Rattle.site_ids.specs.Ids.{BallotOf, IsInstance, IsNode}
use Rattle.site_ids.specs.Lists.{In}
use Rattle.site_ids.proofs.MemberLemmas.{in_left, in_right, in_split}
use Rattle.wire.specs.declared.message.Message.{Message}
use Rattle.wire.specs.declared.message.Message.TheVariants.{Prepare, Propose}
use Rattle.wire.specs.Decoding.{Spells}
use Rattle.wire.specs.Messages.{IsMessage, instance_of}
use Rattle.wire.specs.Spelling.{spelled}
use Rattle.durable.specs.Entries.{last_round, floor_of}
use Rattle.proposer.specs.Attempts.{Attempt}
use Rattle.node.specs.declared.to.To.{To}
use Rattle.node.specs.declared.to.To.TheVariants.{All}
use Rattle.node.specs.Nodes.{Value, Node}
use Rattle.node.specs.Calls.{Call, deliver}
use Rattle.node.specs.Endings.{Whole, EndsWhole}
use Rattle.node.proofs.Knowing.{known_stays}
use Rattle.server.specs.Mailing.{own_of}
use Rattle.world.specs.declared.event.Event.{Event}
use Rattle.world.specs.Batches.{CallsAreEvents, SealedIsARun}
use Rattle.world.specs.Worlds.{World, Runs, start}
use Rattle.world.proofs.Growing.{runs_on, sound}
use Rattle.world.proofs.Order.{below_not_above}
use Rattle.rounds.specs.Rounds.{Server, Group, Steps, IsRound, AreRounds}
use Rattle.rounds.specs.Agreeing.{IsLedTo, GoesOn}
use Rattle.rounds.specs.Proposing.{Requests, IsProposed, IsAttempted, IsAskedFor, NobodyIsMute}
use Rattle.rounds.specs.Proposing.{NobodyOverbids}
use Rattle.rounds.specs.Proposing.{NobodyPromisedAbove, HighestDecides}
use Rattle.rounds.proofs.Arriving.{own_in, read_back, waits_for}
use Rattle.rounds.proofs.Asking.{IsAsked, IsGood, Prepares, call_asks}
use Rattle.rounds.proofs.Attempting.{attempt_decides}
use Rattle.rounds.proofs.Attending.{step_floor}
use Rattle.rounds.proofs.Calling.{all_called}
use Rattle.rounds.proofs.Delivering.{all_taken}
use Rattle.rounds.proofs.Keeping.{rounds_keep}
use Rattle.rounds.proofs.Ordering.{are_orderly}
use Rattle.rounds.proofs.Owning.{IsAsking, Knows, Says, Bids, Stands, stands_on, any_answers, any_grow}
use Rattle.rounds.proofs.Proposing.{proposal_decides}
use Rattle.rounds.proofs.Scheduling.{IsLed, MayCall, may_call, none_led, one_more, rounds_go, round_says}

module _ (are_events : CallsAreEvents) (sealed : SealedIsARun) (n p i : ℕ) (b : BallotOf) (earlier : List
    Event)
    (w : World) (runs : Runs n start earlier w) (node : IsNode n p) (from : Node) where
  -- what is handed out asks for the ballot
  abbrev Asks : List (To × Message) → Type 0
  Asks l = (x : To × Message) × In l x × Requests x.1 i b

  -- so it is the server's own, and its attempt stands, or it proposed
  abbrev Asked : Node → List (To × Message) → Type 0
  Asked s l = IsAsked n p i b from l × Stands n p i b any_answers any_grow s l

  abbrev Grows : Node → Type 0
  Grows s = (j : ℕ) (u : Value) → from.known j ≡ Some u → s.known j ≡ Some u

  abbrev Holds : Node → List (To × Message) → Type 0
  Holds s l = IsLed n w p s l × Grows s × (Asks l → Asked s l)

  good_of : (s : Node) (l : List (To × Message)) → Holds s l → IsGood n p i b from s
  good_of s l h =
      let led = h.0 in
      let after = led.lead.after in
      let all = runs_on n earlier led.events start w after runs led.lead.runs in
      let same : after.node p ≡ s = led.lead.moves.at in
      let orderly = (are_orderly n (earlier ++ led.events) after all).nodes p node in
      let good = (sound n (earlier ++ led.events) after all).sound.nodes p in
      subst (λ (t : Node). ((j : ℕ) (u : Value) → from.known j ≡ Some u → t.known j ≡ Some u)
      → IsGood n p i b from t)
      same
      (λ known. record {
        known = known;
        awaiting = orderly.awaiting;
        own = λ j a at. (good.attempts j a at).node;
        unknown = λ j a at. (orderly.tidy.attempted j a at).unknown;
      })
      h.1

  round_low : (s : Node) (l : List (To × Message)) → IsLed n w p s l → (a : Attempt) → s.attempts i ≡ Some a
      → a.ballot.round ≤ last_round s.entries
  round_low s l led a at =
      let good = sound n (earlier ++ led.events) led.lead.after
      (runs_on n earlier led.events start w led.lead.after runs led.lead.runs) in
      let same : led.lead.after.node p ≡ s = led.lead.moves.at in
      subst (λ (t : Node). a.ballot.round ≤ last_round t.entries) same ((good.sound.nodes p).attempts i a
      (subst (λ (t : Node). t.attempts i ≡ Some a) (sym same) at)).round

  is_message : (call : Call) → MayCall w.sent call → (m : Message) → call ≡ deliver m → IsMessage n m
  is_message call may m same = (are_orderly n earlier w runs).messages m (subst (MayCall w.sent) same may)

  asked_more : (before out : List (To × Message)) → IsAsked n p i b from before
      → IsAsked n p i b from (before ++ out)
  asked_more before out h = record {
    own = h.own;
    unknown = h.unknown;
    how = ⊎_elim
        (λ (x : Says n p i b before). inl (x.0, in_left before out (All, Propose p i b x.0) x.1))
        (λ (x : Prepares n p i b from before). inr (
          x.0,
          x.1,
          x.2,
          x.3,
          in_left before out (All, Prepare p x.0 b x.1) x.4,
        ))
        h.how;
  }

  asked_then : (before out : List (To × Message)) → IsAsked n p i b from out
      → IsAsked n p i b from (before ++ out)
  asked_then before out h = record {
    own = h.own;
    unknown = h.unknown;
    how = ⊎_elim
        (λ (x : Says n p i b out). inl (x.0, in_right before out (All, Propose p i b x.0) x.1))
        (λ (x : Prepares n p i b from out). inr (
          x.0,
          x.1,
          x.2,
          x.3,
          in_right before out (All, Prepare p x.0 b x.1) x.4,
        ))
        h.how;
  }

  holds_on : (s t : Node) (before out : List (To × Message)) (call : Call) → MayCall w.sent call
      → Holds s before
      → EndsWhole n p s call out t → Holds t (before ++ out)
  holds_on s t before out call may h ends = (
    one_more are_events sealed n w p s t before out call node may h.0 ends,
    (λ j u known. known_stays n p s t call Whole out ends j u (h.1 j u known)),
    λ asks. ⊎_elim
        (λ old.
        let asked = h.2 (asks.0, old, asks.2) in (
          asked_more before out asked.0,
          stands_on n p i b any_answers any_grow s t before out call (is_message call may)
              (round_low s before h.0) asked.1 ends,
        ))
        (λ new.
        let now = call_asks n p i b from s (good_of s before h) call ends.effect ends.does asks.0
        (subst (λ l. In l asks.0) ends.handed_out new) asks.2 in (
          asked_then before out (subst (IsAsked n p i b from) (sym ends.handed_out) now.asked),
          ⊎_elim
              (λ (y : Says n p i b ends.effect.out). inr (inl (
                y.0,
                in_right before out (All, Propose p i b y.0)
                    (subst (λ l. In l (All, Propose p i b y.0)) (sym ends.handed_out) y.1),
              )))
              (λ y. inr (inr (inr (
                y.0,
                ap (λ (u : Node). u.attempts i) ends.node ∙ y.1,
                y.2,
                tt,
              ))))
              now.stands,
        ))
        (in_split before out asks.0 asks.1),
  )

  -- over a step
  pub step_asks : (x y : Server) (letters : List (To × List ℕ)) (st : Steps n p x y letters) → w.node p
      ≡ x.node
      → x.node ≡ from
      → ((bytes : List ℕ) (m : Message) → In x.waits bytes → Spells n bytes m → In w.sent m)
      → Asks st.out → Asked y.node st.out
  step_asks x y letters st at begins sent =
      let works = st.batch.works in
      let first : Holds x.node [] = (
        none_led n w p x.node node at,
        (λ j u known. ap (λ (s : Node). s.known j) begins ∙ known),
        λ asks. absurd asks.1,
      ) in
      let taken : Holds works.mid works.first = all_taken n p (λ m. In w.sent m) Holds
      (λ s t before out m h is may ends. holds_on s t before out (deliver m) may h ends)
      x.waits x.node works.mid st.malformed [] works.first (λ d m k spells. sent d m k spells) works.takes
      first in
      (subst (λ o. Holds y.node o) (sym works.out_is)
      (all_called n p Holds (MayCall w.sent)
      (λ s t before out call may h ends. holds_on s t before out call may h ends)
      st.last works.mid y.node works.first works.then (λ call is. may_call w.sent call st.last is) works.ends
      taken)).2

-- ---- the rounds

module _ (are_events : CallsAreEvents) (sealed : SealedIsARun) (n d i : ℕ) (b : BallotOf) (events : List
    Event)
    (x e f g : Group) (led : IsLedTo n events x) (none_mute : NobodyIsMute n x) (begin : IsRound n d x e)
    (asked : IsAskedFor n i b e) (promised : NobodyPromisedAbove n i b e) (one : IsRound n d e f)
    (two : IsRound n d f g) (none_e : NobodyOverbids n i b e) (none_f : NobodyOverbids n i b f)
    (none_g : NobodyOverbids n i b g) where
  goes : GoesOn n led.world e
  goes = rounds_go are_events sealed n d 1 x e events led.world led.runs led.stands (e, begin, refl)

  led_e : IsLedTo n (events ++ goes.more) e
  led_e = record {
    world = goes.after;
    runs = runs_on n events goes.more start led.world goes.after led.runs goes.runs;
    stands = goes.stands;
  }

  says : (q : ℕ) (here : IsNode n q) (y : To × Message) → In (begin.steps q here).out y → IsMessage n y.1
  says q here y k = round_says are_events sealed n d x e begin events led.world led.runs led.stands q here y k

  -- a message for all waits for each
  waits : (q r : ℕ) (here : IsNode n q) (there : IsNode n r) (m : Message)
      → In (begin.steps r there).out (All, m) → (bytes : List ℕ) × In (e q).waits bytes × Spells n bytes m
  waits q r here there m k = (
    spelled m,
    waits_for n d x e begin q r here there (All, m) k refl,
    (says r there (All, m) k, refl),
  )

  -- at an instance that server r did not know nobody is mute
  not_mute : (q r j : ℕ) → IsNode n q → IsNode n r → (m : Message) → IsMessage n m → instance_of m ≡ j
      → (x r).node.known j ≡ None → ¬ (j ≤ floor_of (e q).node.entries)
  not_mute q r j here there m is same unknown mute =
      let floor = step_floor n q (x q) (e q) (begin.letters q) (begin.steps q here) in
      none_mute q r j here there (subst IsInstance same is.instance) unknown (omega (arith, mute, floor))

  -- the server that asked
  module _ (r : ℕ) (there : IsNode n r) (y : To × Message) (k : In (begin.steps r there).out y)
      (asks : Requests y.1 i b) where
    outcome : IsAsked n r i b (x r).node (begin.steps r there).out
        × Stands n r i b any_answers any_grow (e r).node (begin.steps r there).out
    outcome = step_asks are_events sealed n r i b events led.world led.runs there (x r).node (x r) (e r)
        (begin.letters r) (begin.steps r there) (sym (led.stands.nodes r there)) refl
        (λ bytes m k spells. led.stands.sent r bytes m there k spells) (y, k, asks)

    own : b.node ≡ r
    own = outcome.0.own

    abbrev Decides : Group → Type 0
    Decides h = (v : Value) × ((h r).node.known i ≡ Some v)

    -- by its proposal
    by_proposal : (h : Group) → AreRounds n d 2 g h → Says n r i b (begin.steps r there).out → Decides h
    by_proposal h rounds said =
        let proposal = waits r r there there (Propose r i b said.0) said.1 in
        let made : IsProposed n i b said.0 e = record {
          from = r;
          waits = λ q here. waits q r here there (Propose r i b said.0) said.1;
          not_mute = λ q here. not_mute q r i here there (Propose r i b said.0) proposal.2.0 refl
              outcome.0.unknown;
          promised = promised;
        } in
        let known = proposal_decides are_events sealed n d i b said.0 (events ++ goes.more) e g led_e made
        none_e
        (f, one, (g, two, refl)) r there in
        (said.0, rounds_keep n d 2 g h rounds r i said.0 there known)

    -- by its attempt
    by_attempt : (h : Group) → AreRounds n d 2 g h → Prepares n r i b (x r).node (begin.steps r there).out
        → (a : Attempt) → (e r).node.attempts i ≡ Some a → IsAsking n r i b a → Decides h
    by_attempt h rounds prepares a at asking =
        let prepare = waits r r there there (Prepare r prepares.0 b prepares.1) prepares.4 in
        let made : IsAttempted n i b e = record {
          owner = subst (IsNode n) (sym own) there;
          attempt = a;
          at = subst (λ q. (e q).node.attempts i ≡ Some a) (sym own) at;
          ballot = asking.ballot;
          unmade = asking.unmade;
          first = prepares.0;
          count = prepares.1;
          span = prepares.2;
          waits = λ q here. subst (λ z. (bytes : List ℕ) × In (e q).waits bytes
              × Spells n bytes (Prepare z prepares.0 b prepares.1)) (sym own)
              (waits q r here there (Prepare r prepares.0 b prepares.1) prepares.4);
          not_mute = λ q here. not_mute q r prepares.0 here there (Prepare r prepares.0 b prepares.1)
              prepare.2.0 refl prepares.3;
          promised = promised;
        } in
        let known = attempt_decides are_events sealed n d i b (events ++ goes.more) e f g h led_e made one two
        rounds none_e none_f none_g in
        (known.0, subst (λ q. (h q).node.known i ≡ Some known.0) own known.1)

    -- it began no higher one
    no_bid : Bids n r i b (begin.steps r there).out → ⊥
    no_bid bid =
        let here = waits r r there there (Prepare r i bid.0 1) bid.2 in
        below_not_above b bid.0 bid.1
        (none_e r there here.0 (Prepare r i bid.0 1) bid.0 here.1 here.2 ((omega arith, omega arith), refl))

    decided : (h : Group) → AreRounds n d 2 g h → Decides h
    decided h rounds =
        ⊎_elim
        (λ (z : Knows n r i b (e r).node).
        (z.0, rounds_keep n d 4 e h (f, one, (g, two, rounds)) r i z.0 there z.1))
        (λ u. ⊎_elim
        (λ (z : Says n r i b (begin.steps r there).out). by_proposal h rounds z)
        (λ t. ⊎_elim
        (λ (z : Bids n r i b (begin.steps r there).out). absurd (no_bid z))
        (λ z. ⊎_elim
        (λ (said : Says n r i b (begin.steps r there).out). by_proposal h rounds said)
        (λ (prepares : Prepares n r i b (x r).node (begin.steps r there).out). by_attempt h rounds prepares
        z.0 z.1
        z.2)
        outcome.0.how)
        t)
        u)
        outcome.1

  highest : (h : Group) → AreRounds n d 2 g h → (v : Value) × ((h b.node).node.known i ≡ Some v)
  highest h rounds =
      let from = begin.alone asked.server asked.bytes asked.in_cluster asked.waits in
      let r = from.0 in
      let there = from.1 in
      let y = own_in asked.server (begin.steps r there).out asked.bytes
      (subst (λ l. In (own_of asked.server l) asked.bytes) (begin.steps r there).letters_are from.2) in
      let same : asked.message ≡ y.0.1 = read_back n asked.message y.0.1 (says r there y.0 y.1)
      (subst (λ l. Spells n l asked.message) y.3 asked.spells) in
      let asks : Requests y.0.1 i b = subst (λ m. Requests m i b) same asked.asks in
      let known = decided r there y.0 y.1 asks h rounds in
      (known.0, subst (λ q. (h q).node.known i ≡ Some known.0) (sym (own r there y.0 y.1 asks)) known.1)

pub highest_decides : CallsAreEvents → SealedIsARun → HighestDecides
highest_decides are_events sealed n d i b events x e f g h led none_mute begin asked promised one two rounds
    none_e
    none_f none_g = highest are_events sealed n d i b events x e f g led none_mute begin asked promised one
    two
    none_e none_f none_g h rounds
