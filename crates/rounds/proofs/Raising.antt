-- A ballot that nobody promised before is asked for by a tick, or by a widening.
use Rattle.std.proofs.Common.{◌≡◌, ◌⊎◌, inl, inr, ⊎_elim, ℕ, ◌≤◌, Option, Some, None, List, [], ◌∷◌}
use Rattle.std.proofs.Common.{◌++◌}
use Rattle.std.proofs.Common.{length, refl, sym, ap, subst, ◌∙◌, arith}
use Rattle.site_ids.specs.Ids.{BallotOf, IsNode}
use Rattle.site_ids.specs.Lists.{In}
use Rattle.site_ids.specs.Spans.{IsInSpan}
use Rattle.site_ids.specs.declared.value.Vote.{Vote}
use Rattle.site_ids.proofs.MemberLemmas.{in_split}
use Rattle.wire.specs.declared.message.Message.{Message}
use Rattle.wire.specs.declared.message.Message.TheVariants.{Prepare, Promise, Propose, Accepted, Nack, Ask}
use Rattle.wire.specs.declared.message.Message.TheVariants.{Chosen}
use Rattle.wire.specs.Decoding.{Spells}
use Rattle.durable.specs.Entries.{floor_of}
use Rattle.learner.specs.ToldVotes.{told_vote, HasMajority}
use Rattle.proposer.specs.Attempts.{Attempt}
use Rattle.node.specs.declared.to.To.{To}
use Rattle.node.specs.declared.to.To.TheVariants.{One, All}
use Rattle.node.specs.Nodes.{Value, Node, IsKnown, IsUnknown, IsMute}
use Rattle.node.specs.Effects.{Effect, quiet, says, learned}
use Rattle.node.specs.Calls.{Call, submit, tick, widen, ask, tell, deliver, keep, Does, Begins, MayWiden}
use Rattle.node.specs.Calls.{KeepsOne}
use Rattle.node.specs.Calls.{MayKeep, fresh_ballot}
use Rattle.node.specs.Deliveries.{OnPrepare, OnPropose, Counted, with_vote, ByKind, reached_by, promise_out}
use Rattle.node.specs.Endings.{EndsWhole}
use Rattle.node.proofs.ToldAgain.{each_told}
use Rattle.site_drive.specs.declared.last_call.LastCall.{LastCall}
use Rattle.site_drive.specs.declared.last_call.LastCall.TheVariants as last
use Rattle.site_drive.specs.Drives.{EndsTurns}
use Rattle.server.specs.Mailing.{own_of}
use Rattle.world.specs.declared.event.Event.{Event}
use Rattle.world.specs.Batches.{CallsAreEvents, SealedIsARun}
use Rattle.world.proofs.Growing.{sound}
use Rattle.world.proofs.Order.{below_not_above}
use Rattle.rounds.specs.Rounds.{Group, Steps, IsRound}
use Rattle.rounds.specs.Agreeing.{IsLedTo}
use Rattle.rounds.specs.Proposing.{Requests, IsAskedFor, NobodyIsMute}
use Rattle.rounds.specs.Ticking.{NobodyPromisedIt, NewIsBegun, Begins as BeginsIn}
use Rattle.rounds.proofs.Arriving.{own_in, read_back}
use Rattle.rounds.proofs.Asking.{IsAsked, span_silent, propose_silent, told_silent}
use Rattle.rounds.proofs.Calling.{IsOf, all_called}
use Rattle.rounds.proofs.Delivering.{all_taken}
use Rattle.rounds.proofs.Highest.{step_asks}
use Rattle.rounds.proofs.Ordering.{are_orderly}
use Rattle.rounds.proofs.Owning.{Stands, any_answers, any_grow, span_other}
use Rattle.rounds.proofs.Scheduling.{round_says}

no_attempt : (a : Attempt) → ◌≡◌ {A = Option Attempt} None (Some a) → ⊥
no_attempt a e = cc

-- a tick, widenings, or another
abbrev code : LastCall → ℕ
code last.TickOrAsk = 0
code last.Widen = 1
code last.Ask = 2
code (last.Tell r f) = 2
code (last.Keep j k) = 2
code last.Nothing = 2

not_tick : (m : Message) → deliver m ≡ tick → ⊥
not_tick m e = cc

not_widen : (m : Message) → deliver m ≡ widen → ⊥
not_widen m e = cc

inside_deliver : (a c : Message) → deliver a ≡ deliver c → a ≡ c
inside_deliver a c e = cc

module _ (n p i : ℕ) (b : BallotOf) (from : Node) where
  -- ---- which calls ask

  -- a tick, a widening, or the delivery of a promise of the ballot at the instance
  abbrev pub IsSource : Call → Type 0
  IsSource call = (call ≡ tick) ⊎ ((call ≡ widen)
      ⊎ ((q : ℕ) × (prior : Option Vote) × (call ≡ deliver (Promise q i b prior))))

  none_out : (effect : Effect) (x : To × Message) → effect.out ≡ [] → In effect.out x → ⊥
  none_out effect x is k = subst (λ l. In l x) is k

  one_out : (effect : Effect) (y x : To × Message) → effect.out ≡ y ∷ [] → (Requests y.1 i b → ⊥)
      → In effect.out x → Requests x.1 i b → ⊥
  one_out effect y x is none k r = ⊎_elim
      (λ (e : y ≡ x). none (subst (λ (z : To × Message). Requests z.1 i b) (sym e) r)) (λ no. no)
      (subst (λ l. In l x) is k)

  promise_source : (q j : ℕ) (c : BallotOf) (prior : Option Vote) (o : Option Value) (effect : Effect)
      → effect.out ≡ promise_out p j c o → (x : To × Message) → In effect.out x → Requests x.1 i b
      → (j ≡ i) × (c ≡ b)
  promise_source q j c prior None effect is x k r = absurd (none_out effect x is k)
  promise_source q j c prior (Some v) effect is x k r =
      ⊎_elim
      (λ (e : (All, Propose p j c v) ≡ x). subst (λ (z : To × Message). Requests z.1 i b) (sym e) r)
      (λ none. absurd none)
      (subst (λ l. In l x) is k)

  message_source : (s : Node) (m : Message) (effect : Effect) → ByKind n p s m effect → (x : To × Message)
      → In effect.out x → Requests x.1 i b → (q : ℕ) × (prior : Option Vote) × (m ≡ Promise q i b prior)
  message_source s (Prepare q j c k) effect how x here r =
      ⊎_elim
      (λ (y : IsMute s j × (effect ≡ quiet s)). absurd (none_out effect x (ap (λ (z : Effect). z.out) y.1)
      here))
      (λ (y : (¬ IsMute s j) × OnPrepare p s j c k effect). absurd (span_silent n p i b from j c y.1.judged x
      (subst (λ l. In l x) (ap (λ (z : Effect). z.out) y.1.is) here) r))
      how
  message_source s (Promise q j c prior) effect how x here r =
      let at = promise_source q j c prior how.proposed effect (ap (λ (z : Effect). z.out) how.is) x here r in
      (q, prior, ap (λ k. Promise q k c prior) at.0 ∙ ap (λ d. Promise q i d prior) at.1)
  message_source s (Propose q j c u) effect how x here r =
      ⊎_elim
      (λ (y : IsMute s j × (effect ≡ quiet s)). absurd (none_out effect x (ap (λ (z : Effect). z.out) y.1)
      here))
      (λ (y : (¬ IsMute s j) × OnPropose p s j c u effect). absurd (propose_silent n p i b from j c u
      y.1.answer x
      (subst (λ l. In l x) (ap (λ (z : Effect). z.out) y.1.is) here) r))
      how
  message_source s (Accepted q j c u) effect how x here r =
      let t = told_vote q j c u in
      ⊎_elim
      (λ (y : IsUnknown s j × Counted n (with_vote s t) j c u effect).
      ⊎_elim
      (λ (few : (¬ HasMajority n (In (with_vote s t).votes) j c u) × (effect ≡ quiet (with_vote s t))).
      absurd (none_out effect x (ap (λ (z : Effect). z.out) few.1) here))
      (λ (many : HasMajority n (In (with_vote s t).votes) j c u
      × (effect ≡ quiet (learned (with_vote s t) j u))). absurd (none_out effect x
      (ap (λ (z : Effect). z.out) many.1) here))
      y.1)
      (λ (y : IsKnown s j × (effect ≡ quiet s)). absurd (none_out effect x (ap (λ (z : Effect). z.out) y.1)
      here))
      how
  message_source s (Nack q j c e) effect how x here r = absurd (none_out effect x
      (ap (λ (z : Effect). z.out) how) here)
  message_source s (Ask q j) effect how x here r =
      ⊎_elim
      (λ (y : (u : Value) × (s.known j ≡ Some u) × (effect ≡ says s (One q) (Chosen p j u))). absurd
      (one_out effect (One q, Chosen p j y.0) x (ap (λ (z : Effect). z.out) y.2) (λ no. no) here r))
      (λ (y : IsUnknown s j × (effect ≡ quiet s)). absurd (none_out effect x (ap (λ (z : Effect). z.out) y.1)
      here))
      how
  message_source s (Chosen q j u) effect how x here r =
      ⊎_elim
      (λ (y : IsUnknown s j × (effect ≡ quiet (learned s j u))). absurd (none_out effect x
      (ap (λ (z : Effect). z.out) y.1) here))
      (λ (y : (s.known j ≡ Some u) × (effect ≡ quiet s)). absurd (none_out effect x
      (ap (λ (z : Effect). z.out) y.1) here))
      how

  call_source : (s : Node) (call : Call) (effect : Effect) → Does n p s call effect → (x : To × Message)
      → In effect.out x → Requests x.1 i b → IsSource call
  call_source s (submit v) effect does x k r =
      ⊎_elim
      (λ y. absurd (none_out effect x (ap (λ (z : Effect). z.out) y.2) k))
      (λ y. absurd (none_out effect x (ap (λ (z : Effect). z.out) y.3) k))
      does
  call_source s tick effect does x k r = inl refl
  call_source s widen effect does x k r = inr (inl refl)
  call_source s ask effect does x k r = absurd (one_out effect (All, Ask p does.instance) x
      (ap (λ (z : Effect). z.out) does.is) (λ no. no) k r)
  call_source s (tell to j) effect does x k r =
      let t = each_told p s to j x (subst (λ (z : Effect). In z.out x) does k) in
      absurd (told_silent n p i b from s x.1 t.0 t.2 r)
  call_source s (deliver m) effect does x k r =
      let at = message_source (record s { reached = reached_by s.reached m }) m effect does x k r in
      inr (inr (at.0, at.1, ap deliver at.2))
  call_source s (keep j) effect does x k r =
      ⊎_elim
      (λ (y : KeepsOne s j effect). absurd (none_out effect x (ap (λ (z : Effect). z.out) y.is) k))
      (λ (y : (¬ MayKeep s j) × (effect ≡ quiet s)). absurd (none_out effect x (ap (λ (z : Effect). z.out)
      y.1)
      k))
      does

  -- ---- a batch

  abbrev Asks : List (To × Message) → Type 0
  Asks l = (x : To × Message) × In l x × Requests x.1 i b

  abbrev Silent : Node → List (To × Message) → Type 0
  Silent s l = Asks l → ⊥

  silent_on : (s t : Node) (before out : List (To × Message)) (call : Call) → (IsSource call → ⊥)
      → Silent s before → EndsWhole n p s call out t → Silent t (before ++ out)
  silent_on s t before out call none h ends asks = ⊎_elim
      (λ old. h (asks.0, old, asks.2))
      (λ new. none (call_source s call ends.effect ends.does asks.0 (subst (λ l. In l asks.0) ends.handed_out
      new)
      asks.2))
      (in_split before out asks.0 asks.1)

  -- while an attempt is open there, no widening asks
  abbrev Busy : Node → List (To × Message) → Type 0
  Busy s l = ((a : Attempt) × (s.attempts i ≡ Some a)) × Silent s l

  busy_on : (s t : Node) (before out : List (To × Message)) (call : Call) → call ≡ widen → Busy s before
      → EndsWhole n p s call out t → Busy t (before ++ out)
  busy_on s t before out call same h ends = by (subst (λ c. Does n p s c ends.effect) same ends.does)
    where
      kept : ends.effect.after.attempts i ≡ s.attempts i → ((x : To × Message) → In ends.effect.out x
          → Requests x.1 i b → ⊥) → Busy t (before ++ out)
      kept attempts none = (
        (h.0.0, ap (λ (u : Node). u.attempts i) ends.node ∙ attempts ∙ h.0.1),
        λ asks. ⊎_elim
            (λ old. h.1 (asks.0, old, asks.2))
            (λ new. none asks.0 (subst (λ l. In l asks.0) ends.handed_out new) asks.2)
            (in_split before out asks.0 asks.1),
      )

      by : Begins p s ends.effect ⊎ ((¬ MayWiden s) × (ends.effect ≡ quiet s)) → Busy t (before ++ out)
      by (inl how) =
          let outside : ¬ IsInSpan how.instance (length how.values) i = λ within.
          no_attempt h.0.0 (sym (how.span.free i within).untried ∙ h.0.1) in
          kept
          (ap (λ (y : Effect). y.after.attempts i) how.is
          ∙ span_other (fresh_ballot p s) how.values s.attempts i how.instance outside)
          (λ x k r. one_out ends.effect (All, Prepare p how.instance (fresh_ballot p s) (length how.values)) x
          (ap (λ (y : Effect). y.out) how.is) (λ asks. outside asks.0) k r)
      by (inr how) = kept (ap (λ (y : Effect). y.after.attempts i) how.1)
          (λ x k r. none_out ends.effect x (ap (λ (y : Effect). y.out) how.1) k)

  only_widen : (call : Call) → IsOf last.Widen call → call ≡ widen
  only_widen (submit v) is = absurd is
  only_widen tick is = absurd is
  only_widen widen is = refl
  only_widen ask is = absurd is
  only_widen (tell to j) is = absurd is
  only_widen (deliver m) is = absurd is
  only_widen (keep j) is = absurd is

  no_source : (l : LastCall) (call : Call) → IsOf l call → (l ≡ last.TickOrAsk → ⊥) → (l ≡ last.Widen → ⊥)
      → IsSource call → ⊥
  no_source l call is t w source = ⊎_elim
      (λ e. by_tick l t (subst (IsOf l) e is))
      (λ y. ⊎_elim (λ e. by_widen l t w (subst (IsOf l) e is))
      (λ z. by_deliver l (Promise z.0 i b z.1) (subst (IsOf l) z.2 is)) y)
      source
    where
      by_tick : (l : LastCall) → (l ≡ last.TickOrAsk → ⊥) → IsOf l tick → ⊥
      by_tick last.TickOrAsk t h = t refl
      by_tick last.Widen t h = h
      by_tick last.Ask t h = h
      by_tick (last.Tell r f) t h = h
      by_tick (last.Keep j k) t h = h
      by_tick last.Nothing t h = h

      by_widen : (l : LastCall) → (l ≡ last.TickOrAsk → ⊥) → (l ≡ last.Widen → ⊥) → IsOf l widen → ⊥
      by_widen last.TickOrAsk t w h = t refl
      by_widen last.Widen t w h = w refl
      by_widen last.Ask t w h = h
      by_widen (last.Tell r f) t w h = h
      by_widen (last.Keep j k) t w h = h
      by_widen last.Nothing t w h = h

      by_deliver : (l : LastCall) (m : Message) → IsOf l (deliver m) → ⊥
      by_deliver last.TickOrAsk m h = h
      by_deliver last.Widen m h = h
      by_deliver last.Ask m h = h
      by_deliver (last.Tell r f) m h = h
      by_deliver (last.Keep j k) m h = h
      by_deliver last.Nothing m h = h

  -- the last call asks: it is a tick, or widenings where no attempt is open
  last_begins : (l : LastCall) (s t : Node) (before out : List (To × Message)) → EndsTurns l n p s out t
      → Silent s before → Asks (before ++ out) → (l ≡ last.TickOrAsk) ⊎ ((l ≡ last.Widen) × (s.attempts i
      ≡ None))
  last_begins l s t before out ends silent asks = by l refl (s.attempts i) refl
    where
      other : (l ≡ last.TickOrAsk → ⊥) → (l ≡ last.Widen → ⊥) → ⊥
      other tick_not widen_not = all_called n p Silent (λ call. IsSource call → ⊥)
          (λ u w more then call may h e. silent_on u w more then call may h e)
          l s t before out (λ call is. no_source l call is tick_not widen_not) ends silent asks

      open_there : l ≡ last.Widen → (a : Attempt) → s.attempts i ≡ Some a → ⊥
      open_there is a at = (all_called n p Busy (λ call. call ≡ widen)
          (λ u w more then call may h e. busy_on u w more then call may h e)
          l s t before out (λ call of. only_widen call (subst (λ z. IsOf z call) is of)) ends
          ((a, at), silent)).1 asks

      by : (k : LastCall) → l ≡ k → (o : Option Attempt) → s.attempts i ≡ o
          → (l ≡ last.TickOrAsk) ⊎ ((l ≡ last.Widen) × (s.attempts i ≡ None))
      by last.TickOrAsk is o at = inl is
      by last.Widen is None at = inr (is, at)
      by last.Widen is (Some a) at = absurd (open_there is a at)
      by last.Ask is o at = absurd (other (λ e. let c = ap code (sym is ∙ e) in omega (arith, c))
          (λ e. let c = ap code (sym is ∙ e) in omega (arith, c)))
      by (last.Tell r f) is o at = absurd (other (λ e. let c = ap code (sym is ∙ e) in omega (arith, c))
          (λ e. let c = ap code (sym is ∙ e) in omega (arith, c)))
      by (last.Keep j k) is o at = absurd (other (λ e. let c = ap code (sym is ∙ e) in omega (arith, c))
          (λ e. let c = ap code (sym is ∙ e) in omega (arith, c)))
      by last.Nothing is o at = absurd (other (λ e. let c = ap code (sym is ∙ e) in omega (arith, c))
          (λ e. let c = ap code (sym is ∙ e) in omega (arith, c)))

-- ---- a round

module _ (are_events : CallsAreEvents) (sealed : SealedIsARun) (n d i : ℕ) (b : BallotOf) (events : List
    Event)
    (x e : Group) (led : IsLedTo n events x) (none_mute : NobodyIsMute n x) (round : IsRound n d x e)
    (none : NobodyPromisedIt n i b x) where
  module _ (r : ℕ) (there : IsNode n r) (y : To × Message) (k : In (round.steps r there).out y)
      (asks : Requests y.1 i b) where
    abbrev st : Steps n r (x r) (e r) (round.letters r)
    st = round.steps r there

    outcome : IsAsked n r i b (x r).node st.out × Stands n r i b any_answers any_grow (e r).node st.out
    outcome = step_asks are_events sealed n r i b events led.world led.runs there (x r).node (x r) (e r)
        (round.letters r) st (sym (led.stands.nodes r there)) refl
        (λ bytes m k spells. led.stands.sent r bytes m there k spells) (y, k, asks)

    own : b.node ≡ r
    own = outcome.0.own

    unknown : (x r).node.known i ≡ None
    unknown = outcome.0.unknown

    -- no promise of it was handed out
    no_promise : (q : ℕ) (prior : Option Vote) → In led.world.sent (Promise q i b prior) → ⊥
    no_promise q prior here =
        let all = sound n events led.world led.runs in
        let is = (are_orderly n events led.world led.runs).messages (Promise q i b prior) here in
        let node = is.sender in
        let told = (all.sound.messages (Promise q i b prior) here).bound in
        let same = led.stands.nodes q node in
        ⊎_elim
        (λ lost.
        let low = (all.sound.nodes q).under told.0 i told.1 lost told.3 in
        none_mute q r i node there is.instance unknown
        (subst (λ (s : Node). i ≤ floor_of s.entries) (sym same) low))
        (λ kept. below_not_above told.1 b
        (none q node told.0 told.1 (subst (λ (s : Node). In s.entries told.0) (sym same) kept) told.3) told.4)
        (in_split (all.lost q) (led.world.node q).entries told.0 told.2)

    no_source_of : (m : Message) → In led.world.sent m → IsSource n r i b (x r).node (deliver m) → ⊥
    no_source_of m may source = ⊎_elim
        (λ t. not_tick m t)
        (λ z. ⊎_elim (λ t. not_widen m t)
        (λ u. no_promise u.0 u.1 (subst (In led.world.sent) (inside_deliver m (Promise u.0 i b u.1) u.2) may))
        z)
        source

    begins : BeginsIn n r i (x r) (e r) (round.letters r) st
    begins =
        let works = st.batch.works in
        let node = (x r).node in
        let silent : Silent n r i b node works.mid works.first = all_taken n r (λ m. In led.world.sent m)
        (Silent n r i b node)
        (λ s t before out m h is may ends. silent_on n r i b node s t before out (deliver m)
        (λ source. no_source_of m may source) h ends)
        (x r).waits node works.mid st.malformed [] works.first
        (λ bytes m k spells. led.stands.sent r bytes m there k spells) works.takes (λ z. absurd z.1) in
        last_begins n r i b node st.last works.mid (e r).node works.first works.then works.ends silent
        (y, subst (λ l. In l y) works.out_is k, asks)

  new_begun : IsAskedFor n i b e → (here : IsNode n b.node)
      × BeginsIn n b.node i (x b.node) (e b.node) (round.letters b.node) (round.steps b.node here)
  new_begun asked =
      let from = round.alone asked.server asked.bytes asked.in_cluster asked.waits in
      let r = from.0 in
      let there = from.1 in
      let y = own_in asked.server (round.steps r there).out asked.bytes
      (subst (λ l. In (own_of asked.server l) asked.bytes) (round.steps r there).letters_are from.2) in
      let is = round_says are_events sealed n d x e round events led.world led.runs led.stands r there y.0 y.1
      in
      let same : asked.message ≡ y.0.1 = read_back n asked.message y.0.1 is
      (subst (λ l. Spells n l asked.message) y.3 asked.spells) in
      let asks : Requests y.0.1 i b = subst (λ m. Requests m i b) same asked.asks in
      subst (λ q. (here : IsNode n q) × BeginsIn n q i (x q) (e q) (round.letters q) (round.steps q here))
      (sym (own r there y.0 y.1 asks)) (there, begins r there y.0 y.1 asks)

pub new_is_begun : CallsAreEvents → SealedIsARun → NewIsBegun
new_is_begun are_events sealed n d i b events x e led none_mute round none asked = new_begun are_events sealed
    n d i
    b events x e led none_mute round none asked
