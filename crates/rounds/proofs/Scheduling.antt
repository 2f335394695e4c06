-- Rounds are a run: a step of a server is some events of its node, and a round is those of all steps.
use Rattle.std.proofs.Common.{◌≡◌, ◌≢◌, ◌⊎◌, inl, inr, ⊎_elim, ℕ, zero, suc, ◌<◌, ◌≤◌, List, [], ◌∷◌}
use Rattle.std.proofs.Common.{◌++◌}
use Rattle.std.proofs.Common.{refl, sym, ap, subst, ◌∙◌, append-nil, append_assoc, arith}
use Rattle.std.proofs.lemmas.List.{map-append}
use Rattle.std.specs.Prelude.{⊤}
use Rattle.site_ids.specs.Ids.{IsNode}
use Rattle.site_ids.specs.Lists.{In}
use Rattle.site_ids.proofs.MemberLemmas.{in_left, in_right, in_split}
use Rattle.wire.specs.declared.message.Message.{Message}
use Rattle.wire.specs.Decoding.{Spells}
use Rattle.wire.specs.Messages.{IsMessage}
use Rattle.node.specs.declared.to.To.{To}
use Rattle.node.specs.Nodes.{Node}
use Rattle.node.specs.Effects.{messages_of}
use Rattle.node.specs.Calls.{Call, submit, tick, widen, ask, tell, deliver, keep}
use Rattle.node.specs.Endings.{Whole, Ends, EndsWhole}
use Rattle.site_drive.specs.declared.last_call.LastCall.{LastCall}
use Rattle.site_drive.specs.declared.last_call.LastCall.TheVariants as last
use Rattle.server.specs.Mailing.{own_of}
use Rattle.world.specs.declared.event.Event.{Event}
use Rattle.world.specs.declared.event.Event.TheVariants.{Widen, Ask, Tell, Keep}
use Rattle.world.specs.Worlds.{World, Runs, start}
use Rattle.world.specs.Batches.{IsBatch, IsEventOf, AreEventsOf, LeadTo, CallsAreEvents, SealedIsARun}
use Rattle.world.proofs.Growing.{runs_on}
use Rattle.rounds.specs.Rounds.{Server, Group, Steps, IsRound, AreRounds}
use Rattle.rounds.specs.Agreeing.{IsGroupOf, IsOfRounds, GoesOn, RoundsAreRuns}
use Rattle.rounds.proofs.Delivering.{all_taken}
use Rattle.rounds.proofs.Calling.{IsOf, all_called}
use Rattle.rounds.proofs.Arriving.{own_in, read_back}
use Rattle.rounds.proofs.Ordering.{are_orderly}

-- ---- one call

-- no submission, and what is delivered was handed out
abbrev pub MayCall : List Message → Call → Type 0
MayCall sent (submit v) = ⊥
MayCall sent tick = ⊤
MayCall sent widen = ⊤
MayCall sent ask = ⊤
MayCall sent (tell to i) = ⊤
MayCall sent (deliver m) = In sent m
MayCall sent (keep i) = ⊤

pub may_call : (sent : List Message) (call : Call) (l : LastCall) → IsOf l call → MayCall sent call
may_call sent (submit v) last.TickOrAsk is = absurd is
may_call sent (submit v) last.Widen is = absurd is
may_call sent (submit v) last.Ask is = absurd is
may_call sent (submit v) (last.Tell r f) is = absurd is
may_call sent (submit v) (last.Keep j k) is = absurd is
may_call sent (submit v) last.Nothing is = absurd is
may_call sent tick l is = tt
may_call sent widen l is = tt
may_call sent ask l is = tt
may_call sent (tell to i) l is = tt
may_call sent (deliver m) last.TickOrAsk is = absurd is
may_call sent (deliver m) last.Widen is = absurd is
may_call sent (deliver m) last.Ask is = absurd is
may_call sent (deliver m) (last.Tell r f) is = absurd is
may_call sent (deliver m) (last.Keep j k) is = absurd is
may_call sent (deliver m) last.Nothing is = absurd is
may_call sent (keep i) l is = tt

one_plain : (p : ℕ) (past sent : List Message) (call : Call) (event : Event) → MayCall past call
    → IsEventOf p sent call event → IsOfRounds event
one_plain p past sent (submit v) event may is = absurd may
one_plain p past sent tick event may is = subst IsOfRounds (sym is) tt
one_plain p past sent widen event may is = subst IsOfRounds (sym is) tt
one_plain p past sent ask event may is = subst IsOfRounds (sym is) tt
one_plain p past sent (tell to i) event may is = subst IsOfRounds (sym is) tt
one_plain p past sent (deliver m) event may is = subst IsOfRounds (sym is.2) tt
one_plain p past sent (keep i) event may is = subst IsOfRounds (sym is) tt

no_more : (p : ℕ) (sent : List Message) (events : List Event) (event : Event) → AreEventsOf p sent [] events
    → In events event → ⊥
no_more p sent [] event are k = k
no_more p sent (x ∷ events) event are k = are

call_plain : (p : ℕ) (past sent : List Message) (call : Call) (events : List Event) → MayCall past call
    → AreEventsOf p sent (call ∷ []) events → (event : Event) → In events event → IsOfRounds event
call_plain p past sent call [] may are event k = absurd k
call_plain p past sent call (x ∷ events) may are event k =
    ⊎_elim
    (λ (e : x ≡ event). subst IsOfRounds e (one_plain p past sent call x may are.0))
    (λ later. absurd (no_more p sent events event are.1 later))
    k

-- these events lead to that node, and these messages are handed out
pub record IsLed (n : ℕ) (w : World) (p : ℕ) (s : Node) (out : List (To × Message)) : Type 0 where
  pub events : List Event
  pub plain : (event : Event) → In events event → IsOfRounds event
  pub lead : LeadTo n w events p (messages_of out) s

pub none_led : (n : ℕ) (w : World) (p : ℕ) (s : Node) → IsNode n p → w.node p ≡ s → IsLed n w p s []
none_led n w p s node is = record {
  events = [];
  plain = λ event k. absurd k;
  lead = record {
    after = w;
    runs = refl;
    moves = record {
      in_cluster = node;
      at = is;
      others = λ q apart. refl;
      sent = sym (append-nil w.sent);
    };
  };
}

lead_on : (n : ℕ) (w : World) (events more : List Event) (p : ℕ) (first then : List Message) (s t : Node)
    → (a : LeadTo n w events p first s) → LeadTo n a.after more p then t
    → LeadTo n w (events ++ more) p (first ++ then) t
lead_on n w events more p first then s t a b = record {
  after = b.after;
  runs = runs_on n events more w a.after b.after a.runs b.runs;
  moves = record {
    in_cluster = a.moves.in_cluster;
    at = b.moves.at;
    others = λ q apart. b.moves.others q apart ∙ a.moves.others q apart;
    sent = b.moves.sent ∙ ap (λ l. l ++ then) a.moves.sent ∙ append_assoc w.sent first then;
  };
}

module _ (are_events : CallsAreEvents) (sealed : SealedIsARun) (n : ℕ) where
  -- one call more
  pub one_more : (w : World) (p : ℕ) (s t : Node) (before out : List (To × Message)) (call : Call)
      → IsNode n p
      → MayCall w.sent call → IsLed n w p s before → EndsWhole n p s call out t
      → IsLed n w p t (before ++ out)
  one_more w p s t before out call node may led ends =
      let to = led.lead in
      let here : (m : Message) → In (call ∷ []) (deliver m) → In to.after.sent m = λ m k.
      ⊎_elim
      (λ (e : call ≡ deliver m). subst (λ l. In l m) (sym to.moves.sent)
      (in_left w.sent (messages_of before) m (subst (MayCall w.sent) e may)))
      (λ none. absurd none)
      k in
      let events = are_events p to.after.sent (call ∷ []) here in
      let batch : IsBatch n to.after events.0 p out t = record {
        calls = call ∷ [];
        in_cluster = node;
        are_events = events.1;
        ends = (
          Whole,
          out,
          t,
          [],
          subst (λ (x : Node). Ends n p x call Whole out t) (sym to.moves.at) ends,
          (refl, refl),
          sym (append-nil out),
        );
      } in
      let on = sealed n to.after events.0 p out t batch in
      record {
        events = led.events ++ events.0;
        plain = λ event k. ⊎_elim (λ old. led.plain event old)
            (λ new. call_plain p w.sent to.after.sent call events.0 may events.1 event new)
            (in_split led.events events.0 event k);
        lead = subst (λ l. LeadTo n w (led.events ++ events.0) p l t)
            (sym (map-append (λ (x : To × Message). x.1) before out))
            (lead_on n w led.events events.0 p (messages_of before) (messages_of out) s t to on);
      }

  -- ---- a step

  pub step_led : (w : World) (p : ℕ) (x y : Server) (letters : List (To × List ℕ))
      → (st : Steps n p x y letters)
      → IsNode n p → w.node p ≡ x.node
      → ((bytes : List ℕ) (m : Message) → In x.waits bytes → Spells n bytes m → In w.sent m)
      → IsLed n w p y.node st.out
  step_led w p x y letters st node at sent =
      let works = st.batch.works in
      let taken : IsLed n w p works.mid works.first = all_taken n p (λ m. In w.sent m) (IsLed n w p)
      (λ s t before out m led is may ends. one_more w p s t before out (deliver m) node may led ends)
      x.waits x.node works.mid st.malformed [] works.first (λ d m k spells. sent d m k spells) works.takes
      (none_led n w p x.node node at) in
      subst (λ o. IsLed n w p y.node o) (sym works.out_is)
      (all_called n p (IsLed n w p) (MayCall w.sent)
      (λ s t before out call may led ends. one_more w p s t before out call node may led ends)
      st.last works.mid y.node works.first works.then (λ call is. may_call w.sent call st.last is) works.ends
      taken)

  -- ---- a round

  module _ (d : ℕ) (g h : Group) (round : IsRound n d g h) (earlier : List Event) (w : World)
      (runs : Runs n start earlier w) (stands : IsGroupOf n w g) where
    -- the first k servers took their steps
    record Through (k : ℕ) : Type 0 where
      events : List Event
      plain : (event : Event) → In events event → IsOfRounds event
      after : World
      goes : Runs n w events after
      done : (q : ℕ) → IsNode n q → q ≤ k → after.node q ≡ (h q).node
      left : (q : ℕ) → IsNode n q → k < q → after.node q ≡ (g q).node
      grows : (m : Message) → In w.sent m → In after.sent m
      said : (q p : ℕ) (bytes : List ℕ) (m : Message) → IsNode n q → q ≤ k
          → In (own_of p (round.letters q)) bytes → Spells n bytes m → In after.sent m

    equal_or : (a b : ℕ) → (a ≡ b) ⊎ (a ≢ b)
    equal_or a b = grind arith

    lower : (a b : ℕ) → a ≤ suc b → a ≢ suc b → a ≤ b
    lower a b most apart = grind arith

    said_in : (out : List (To × Message)) (x : To × Message) → In out x → In (messages_of out) x.1
    said_in [] x k = absurd k
    said_in (y ∷ out) x k = ⊎_elim (λ (e : y ≡ x). inl (ap (λ (z : To × Message). z.1) e))
        (λ later. inr (said_in out x later)) k

    -- what a step hands out is messages
    pub round_says : (q : ℕ) (here : IsNode n q) (x : To × Message) → In (round.steps q here).out x
        → IsMessage n x.1
    round_says q here x k =
        let st = round.steps q here in
        let led = step_led w q (g q) (h q) (round.letters q) st here (sym (stands.nodes q here))
        (λ bytes m k spells. stands.sent q bytes m here k spells) in
        (are_orderly n (earlier ++ led.events) led.lead.after
        (runs_on n earlier led.events start w led.lead.after runs led.lead.runs)).messages x.1
        (subst (λ l. In l x.1) (sym led.lead.moves.sent)
        (in_right w.sent (messages_of st.out) x.1 (said_in st.out x k)))

    through : (k : ℕ) → k ≤ n → Through k
    through zero low = record {
      events = [];
      plain = λ event k. absurd k;
      after = w;
      goes = refl;
      done = λ q here none. absurd (let some = here.0 in omega (arith, some, none));
      left = λ q here some. sym (stands.nodes q here);
      grows = λ m k. k;
      said = λ q p bytes m here none k spells. absurd (let some = here.0 in omega (arith, some, none));
    }
    through (suc k) low =
        let t = through k (omega (arith, low)) in
        let node : IsNode n (suc k) = (omega arith, low) in
        let st = round.steps (suc k) node in
        let led = step_led t.after (suc k) (g (suc k)) (h (suc k)) (round.letters (suc k)) st node
        (t.left (suc k) node (omega arith))
        (λ bytes m here spells. t.grows m (stands.sent (suc k) bytes m node here spells)) in
        let moves = led.lead.moves in
        let after = led.lead.after in
        let goes : Runs n w (t.events ++ led.events) after
        = runs_on n t.events led.events w t.after after t.goes led.lead.runs in
        let grows : (m : Message) → In t.after.sent m → In after.sent m = λ m k.
        subst (λ l. In l m) (sym moves.sent) (in_left t.after.sent (messages_of st.out) m k) in
        let messages = (are_orderly n (earlier ++ (t.events ++ led.events)) after
        (runs_on n earlier (t.events ++ led.events) start w after runs goes)).messages in
        record {
          events = t.events ++ led.events;
          plain = λ event k. ⊎_elim (λ old. t.plain event old) (λ new. led.plain event new)
              (in_split t.events led.events event k);
          after = after;
          goes = goes;
          done = λ q here most. ⊎_elim
              (λ (e : q ≡ suc k). subst (λ r. after.node r ≡ (h r).node) (sym e) moves.at)
              (λ (apart : q ≢ suc k). moves.others q apart ∙ t.done q here (lower q k most apart))
              (equal_or q (suc k));
          left = λ q here some. moves.others q (λ e. omega (arith, e, some))
              ∙ t.left q here (omega (arith, some));
          grows = λ m k. grows m (t.grows m k);
          said = λ q p bytes m here most in_own spells. ⊎_elim
              (λ (e : q ≡ suc k).
              let x = own_in p st.out bytes (subst (λ l. In (own_of p l) bytes) st.letters_are
              (subst (λ r. In (own_of p (round.letters r)) bytes) e in_own)) in
              let there : In after.sent x.0.1 = subst (λ l. In l x.0.1) (sym moves.sent)
              (in_right t.after.sent (messages_of st.out) x.0.1 (said_in st.out x.0 x.1)) in
              subst (In after.sent) (sym (read_back n m x.0.1 (messages x.0.1 there)
              (subst (λ l. Spells n l m) x.3 spells))) there)
              (λ (apart : q ≢ suc k). grows m (t.said q p bytes m here (lower q k most apart) in_own spells))
              (equal_or q (suc k));
        }

    round_goes : GoesOn n w h
    round_goes =
        let t = through n (omega arith) in
        record {
          more = t.events;
          plain = t.plain;
          after = t.after;
          runs = t.goes;
          stands = record {
            nodes = λ q here. sym (t.done q here here.1);
            sent = λ q bytes m here k spells. let from = round.alone q bytes here k in
                t.said from.0 q bytes m from.1 from.1.1 from.2 spells;
          };
        }

  -- ---- any number of them

  pub rounds_go : (d k : ℕ) (g h : Group) (events : List Event) (w : World) → Runs n start events w
      → IsGroupOf n w g → AreRounds n d k g h → GoesOn n w h
  rounds_go d zero g h events w how stands same = record {
    more = [];
    plain = λ event k. absurd k;
    after = w;
    runs = refl;
    stands = subst (IsGroupOf n w) (sym same) stands;
  }
  rounds_go d (suc k) g h events w how stands rounds =
      let one = round_goes d g rounds.0 rounds.1 events w how stands in
      let all = rounds_go d k rounds.0 h (events ++ one.more) one.after
      (runs_on n events one.more start w one.after how one.runs) one.stands rounds.2 in
      record {
        more = one.more ++ all.more;
        plain = λ event k. ⊎_elim (λ first. one.plain event first) (λ then. all.plain event then)
            (in_split one.more all.more event k);
        after = all.after;
        runs = runs_on n one.more all.more w one.after all.after one.runs all.runs;
        stands = all.stands;
      }

pub rounds_are_runs : CallsAreEvents → SealedIsARun → RoundsAreRuns
rounds_are_runs are_events sealed n d k g h events w how stands rounds = rounds_go are_events sealed n d k g h
    events w how stands rounds
