-- Nodes that run learn whatever their records hold together, proved.
use Rattle.std.proofs.Common.{◌≡◌, ◌≢◌, ◌⊎◌, inl, inr, ⊎_elim, ℕ, zero, suc, ◌+◌, ◌-◌, ◌<◌, ◌≤◌, max, Bool, true, false, not, cond, Option, Some, None, List, [], ◌∷◌, ◌++◌, map, filter, length, refl, sym, ap, subst, ◌∙◌, arith, append_assoc, append-nil, length-append}
use Rattle.std.specs.Prelude.{slice_get, nat_eq, nat_le, ⊤}
use Rattle.std.proofs.lemmas.Bool.Decides.{nat_tests}
use Rattle.site_ids.specs.Lists.{In, put_at}
use Rattle.site_ids.specs.Spans.{IsInSpan}
use Rattle.site_ids.specs.Ids.{BallotOf, IsNode}
use Rattle.site_ids.specs.declared.value.Vote.{Vote}
use Rattle.site_ids.proofs.MapLemmas.{put_here, put_other}
use Rattle.site_ids.proofs.MemberLemmas.{in_left, in_right, in_split}
use Rattle.wire.specs.declared.message.Message.{Message}
use Rattle.wire.specs.declared.message.Message.TheVariants.{Prepare, Promise, Propose, Accepted, Nack, Ask, Chosen}
use Rattle.durable.specs.Entries.{Entry, last_vote, learned_at}
use Rattle.learner.specs.ToldVotes.{ToldVote, told_vote, HasMajority}
use Rattle.node.specs.declared.to.To.{To}
use Rattle.node.specs.declared.to.To.TheVariants.{All}
use Rattle.node.specs.declared.fault.NodeFault.{NodeFault}
use Rattle.node.specs.declared.fault.NodeFault.TheVariants.{OutOfMemory, Device, Stopped as IsStopped, QueueFull, NotACommand, InstancesUsedUp, RoundsUsedUp, Conflict}
use Rattle.node.specs.Nodes.{Value, Up, Down, Node, IsKnown, IsUnknown}
use Rattle.node.specs.Effects.{Effect, quiet, recorded, messages_of, learned}
use Rattle.node.specs.Deliveries.{with_vote, Counted, OnAccepted, OnChosen, OnMessage}
use Rattle.node.specs.Calls.{Call, tell, deliver, Does}
use Rattle.node.specs.Endings.{Ending, Whole, Refused, Failed, Ends, Refuses}
use Rattle.node.specs.Tellings.{or_else, remembered, message_of, telling, with_first, tellings, value_in, fitting, told_from, addressed, tells}
use Rattle.node.proofs.ToldAgain.{IsToldOf, in_tellings, in_fitting}
use Rattle.world.specs.declared.event.Event.{Event}
use Rattle.world.specs.declared.event.Event.TheVariants.{Tell, Deliver}
use Rattle.world.specs.Worlds.{World, Moves, Becomes, CallsAt, Calls, Runs, start}
use Rattle.world.specs.Taking.{IsTaken, Takes, TakesAll}
use Rattle.world.specs.Quiet.{each_to}
use Rattle.world.specs.Together.{IsRemembered, IsVotedBySome, IsHeld, tells_of, delivers_to, IsRound, IsReached, AreRounds, TogetherShows, RoundIsTaken, all_of, bytes_in, TellingReaches}
use Rattle.world.proofs.Moving.{either}
use Rattle.world.proofs.Growing.{runs_on}
use Rattle.world.proofs.Taken.{taken_is_a_schedule}
use Rattle.world.proofs.Agreed.{never_conflicts}
use Rattle.world.proofs.QuietLists.{Stand, stand_behind}
use Rattle.world.proofs.Calm.{Acts, not_stopped, not_down, for_each, split_at}
use Rattle.world.proofs.Told.{values, among, are_many}
use Rattle.world.proofs.Doing.{told_votes}
use Rattle.world.proofs.Counting.{counted_none, all_counted}

-- ---- a node over a telling

-- the message reports a vote or a value
abbrev IsSaid : Message → Type 0
IsSaid (Accepted q i b v) = ⊤
IsSaid (Chosen q i v) = ⊤
IsSaid m = ⊥

-- which it has heard of: the instance is known, or the vote is counted
abbrev Heard : Node → Message → Type 0
Heard s (Accepted q i b v) = IsKnown s i ⊎ In s.votes (told_vote q i b v)
Heard s (Chosen q i v) = IsKnown s i
Heard s m = ⊤

-- nothing is forgotten, and nothing goes on record
record Onward (s t : Node) : Type 0 where
  pub mode : t.mode ≡ s.mode
  pub entries : t.entries ≡ s.entries
  pub known : (i : ℕ) (v : Value) → s.known i ≡ Some v → t.known i ≡ Some v
  pub votes : (x : ToldVote) → In s.votes x → In t.votes x ⊎ IsKnown t x.instance

onward_same : (s : Node) → Onward s s
onward_same s = record { mode = refl; entries = refl; known = λ i v e. e; votes = λ x k. inl k }

known_onward : (s t : Node) (i : ℕ) → Onward s t → IsKnown s i → IsKnown t i
known_onward s t i on known = (known.0, on.known i known.0 known.1)

onward_on : (s t u : Node) → Onward s t → Onward t u → Onward s u
onward_on s t u a b = record {
  mode = b.mode ∙ a.mode;
  entries = b.entries ∙ a.entries;
  known = λ i v e. b.known i v (a.known i v e);
  votes = λ x k. ⊎_elim (λ y. b.votes x y) (λ (y : IsKnown t x.instance). inr (known_onward t u x.instance b y)) (a.votes x k);
}

heard_onward : (s t : Node) (m : Message) → Onward s t → Heard s m → Heard t m
heard_onward s t (Prepare q i b k) on h = tt
heard_onward s t (Promise q i b prior) on h = tt
heard_onward s t (Propose q i b v) on h = tt
heard_onward s t (Nack q i b c) on h = tt
heard_onward s t (Ask q i) on h = tt
heard_onward s t (Chosen q i v) on h = known_onward s t i on h
heard_onward s t (Accepted q i b v) on h =
    ⊎_elim
    (λ (x : IsKnown s i). inl (known_onward s t i on x))
    (λ (x : In s.votes (told_vote q i b v)). ⊎_elim (λ y. inr y) (λ (y : IsKnown t i). inl y) (on.votes (told_vote q i b v) x))
    h

no_value : (v : Value) → ◌≡◌ {A = Option Value} None (Some v) → ⊥
no_value v x = cc

not_equal : (a b : ℕ) → a ≢ b → not (nat_eq a b) ≡ true
not_equal a b apart = grind (arith, nat_tests, apart)

in_filtered : {X : Type 0} (p : X → Bool) (xs : List X) (x : X) → In xs x → p x ≡ true → In (filter p xs) x
in_filtered p [] x k holds = absurd k
in_filtered p (y ∷ xs) x k holds = by (p y) refl (λ later. in_filtered p xs x later holds) k
  where
    by : (t : Bool) → p y ≡ t → (In xs x → In (filter p xs) x) → In (y ∷ xs) x → In (cond t (y ∷ filter p xs) (filter p xs)) x
    by true is rest h = ⊎_elim (λ e. inl e) (λ later. inr (rest later)) h
    by false is rest h = ⊎_elim (λ (e : y ≡ x). absurd (clash (sym is ∙ ap p e ∙ holds))) (λ later. rest later) h
      where
        clash : false ≡ true → ⊥
        clash e = cc

learned_onward : (s : Node) (i : ℕ) (v : Value) → IsUnknown s i → Onward s (learned s i v)
learned_onward s i v unknown = record {
  mode = refl;
  entries = refl;
  known = λ j u e.
      ⊎_elim
      (λ (same : j ≡ i). absurd (no_value u (sym unknown ∙ ap s.known (sym same) ∙ e)))
      (λ (apart : j ≢ i). put_other s.known i (Some v) j apart ∙ e)
      (either j i);
  votes = λ x k.
      ⊎_elim
      (λ (same : x.instance ≡ i). inr (v, put_here s.known i (Some v) x.instance same))
      (λ (apart : x.instance ≢ i). inl (in_filtered (λ t. not (nat_eq t.instance i)) s.votes x k (not_equal x.instance i apart)))
      (either x.instance i);
}

vote_onward : (s : Node) (t : ToldVote) → Onward s (with_vote s t)
vote_onward s t = record { mode = refl; entries = refl; known = λ i v e. e; votes = λ x k. inl (inr k) }

-- a message that is reported has no other effect
record Hears (s : Node) (m : Message) (effect : Effect) : Type 0 where
  pub onward : Onward s (recorded s effect)
  pub heard : Heard (recorded s effect) m
  pub nothing : effect.entry ≡ None
  pub silent : effect.out ≡ []

hears_by : (s t : Node) (m : Message) (effect : Effect) → effect ≡ quiet t → Onward s t → Heard t m → Hears s m effect
hears_by s t m effect is on heard = subst (λ e. Hears s m e) (sym is) (quietly m heard)
  where
    quietly : (m : Message) → Heard t m → Hears s m (quiet t)
    quietly (Prepare q i b k) h = record { onward = again; heard = h; nothing = refl; silent = refl }
      where
        again : Onward s (recorded s (quiet t))
        again = record { mode = on.mode; entries = refl; known = on.known; votes = on.votes }
    quietly (Promise q i b prior) h = record { onward = record { mode = on.mode; entries = refl; known = on.known; votes = on.votes }; heard = h; nothing = refl; silent = refl }
    quietly (Propose q i b v) h = record { onward = record { mode = on.mode; entries = refl; known = on.known; votes = on.votes }; heard = h; nothing = refl; silent = refl }
    quietly (Accepted q i b v) h = record { onward = record { mode = on.mode; entries = refl; known = on.known; votes = on.votes }; heard = h; nothing = refl; silent = refl }
    quietly (Nack q i b c) h = record { onward = record { mode = on.mode; entries = refl; known = on.known; votes = on.votes }; heard = h; nothing = refl; silent = refl }
    quietly (Ask q i) h = record { onward = record { mode = on.mode; entries = refl; known = on.known; votes = on.votes }; heard = h; nothing = refl; silent = refl }
    quietly (Chosen q i v) h = record { onward = record { mode = on.mode; entries = refl; known = on.known; votes = on.votes }; heard = h; nothing = refl; silent = refl }

on_accepted : (n : ℕ) (s : Node) (q i : ℕ) (b : BallotOf) (v : Value) (effect : Effect) → OnAccepted n s q i b v effect → Hears s (Accepted q i b v) effect
on_accepted n s q i b v effect how =
    let t = told_vote q i b v in
    ⊎_elim
    (λ (x : IsUnknown s i × Counted n (with_vote s t) i b v effect).
    ⊎_elim
    (λ (few : (¬ HasMajority n (In (with_vote s t).votes) i b v) × (effect ≡ quiet (with_vote s t))). hears_by s (with_vote s t) (Accepted q i b v) effect few.1 (vote_onward s t) (inr (inl refl)))
    (λ (many : HasMajority n (In (with_vote s t).votes) i b v × (effect ≡ quiet (learned (with_vote s t) i v))).
    hears_by s (learned (with_vote s t) i v) (Accepted q i b v) effect many.1 (onward_on s (with_vote s t) (learned (with_vote s t) i v) (vote_onward s t) (learned_onward (with_vote s t) i v x.0)) (inl (v, put_here s.known i (Some v) i refl)))
    x.1)
    (λ (x : IsKnown s i × (effect ≡ quiet s)). hears_by s s (Accepted q i b v) effect x.1 (onward_same s) (inl x.0))
    how

on_chosen : (s : Node) (q i : ℕ) (v : Value) (effect : Effect) → OnChosen s i v effect → Hears s (Chosen q i v) effect
on_chosen s q i v effect how =
    ⊎_elim
    (λ (x : IsUnknown s i × (effect ≡ quiet (learned s i v))). hears_by s (learned s i v) (Chosen q i v) effect x.1 (learned_onward s i v x.0) (v, put_here s.known i (Some v) i refl))
    (λ (x : (s.known i ≡ Some v) × (effect ≡ quiet s)). hears_by s s (Chosen q i v) effect x.1 (onward_same s) (v, x.0))
    how

-- though it is counted for wanting a tick
counted_too : (s : Node) (r : ℕ) (m : Message) (effect : Effect) → Hears (record s { reached = r }) m effect → Hears s m effect
counted_too s r m effect h = record {
  onward = record { mode = h.onward.mode; entries = h.onward.entries; known = h.onward.known; votes = h.onward.votes };
  heard = h.heard;
  nothing = h.nothing;
  silent = h.silent;
}

hears : (n p : ℕ) (s : Node) (m : Message) (effect : Effect) → IsSaid m → OnMessage n p s m effect → Hears s m effect
hears n p s (Prepare q i b k) effect said how = absurd said
hears n p s (Promise q i b prior) effect said how = absurd said
hears n p s (Propose q i b v) effect said how = absurd said
hears n p s (Nack q i b c) effect said how = absurd said
hears n p s (Ask q i) effect said how = absurd said
hears n p s (Accepted q i b v) effect said how = counted_too s (max s.reached i) (Accepted q i b v) effect (on_accepted n (record s { reached = max s.reached i }) q i b v effect how)
hears n p s (Chosen q i v) effect said how = counted_too s (max s.reached i) (Chosen q i v) effect (on_chosen (record s { reached = max s.reached i }) q i v effect how)

-- ---- calls that nothing refuses

no_entry : (e : Entry) → ◌≡◌ {A = Option Entry} None (Some e) → ⊥
no_entry e x = cc

-- a call that puts nothing and is not refused ends whole
acts_up : (n : ℕ) (w : World) (q : ℕ) (call : Call) (after : World) → (w.node q).mode ≡ Up → ((cause : NodeFault) → IsTaken (Refused cause) → Refuses (w.node q) call cause → ⊥) → ((effect : Effect) → Does n q (w.node q) call effect → effect.entry ≡ None)
    → Calls n IsTaken w q call after → Acts n w q call after
acts_up n w q call after up unrefused puts how =
    ⊎_elim
    (λ (c : CallsAt n IsTaken w q call after). by c.ending c.allowed c.out c.new c.ends c.moves)
    (λ (c : ((w.node q).mode ≡ Down) × Becomes n w q (w.node q) after). absurd (not_down (w.node q).mode up c.0))
    how
  where
    by : (ending : Ending) → IsTaken ending → (out : List (To × Message)) (new : Node) → Ends n q (w.node q) call ending out new → Moves n w q (messages_of out) new after → Acts n w q call after
    by Whole allowed out new ends moves = record {
      effect = ends.effect;
      does = ends.does;
      at = moves.at ∙ ends.node;
      others = moves.others;
      sent = moves.sent ∙ ap (λ (l : List (To × Message)). w.sent ++ messages_of l) ends.handed_out;
    }
    by (Refused cause) allowed out new ends moves = absurd (unrefused cause allowed ends.refuses)
    by Failed allowed out new ends moves = absurd (no_entry ends.entry (sym (puts ends.effect ends.does) ∙ ends.puts))

tell_unrefused : (s : Node) (to : To) (i : ℕ) → s.mode ≡ Up → (cause : NodeFault) → IsTaken (Refused cause) → Refuses s (tell to i) cause → ⊥
tell_unrefused s to i up OutOfMemory allowed h = allowed
tell_unrefused s to i up Device allowed h = h.1
tell_unrefused s to i up IsStopped allowed h = not_stopped s.mode up h
tell_unrefused s to i up QueueFull allowed h = h.1
tell_unrefused s to i up (NotACommand why) allowed h = h.1
tell_unrefused s to i up InstancesUsedUp allowed h = h.1
tell_unrefused s to i up RoundsUsedUp allowed h = h.1
tell_unrefused s to i up Conflict allowed h = h.1

deliver_unrefused : (s : Node) (m : Message) → s.mode ≡ Up → ¬ Refuses s (deliver m) Conflict → (cause : NodeFault) → IsTaken (Refused cause) → Refuses s (deliver m) cause → ⊥
deliver_unrefused s m up agrees OutOfMemory allowed h = allowed
deliver_unrefused s m up agrees Device allowed h = h.1
deliver_unrefused s m up agrees IsStopped allowed h = not_stopped s.mode up h
deliver_unrefused s m up agrees QueueFull allowed h = h.1
deliver_unrefused s m up agrees (NotACommand why) allowed h = h.1
deliver_unrefused s m up agrees InstancesUsedUp allowed h = h.1
deliver_unrefused s m up agrees RoundsUsedUp allowed h = h.1
deliver_unrefused s m up agrees Conflict allowed h = agrees h

-- ---- worlds

-- a world of some schedule
abbrev Reached : ℕ → World → Type 0
Reached n w = (past : List Event) × Runs n start past w

reached_on : (n : ℕ) (events : List Event) (w after : World) → Reached n w → TakesAll n w events after → Reached n after
reached_on n events w after r how = (r.0 ++ events, runs_on n r.0 events start w after r.1 (taken_is_a_schedule n w after events how))

inside_message : (m x : Message) → Some m ≡ Some x → m ≡ x
inside_message m x e = cc

in_at : (xs : List Message) (k : ℕ) (m : Message) → slice_get xs k ≡ Some m → In xs m
in_at [] k m e = absurd (cc)
in_at (y ∷ xs) zero m e = inl (inside_message y m e)
in_at (y ∷ xs) (suc k) m e = inr (in_at xs k m e)

module _ (n : ℕ) where
  -- ---- deliveries at one node

  record Listens (p : ℕ) (ms : List Message) (w after : World) : Type 0 where
    pub onward : (r : ℕ) → Onward (w.node r) (after.node r)
    pub heard : (m : Message) → In ms m → Heard (after.node p) m
    pub sent : after.sent ≡ w.sent

  listens : (p index : ℕ) (ms : List Message) (w after : World) → Reached n w → (w.node p).mode ≡ Up → ((m : Message) → In ms m → IsSaid m) → Stand w.sent index ms → TakesAll n w (each_to p index (length ms)) after → Listens p ms w after
  listens p index [] w after at up said stand how = subst (λ x. Listens p [] w x) (sym how) (record { onward = λ r. onward_same (w.node r); heard = λ m k. absurd k; sent = refl })
  listens p index (m ∷ ms) w after at up said stand how =
      let mid = how.0 in
      let same : how.1.message ≡ m = inside_message how.1.message m (sym how.1.was_sent ∙ stand.0) in
      let does : (effect : Effect) → Does n p (w.node p) (deliver m) effect → Hears (w.node p) m effect = λ effect d. hears n p (w.node p) m effect (said m (inl refl)) d in
      let acts : Acts n w p (deliver m) mid = acts_up n w p (deliver m) mid up
      (deliver_unrefused (w.node p) m up (λ h. never_conflicts n at.0 w at.1 p m (in_at w.sent index m stand.0) h))
      (λ effect d. (does effect d).nothing)
      (subst (λ x. Calls n IsTaken w p (deliver x) mid) same how.1.calls) in
      let heard = does acts.effect acts.does in
      let on : (r : ℕ) → Onward (w.node r) (mid.node r) = for_each n w p (deliver m) mid Onward onward_same acts heard.onward in
      let here : Heard (mid.node p) m = subst (λ s. Heard s m) (sym acts.at) heard.heard in
      let sent : mid.sent ≡ w.sent = acts.sent ∙ ap (λ (l : List (To × Message)). w.sent ++ messages_of l) heard.silent ∙ append-nil w.sent in
      let rest : Listens p ms mid after = listens p (suc index) ms mid after (reached_on n (Deliver p index ∷ []) w mid at (mid, how.1, refl)) ((on p).mode ∙ up) (λ x k. said x (inr k)) (subst (λ l. Stand l (suc index) ms) (sym sent) stand.1) how.2 in
      record {
        onward = λ r. onward_on (w.node r) (mid.node r) (after.node r) (on r) (rest.onward r);
        heard = λ x k. ⊎_elim (λ (e : m ≡ x). subst (λ y. Heard (after.node p) y) e (heard_onward (mid.node p) (after.node p) m (rest.onward p) here)) (λ (k : In ms x). rest.heard x k) k;
        sent = rest.sent ∙ sent;
      }

  -- ---- and at each of them

  record AllListen (ps : List ℕ) (ms : List Message) (w after : World) : Type 0 where
    pub onward : (r : ℕ) → Onward (w.node r) (after.node r)
    pub heard : (p : ℕ) → In ps p → (m : Message) → In ms m → Heard (after.node p) m

  all_listen : (ps : List ℕ) (index : ℕ) (ms : List Message) (w after : World) → Reached n w → ((p : ℕ) → In ps p → (w.node p).mode ≡ Up) → ((m : Message) → In ms m → IsSaid m) → Stand w.sent index ms
      → TakesAll n w (delivers_to ps index (length ms)) after → AllListen ps ms w after
  all_listen [] index ms w after at up said stand how = subst (λ x. AllListen [] ms w x) (sym how) (record { onward = λ r. onward_same (w.node r); heard = λ p k. absurd k })
  all_listen (q ∷ ps) index ms w after at up said stand how =
      let parts = split_at n (each_to q index (length ms)) (delivers_to ps index (length ms)) w after how in
      let mid = parts.0 in
      let first = listens q index ms w mid at (up q (inl refl)) said stand parts.1 in
      let rest : AllListen ps ms mid after = all_listen ps index ms mid after (reached_on n (each_to q index (length ms)) w mid at parts.1) (λ p k. (first.onward p).mode ∙ up p (inr k)) said (subst (λ l. Stand l index ms) (sym first.sent) stand) parts.2 in
      record {
        onward = λ r. onward_on (w.node r) (mid.node r) (after.node r) (first.onward r) (rest.onward r);
        heard = λ p k m here. ⊎_elim
            (λ (e : q ≡ p). subst (λ r. Heard (after.node r) m) e (heard_onward (mid.node q) (after.node q) m (rest.onward q) (first.heard m here)))
            (λ (k : In ps p). rest.heard p k m here)
            k;
      }

  -- ---- tellings

  abbrev told_by : List ℕ → World → ℕ → List Message
  told_by [] w i = []
  told_by (p ∷ ps) w i = told_from p (w.node p) i ++ told_by ps w i

  same_told : (ps : List ℕ) (w u : World) (i : ℕ) → ((r : ℕ) → u.node r ≡ w.node r) → told_by ps u i ≡ told_by ps w i
  same_told [] w u i same = refl
  same_told (p ∷ ps) w u i same = ap (λ (s : Node). told_from p s i ++ told_by ps u i) (same p) ∙ ap (λ l. told_from p (w.node p) i ++ l) (same_told ps w u i same)

  addressed_all : (to : To) (ms : List Message) → messages_of (map (addressed to) ms) ≡ ms
  addressed_all to [] = refl
  addressed_all to (m ∷ ms) = ap (λ l. m ∷ l) (addressed_all to ms)

  record Told (ps : List ℕ) (i : ℕ) (w after : World) : Type 0 where
    pub same : (r : ℕ) → after.node r ≡ w.node r
    pub sent : after.sent ≡ w.sent ++ told_by ps w i

  tells_all : (ps : List ℕ) (i : ℕ) (w after : World) → ((p : ℕ) → In ps p → (w.node p).mode ≡ Up) → TakesAll n w (tells_of ps i) after → Told ps i w after
  tells_all [] i w after up how = subst (λ x. Told [] i w x) (sym how) (record { same = λ r. refl; sent = sym (append-nil w.sent) })
  tells_all (p ∷ ps) i w after up how =
      let mid = how.0 in
      let acts : Acts n w p (tell All i) mid = acts_up n w p (tell All i) mid (up p (inl refl)) (tell_unrefused (w.node p) All i (up p (inl refl))) (λ effect d. ap (λ (e : Effect). e.entry) d) how.1 in
      let same : (r : ℕ) → mid.node r ≡ w.node r = for_each n w p (tell All i) mid (λ s t. t ≡ s) (λ s. refl) acts (ap (λ (e : Effect). recorded (w.node p) e) acts.does) in
      let sent : mid.sent ≡ w.sent ++ told_from p (w.node p) i =
      acts.sent ∙ ap (λ (e : Effect). w.sent ++ messages_of e.out) acts.does ∙ ap (λ l. w.sent ++ l) (addressed_all All (told_from p (w.node p) i)) in
      let rest : Told ps i mid after = tells_all ps i mid after (λ q k. ap (λ (s : Node). s.mode) (same q) ∙ up q (inr k)) how.2 in
      record {
        same = λ r. rest.same r ∙ same r;
        sent = rest.sent ∙ ap (λ l. mid.sent ++ l) (same_told ps w mid i same) ∙ ap (λ l. l ++ told_by ps w i) sent ∙ append_assoc w.sent (told_from p (w.node p) i) (told_by ps w i);
      }

  said_of : (p : ℕ) (s : Node) (m : Message) (i : ℕ) → IsToldOf p s m i → IsSaid m
  said_of p s m i told =
      ⊎_elim
      (λ (x : (v : Value) × (remembered s i ≡ Some v) × (m ≡ Chosen p i v)). subst (λ (y : Message). IsSaid y) (sym x.2) tt)
      (λ (x : (w : Vote) × In s.entries _ × (last_vote i s.entries ≡ Some w) × (remembered s i ≡ None) × (m ≡ Accepted p i w.ballot w.value)). subst (λ (y : Message). IsSaid y) (sym x.4) tt)
      told.is

  all_said : (ps : List ℕ) (w : World) (i : ℕ) (m : Message) → In (told_by ps w i) m → IsSaid m
  all_said [] w i m k = absurd k
  all_said (p ∷ ps) w i m k =
      ⊎_elim
      (λ (here : In (told_from p (w.node p) i) m). let t = in_tellings p (w.node p) 64 i m (in_fitting (tellings p (w.node p) 64 i) 65536 m here) in said_of p (w.node p) m t.0 t.2)
      (λ (later : In (told_by ps w i) m). all_said ps w i m later)
      (in_split (told_from p (w.node p) i) (told_by ps w i) m k)

  told_one : (ps : List ℕ) (w : World) (i p : ℕ) (m : Message) → In ps p → In (told_from p (w.node p) i) m → In (told_by ps w i) m
  told_one [] w i p m k here = absurd k
  told_one (q ∷ ps) w i p m k here =
      ⊎_elim
      (λ (e : q ≡ p). in_left (told_from q (w.node q) i) (told_by ps w i) m (subst (λ r. In (told_from r (w.node r) i) m) (sym e) here))
      (λ (k : In ps p). in_right (told_from q (w.node q) i) (told_by ps w i) m (told_one ps w i p m k here))
      k

  -- ---- a round

  record Rounded (nodes : List ℕ) (first : ℕ) (w after : World) : Type 0 where
    pub onward : (r : ℕ) → Onward (w.node r) (after.node r)
    pub heard : (q : ℕ) → In nodes q → (m : Message) → In (told_by nodes w first) m → Heard (after.node q) m
    pub reached : Reached n after

  so_many : (before ms l : List Message) → l ≡ before ++ ms → length l - length before ≡ length ms
  so_many before ms l is = let e : length l ≡ length before + length ms = ap (λ (x : List Message). length x) is ∙ length-append before ms in omega (arith, e)

  rounded : (nodes : List ℕ) (first : ℕ) (w after : World) → Reached n w → ((p : ℕ) → In nodes p → (w.node p).mode ≡ Up) → IsRound n nodes first w after → Rounded nodes first w after
  rounded nodes first w after at up round =
      let told = round.told in
      let t : Told nodes first w told = tells_all nodes first w told up round.tells in
      let ms : List Message = told_by nodes w first in
      let at_told : Reached n told = reached_on n (tells_of nodes first) w told at round.tells in
      let takes : TakesAll n told (delivers_to nodes (length w.sent) (length ms)) after = subst (λ k. TakesAll n told (delivers_to nodes (length w.sent) k) after) (so_many w.sent ms told.sent t.sent) round.delivers in
      let listen : AllListen nodes ms told after = all_listen nodes (length w.sent) ms told after at_told (λ p k. ap (λ (s : Node). s.mode) (t.same p) ∙ up p k) (all_said nodes w first)
      (subst (λ l. Stand l (length w.sent) ms) (sym t.sent) (stand_behind w.sent ms)) takes in
      record {
        onward = λ r. subst (λ (s : Node). Onward s (after.node r)) (t.same r) (listen.onward r);
        heard = listen.heard;
        reached = reached_on n (delivers_to nodes (length w.sent) (length ms)) told after at_told takes;
      }

  -- ---- what was held is known

  chosen_told : (p : ℕ) (s : Node) (j : ℕ) (v : Value) → remembered s j ≡ Some v → telling p s j ≡ Some (Chosen p j v)
  chosen_told p s j v is = ap (λ o. message_of p j o (last_vote j s.entries)) is

  vote_told : (p : ℕ) (s : Node) (j : ℕ) (x : Vote) → remembered s j ≡ None → last_vote j s.entries ≡ Some x → telling p s j ≡ Some (Accepted p j x.ballot x.value)
  vote_told p s j x none is = ap (λ o. message_of p j o (last_vote j s.entries)) none ∙ ap (λ o. message_of p j None o) is

  module _ (nodes : List ℕ) (first : ℕ) (w after : World) (round : Rounded nodes first w after) (j : ℕ) (reach : (p : ℕ) → In nodes p → IsReached p (w.node p) first j) where
    from_remembered : IsRemembered nodes w j → (q : ℕ) → In nodes q → IsKnown (after.node q) j
    from_remembered x q k = round.heard q k (Chosen x.0 j x.1) (told_one nodes w first x.0 (Chosen x.0 j x.1) x.2 (reach x.0 x.2 (Chosen x.0 j x.1) (chosen_told x.0 (w.node x.0) j x.1 x.3)))

    -- one of these remembers it, or each reports its vote
    each_votes : (x : Vote) (ps : List ℕ) → ((p : ℕ) → In ps p → In nodes p × (last_vote j (w.node p).entries ≡ Some x)) → IsRemembered nodes w j ⊎ ((p : ℕ) → In ps p → In (told_by nodes w first) (Accepted p j x.ballot x.value))
    each_votes x [] all = inr (λ p k. absurd k)
    each_votes x (p ∷ ps) all = by (remembered (w.node p) j) refl (each_votes x ps (λ r k. all r (inr k)))
      where
        by : (o : Option Value) → remembered (w.node p) j ≡ o → IsRemembered nodes w j ⊎ ((r : ℕ) → In ps r → In (told_by nodes w first) (Accepted r j x.ballot x.value)) → IsRemembered nodes w j ⊎ ((r : ℕ) → In (p ∷ ps) r → In (told_by nodes w first) (Accepted r j x.ballot x.value))
        by (Some v) is later = inl (p, v, (all p (inl refl)).0, is)
        by None is later =
            let here = all p (inl refl) in
            let told = told_one nodes w first p (Accepted p j x.ballot x.value) here.0 (reach p here.0 (Accepted p j x.ballot x.value) (vote_told p (w.node p) j x is here.1)) in
            ⊎_elim
            (λ y. inl y)
            (λ (rest : (r : ℕ) → In ps r → In (told_by nodes w first) (Accepted r j x.ballot x.value)). inr (λ r k. ⊎_elim
            (λ (e : p ≡ r). subst (λ y. In (told_by nodes w first) (Accepted y j x.ballot x.value)) e told)
            (λ (k : In ps r). rest r k)
            k))
            later

    -- it is known, or the vote of each was counted
    each_heard : (x : Vote) (ps : List ℕ) (s : Node) → ((p : ℕ) → In ps p → Heard s (Accepted p j x.ballot x.value)) → IsKnown s j ⊎ ((p : ℕ) → In ps p → In s.votes (told_vote p j x.ballot x.value))
    each_heard x [] s all = inr (λ p k. absurd k)
    each_heard x (p ∷ ps) s all =
        ⊎_elim
        (λ (known : IsKnown s j). inl known)
        (λ (here : In s.votes (told_vote p j x.ballot x.value)).
        ⊎_elim
        (λ (known : IsKnown s j). inl known)
        (λ (rest : (r : ℕ) → In ps r → In s.votes (told_vote r j x.ballot x.value)). inr (λ r k. ⊎_elim
        (λ (e : p ≡ r). subst (λ y. In s.votes (told_vote y j x.ballot x.value)) e here)
        (λ (k : In ps r). rest r k)
        k))
        (each_heard x ps s (λ r k. all r (inr k))))
        (all p (inl refl))

    counted_now : (q : ℕ) (o : Option Value) → (after.node q).known j ≡ o → (x : Vote) (m : HasMajority n (In (after.node q).votes) j x.ballot x.value) → IsKnown (after.node q) j
    counted_now q (Some v) is x m = (v, is)
    counted_now q None is x m = absurd (all_counted n round.reached.0 start after (λ p. counted_none n (start.node p) refl) round.reached.1 q j x.ballot x.value is m)

    from_votes : IsVotedBySome n nodes w j → (q : ℕ) → In nodes q → IsKnown (after.node q) j
    from_votes v q k =
        ⊎_elim
        (λ (x : IsRemembered nodes w j). from_remembered x q k)
        (λ (told : (p : ℕ) → In v.voters p → In (told_by nodes w first) (Accepted p j v.vote.ballot v.vote.value)).
        ⊎_elim
        (λ (known : IsKnown (after.node q) j). known)
        (λ (all : (p : ℕ) → In v.voters p → In (after.node q).votes (told_vote p j v.vote.ballot v.vote.value)). counted_now q ((after.node q).known j) refl v.vote (v.voters, v.majority, all))
        (each_heard v.vote v.voters (after.node q) (λ p m. round.heard q k (Accepted p j v.vote.ballot v.vote.value) (told p m))))
        (each_votes v.vote v.voters (λ p m. (v.among p m, v.voted p m)))

    shown : IsHeld n nodes w j → (q : ℕ) → In nodes q → IsKnown (after.node q) j
    shown held q k = ⊎_elim (λ x. from_remembered x q k) (λ x. from_votes x q k) held

  -- ---- rounds

  remembered_on : (s t : Node) (i : ℕ) (v : Value) → Onward s t → remembered s i ≡ Some v → (u : Value) × (remembered t i ≡ Some u)
  remembered_on s t i v on is = by (s.known i) (t.known i) refl refl
    where
      by : (a b : Option Value) → s.known i ≡ a → t.known i ≡ b → (u : Value) × (remembered t i ≡ Some u)
      by a (Some u) before now = (u, ap (λ o. or_else o (learned_at i t.entries)) now)
      by (Some u) None before now = absurd (no_value u (sym now ∙ on.known i u before))
      by None None before now = (
        v,
        ap (λ o. or_else o (learned_at i t.entries)) now ∙ ap (λ (es : List Entry). learned_at i es) on.entries ∙ ap (λ o. or_else o (learned_at i s.entries)) (sym before) ∙ is,
      )

  held_on : (nodes : List ℕ) (w after : World) (i : ℕ) → ((r : ℕ) → Onward (w.node r) (after.node r)) → IsHeld n nodes w i → IsHeld n nodes after i
  held_on nodes w after i on held =
      ⊎_elim
      (λ (x : IsRemembered nodes w i). let r = remembered_on (w.node x.0) (after.node x.0) i x.1 (on x.0) x.3 in inl (x.0, r.0, x.2, r.1))
      (λ (x : IsVotedBySome n nodes w i). inr (record {
        vote = x.vote;
        voters = x.voters;
        majority = x.majority;
        among = x.among;
        voted = λ p k. ap (λ (es : List Entry). last_vote i es) (on p).entries ∙ x.voted p k;
      }))
      held

  rounds : (nodes counts : List ℕ) (first : ℕ) (w after : World) → Reached n w → ((p : ℕ) → In nodes p → (w.node p).mode ≡ Up) → AreRounds n nodes first counts w after
      → ((r : ℕ) → Onward (w.node r) (after.node r)) × ((p i : ℕ) → In nodes p → IsInSpan first (all_of counts) i → IsHeld n nodes w i → IsKnown (after.node p) i)
  rounds nodes [] first w after at up how = (
    λ r. subst (λ (x : World). Onward (w.node r) (x.node r)) (sym how) (onward_same (w.node r)),
    λ p i k span held. absurd (omega (arith, span.0, span.1)),
  )
  rounds nodes (k ∷ ks) first w after at up how =
      let next = how.1.0 in
      let round = rounded nodes first w next at up how.1.1 in
      let rest = rounds nodes ks (first + k) next after round.reached (λ p m. (round.onward p).mode ∙ up p m) how.1.2 in (
        λ r. onward_on (w.node r) (next.node r) (after.node r) (round.onward r) (rest.0 r),
        λ p i m span held. ⊎_elim
            (λ (here : IsInSpan first k i). known_onward (next.node p) (after.node p) i (rest.0 p) (shown nodes first w next round i (λ q l. how.0 q i l here) held p m))
            (λ (later : IsInSpan (first + k) (all_of ks) i). rest.1 p i m later (held_on nodes w next i round.onward held))
            (parted first k (all_of ks) i span),
      )
    where
      parted : (first k more i : ℕ) → IsInSpan first (k + more) i → IsInSpan first k i ⊎ IsInSpan (first + k) more i
      parted first k more i span = by (nat_le (suc i) (first + k)) refl
        where
          by : (t : Bool) → nat_le (suc i) (first + k) ≡ t → IsInSpan first k i ⊎ IsInSpan (first + k) more i
          by true is = inl (span.0, at_most (suc i) (first + k) is)
            where
              at_most : (a b : ℕ) → nat_le a b ≡ true → a ≤ b
              at_most a b is = grind (arith, nat_tests)
          by false is = inr (let low = above (suc i) (first + k) is in (omega (arith, low), omega (arith, span.1)))
            where
              above : (a b : ℕ) → nat_le a b ≡ false → b < a
              above a b is = grind (arith, nat_tests)

pub together_shows : TogetherShows
together_shows n first nodes counts past w after runs up how p i k span held = (rounds n nodes counts first w after (past, runs) up how).1 p i k span held

-- ---- that a round can be taken

-- node p becomes this one, and these are handed out
abbrev moved_to : World → ℕ → List Message → Node → World
moved_to w p out new = record { node = put_at w.node p new; sent = w.sent ++ out }

has_moved : (n : ℕ) (w : World) (p : ℕ) (out : List Message) (new : Node) → IsNode n p → Moves n w p out new (moved_to w p out new)
has_moved n w p out new node = record { in_cluster = node; at = put_here w.node p new p refl; others = λ q apart. put_other w.node p new q apart; sent = refl }

called_so : (n : ℕ) (w : World) (p : ℕ) (call : Call) (effect : Effect) → IsNode n p → (w.node p).mode ≡ Up → Does n p (w.node p) call effect
    → Calls n IsTaken w p call (moved_to w p (messages_of effect.out) (recorded (w.node p) effect))
called_so n w p call effect node up does = inl (record {
  ending = Whole;
  out = effect.out;
  new = recorded (w.node p) effect;
  allowed = tt;
  ends = record { effect = effect; running = up; does = does; handed_out = refl; node = refl };
  moves = has_moved n w p (messages_of effect.out) (recorded (w.node p) effect) node;
})

-- each reported message has some effect
some_effect : (n p : ℕ) (s : Node) (m : Message) → IsSaid m → s.mode ≡ Up → ¬ Refuses s (deliver m) Conflict → (effect : Effect) × OnMessage n p s m effect
some_effect n p s (Prepare q i b k) said up agrees = absurd said
some_effect n p s (Promise q i b prior) said up agrees = absurd said
some_effect n p s (Propose q i b v) said up agrees = absurd said
some_effect n p s (Nack q i b c) said up agrees = absurd said
some_effect n p s (Ask q i) said up agrees = absurd said
some_effect n p s (Accepted q i b v) said up agrees = by (s.known i) refl
  where
    here : Node
    here = record s { reached = max s.reached i }

    by : (o : Option Value) → s.known i ≡ o → (effect : Effect) × OnAccepted n here q i b v effect
    by (Some u) is = (quiet here, inr ((u, is), refl))
    by None is = ⊎_elim
        (λ (many : HasMajority n (In (with_vote here (told_vote q i b v)).votes) i b v). (quiet (learned (with_vote here (told_vote q i b v)) i v), inl (is, inr (many, refl))))
        (λ few. (quiet (with_vote here (told_vote q i b v)), inl (is, inl (few, refl))))
        (are_many (λ p. In (with_vote here (told_vote q i b v)).votes (told_vote p i b v)) (λ p. among told_votes (with_vote here (told_vote q i b v)).votes (told_vote p i b v)) n)
some_effect n p s (Chosen q i v) said up agrees = by (s.known i) refl
  where
    here : Node
    here = record s { reached = max s.reached i }

    by : (o : Option Value) → s.known i ≡ o → (effect : Effect) × OnChosen here i v effect
    by None is = (quiet (learned here i v), inl (is, refl))
    by (Some u) is = ⊎_elim
        (λ (same : u ≡ v). (quiet here, inr (subst (λ x. s.known i ≡ Some x) same is, refl)))
        (λ (apart : u ≢ v). absurd (agrees (up, (u, is, apart))))
        (values u v)

module _ (n : ℕ) where
  tells_taken : (ps : List ℕ) (i : ℕ) (w : World) → ((p : ℕ) → In ps p → IsNode n p × ((w.node p).mode ≡ Up)) → (told : World) × TakesAll n w (tells_of ps i) told
  tells_taken [] i w up = (w, refl)
  tells_taken (p ∷ ps) i w up =
      let here = up p (inl refl) in
      let next : World = moved_to w p (messages_of (tells p (w.node p) All i).out) (recorded (w.node p) (tells p (w.node p) All i)) in
      let first : Takes n w (Tell p i) next = called_so n w p (tell All i) (tells p (w.node p) All i) here.0 here.1 refl in
      let told = tells_all n (p ∷ []) i w next (λ q k. ⊎_elim (λ (e : p ≡ q). subst (λ r. (w.node r).mode ≡ Up) e here.1) (λ none. absurd none) k) (next, first, refl) in
      let rest = tells_taken ps i next (λ q k. ((up q (inr k)).0, ap (λ (s : Node). s.mode) (told.same q) ∙ (up q (inr k)).1)) in
      (rest.0, (next, first, rest.1))

  each_taken : (p index : ℕ) (ms : List Message) (w : World) → Reached n w → IsNode n p → (w.node p).mode ≡ Up → ((m : Message) → In ms m → IsSaid m) → Stand w.sent index ms → (after : World) × TakesAll n w (each_to p index (length ms)) after
  each_taken p index [] w at node up said stand = (w, refl)
  each_taken p index (m ∷ ms) w at node up said stand =
      let some = some_effect n p (w.node p) m (said m (inl refl)) up (λ h. never_conflicts n at.0 w at.1 p m (in_at w.sent index m stand.0) h) in
      let next : World = moved_to w p (messages_of some.0.out) (recorded (w.node p) some.0) in
      let first : Takes n w (Deliver p index) next = record { message = m; was_sent = stand.0; calls = called_so n w p (deliver m) some.0 node up some.1 } in
      let heard = listens n p index (m ∷ []) w next at up (λ x k. said x (⊎_elim (λ e. inl e) (λ none. absurd none) k)) (stand.0, tt) (next, first, refl) in
      let rest = each_taken p (suc index) ms next (reached_on n (Deliver p index ∷ []) w next at (next, first, refl)) node ((heard.onward p).mode ∙ up) (λ x k. said x (inr k)) (subst (λ l. Stand l (suc index) ms) (sym heard.sent) stand.1) in
      (rest.0, (next, first, rest.1))

  both_taken : (xs ys : List Event) (w mid after : World) → TakesAll n w xs mid → TakesAll n mid ys after → TakesAll n w (xs ++ ys) after
  both_taken [] ys w mid after first second = subst (λ x. TakesAll n x ys after) first second
  both_taken (x ∷ xs) ys w mid after first second = (first.0, first.1, both_taken xs ys first.0 mid after first.2 second)

  all_taken : (ps : List ℕ) (index : ℕ) (ms : List Message) (w : World) → Reached n w → ((p : ℕ) → In ps p → IsNode n p × ((w.node p).mode ≡ Up)) → ((m : Message) → In ms m → IsSaid m) → Stand w.sent index ms
      → (after : World) × TakesAll n w (delivers_to ps index (length ms)) after
  all_taken [] index ms w at up said stand = (w, refl)
  all_taken (p ∷ ps) index ms w at up said stand =
      let here = up p (inl refl) in
      let first = each_taken p index ms w at here.0 here.1 said stand in
      let heard = listens n p index ms w first.0 at here.1 said stand first.1 in
      let rest = all_taken ps index ms first.0 (reached_on n (each_to p index (length ms)) w first.0 at first.1) (λ q k. ((up q (inr k)).0, (heard.onward q).mode ∙ (up q (inr k)).1)) said (subst (λ l. Stand l index ms) (sym heard.sent) stand) in
      (rest.0, both_taken (each_to p index (length ms)) (delivers_to ps index (length ms)) w first.0 rest.0 first.1 rest.1)

pub round_is_taken : RoundIsTaken
round_is_taken n first nodes past w runs up =
    let tells = tells_taken n nodes first w up in
    let told = tells_all n nodes first w tells.0 (λ p k. (up p k).1) tells.1 in
    let ms : List Message = told_by n nodes w first in
    let rest = all_taken n nodes (length w.sent) ms tells.0 (reached_on n (tells_of nodes first) w tells.0 (past, runs) tells.1) (λ p k. ((up p k).0, ap (λ (s : Node). s.mode) (told.same p) ∙ (up p k).1)) (all_said n nodes w first)
    (subst (λ l. Stand l (length w.sent) ms) (sym told.sent) (stand_behind w.sent ms)) in
    (rest.0, record { told = tells.0; tells = tells.1; delivers = subst (λ k. TakesAll n tells.0 (delivers_to nodes (length w.sent) k) rest.0) (sym (so_many n w.sent ms tells.0.sent told.sent)) rest.1 })

-- ---- how far a telling reaches

-- what comes after does no harm, if what comes before has room
fits_first : (o : Option Message) (ms : List Message) (room : ℕ) (m : Message) → o ≡ Some m → length (value_in m) ≤ room → In (fitting room (with_first o ms)) m
fits_first None ms room m is fits = absurd (cc)
fits_first (Some x) ms room m is fits = by (nat_le (length (value_in x)) room) refl
  where
    same : x ≡ m
    same = inside_message x m is

    over : (a b : ℕ) → nat_le a b ≡ false → a ≤ b → ⊥
    over a b is fits = grind (arith, nat_tests, is, fits)

    by : (t : Bool) → nat_le (length (value_in x)) room ≡ t → In (cond t (x ∷ fitting (room - length (value_in x)) ms) []) m
    by true is = inl same
    by false is = absurd (over (length (value_in x)) room is (subst (λ (y : Message). length (value_in y) ≤ room) (sym same) fits))

bytes_first : (o : Option Message) (ms : List Message) (m : Message) → o ≡ Some m → length (value_in m) ≤ bytes_in (with_first o ms)
bytes_first None ms m is = absurd (cc)
bytes_first (Some x) ms m is = let e : length (value_in x) ≡ length (value_in m) = ap (λ (y : Message). length (value_in y)) (inside_message x m is) in omega (arith, e)

-- over one more
fits_later : (o : Option Message) (ms more : List Message) (room : ℕ) (m : Message) → bytes_in (with_first o ms) ≤ room → ((left : ℕ) → bytes_in ms ≤ left → In (fitting left more) m) → In (fitting room (with_first o more)) m
fits_later None ms more room m few rest = rest room few
fits_later (Some x) ms more room m few rest = by (nat_le (length (value_in x)) room) refl
  where
    over : (a b c : ℕ) → nat_le a b ≡ false → a + c ≤ b → ⊥
    over a b c is fits = grind (arith, nat_tests, is, fits)

    by : (t : Bool) → nat_le (length (value_in x)) room ≡ t → In (cond t (x ∷ fitting (room - length (value_in x)) more) []) m
    by true is = inr (rest (room - length (value_in x)) (omega (arith, few)))
    by false is = absurd (over (length (value_in x)) room (bytes_in ms) is few)

reaches : (p : ℕ) (s : Node) (k i more room j : ℕ) (m : Message) → bytes_in (tellings p s k i) ≤ room → IsInSpan i k j → telling p s j ≡ Some m → In (fitting room (tellings p s (k + more) i)) m
reaches p s zero i more room j m few span is = absurd (omega (arith, span.0, span.1))
reaches p s (suc k) i more room j m few span is =
    let next : suc (k + more) ≡ suc k + more = omega arith in
    subst (λ l. In (fitting room (tellings p s l i)) m) next (⊎_elim
    (λ (e : j ≡ i).
    let here : telling p s i ≡ Some m = subst (λ x. telling p s x ≡ Some m) e is in
    let bytes = bytes_first (telling p s i) (tellings p s k (suc i)) m here in
    fits_first (telling p s i) (tellings p s (k + more) (suc i)) room m here (omega (arith, bytes, few)))
    (λ (apart : j ≢ i).
    fits_later (telling p s i) (tellings p s k (suc i)) (tellings p s (k + more) (suc i)) room m few
    (λ left enough. reaches p s k (suc i) more left j m enough (omega (arith, span.0, apart), omega (arith, span.1)) is))
    (either j i))

pub telling_reaches : TellingReaches
telling_reaches p s first k most few j span m is =
    let all : k + (64 - k) ≡ 64 = omega (arith, most) in
    subst (λ l. In (fitting 65536 (tellings p s l first)) m) all (reaches p s k first (64 - k) 65536 j m few span is)
