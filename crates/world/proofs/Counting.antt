-- At no unknown instance of a node of a schedule were a majority's votes reported: what such votes decide is
-- known.
use Rattle.std.proofs.Common.{◌≡◌, ◌≢◌, ◌⊎◌, inl, inr, ⊎_elim, ℕ, ◌<◌, true, not, Option, Some, None, List, [], ◌∷◌, length, refl, sym, ap, subst, ◌∙◌, arith}
use Rattle.std.specs.Prelude.{nat_eq}
use Rattle.site_ids.specs.Ids.{BallotOf}
use Rattle.site_ids.specs.Lists.{In}
use Rattle.site_ids.specs.Majorities.{Majority}
use Rattle.site_ids.proofs.MapLemmas.{put_here, put_other}
use Rattle.wire.specs.declared.message.Message.{Message}
use Rattle.wire.specs.declared.message.Message.TheVariants.{Prepare, Promise, Propose, Accepted, Nack, Ask, Chosen}
use Rattle.durable.specs.Entries.{Floor}
use Rattle.learner.specs.ToldVotes.{ToldVote, told_vote, HasMajority}
use Rattle.node.specs.declared.to.To.TheVariants.{One, All}
use Rattle.node.specs.Nodes.{Value, Up, Down, Node, IsKnown, IsUnknown, IsMute, opened}
use Rattle.node.specs.Tickets.{IsCommand, IsHeld}
use Rattle.node.specs.Effects.{Effect, quiet, says, learned}
use Rattle.node.specs.Deliveries.{with_vote, OnPrepare, OnPropose, Counted, ByKind}
use Rattle.node.specs.Calls.{Call, submit, tick, widen, ask, tell, deliver, keep, queued, Ticks, AsksInstead, Begins, MayWiden, KeepsOne, MayKeep, Does}
use Rattle.node.specs.Tellings.{tells}
use Rattle.node.specs.Endings.{Ending, Whole, Refused, Failed, Ends}
use Rattle.node.specs.declared.to.To.{To}
use Rattle.world.specs.declared.event.Event.{Event}
use Rattle.world.specs.declared.event.Event.TheVariants.{Submit, Tick, Widen, Ask as AskEvent, Tell, Deliver, Arm, Crash, Restart, Replace, Keep}
use Rattle.world.specs.Worlds.{World, Moves, Becomes, CallsAt, Calls, AnyEnding, HappensIn, RefusesOpening, Runs}
use Rattle.world.proofs.Lists.{in_filter}
use Rattle.world.proofs.Moving.{either}

abbrev pub IsCounted : ℕ → Node → Type 0
IsCounted n s = (i : ℕ) (b : BallotOf) (v : Value) → s.known i ≡ None → ¬ HasMajority n (In s.votes) i b v

-- ---- votes

one_of : (n : ℕ) (ps : List ℕ) → Majority n ps → (p : ℕ) × In ps p
one_of n [] m = let e = m.enough in absurd (omega (arith, e))
one_of n (p ∷ ps) m = (p, inl refl)

pub counted_none : (n : ℕ) (s : Node) → s.votes ≡ [] → IsCounted n s
counted_none n s none i b v unknown many =
    let one = one_of n many.0 many.1 in
    subst (λ (l : List ToldVote). In l (told_vote one.0 i b v)) none (many.2 one.0 one.1)

-- of the votes reported, one is the last that was reported, or all were reported before
last_or_before : (t : ToldVote) (votes : List ToldVote) (ps : List ℕ) (i : ℕ) (b : BallotOf) (v : Value) → ((p : ℕ) → In ps p → In (t ∷ votes) (told_vote p i b v))
    → ((p : ℕ) × (t ≡ told_vote p i b v)) ⊎ ((p : ℕ) → In ps p → In votes (told_vote p i b v))
last_or_before t votes [] i b v each = inr (λ p k. absurd k)
last_or_before t votes (q ∷ ps) i b v each =
    ⊎_elim
    (λ (e : t ≡ told_vote q i b v). inl (q, e))
    (λ (here : In votes (told_vote q i b v)).
    ⊎_elim
    (λ x. inl x)
    (λ (rest : (p : ℕ) → In ps p → In votes (told_vote p i b v)). inr (λ p k. ⊎_elim (λ (e : q ≡ p). subst (λ r. In votes (told_vote r i b v)) e here) (λ k. rest p k) k))
    (last_or_before t votes ps i b v (λ p k. each p (inr k))))
    (each q (inl refl))

counted_vote : (n : ℕ) (s : Node) (q i : ℕ) (b : BallotOf) (v : Value) → IsCounted n s → ¬ HasMajority n (In (told_vote q i b v ∷ s.votes)) i b v → IsCounted n (with_vote s (told_vote q i b v))
counted_vote n s q i b v h few j c u unknown many =
    let t = told_vote q i b v in
    ⊎_elim
    (λ (x : (p : ℕ) × (t ≡ told_vote p j c u)).
    let at : i ≡ j = ap (λ (y : ToldVote). y.instance) x.1 in
    let by : b ≡ c = ap (λ (y : ToldVote). y.ballot) x.1 in
    let for : v ≡ u = ap (λ (y : ToldVote). y.value) x.1 in
    few (subst (λ y. HasMajority n (In (t ∷ s.votes)) y b v) (sym at) (subst (λ y. HasMajority n (In (t ∷ s.votes)) j y v) (sym by) (subst (λ y. HasMajority n (In (t ∷ s.votes)) j c y) (sym for) many))))
    (λ (each : (p : ℕ) → In many.0 p → In s.votes (told_vote p j c u)). h j c u unknown (many.0, many.1, each))
    (last_or_before t s.votes many.0 j c u many.2)

no_value : (v : Value) → ◌≡◌ {A = Option Value} (Some v) None → ⊥
no_value v e = cc

-- what is reported of other instances than the one that is learned is counted
counted_learned : (n : ℕ) (s : Node) (i : ℕ) (v : Value) → ((j : ℕ) (c : BallotOf) (u : Value) → j ≢ i → s.known j ≡ None → ¬ HasMajority n (In s.votes) j c u) → IsCounted n (learned s i v)
counted_learned n s i v h j c u unknown many =
    ⊎_elim
    (λ (e : j ≡ i). absurd (no_value v (sym (put_here s.known i (Some v) j e) ∙ unknown)))
    (λ (apart : j ≢ i). h j c u apart (sym (put_other s.known i (Some v) j apart) ∙ unknown) (many.0, many.1, λ p k. in_filter (λ t. not (nat_eq t.instance i)) s.votes (told_vote p j c u) (many.2 p k)))
    (either j i)

counted_voted : (n : ℕ) (s : Node) (q i : ℕ) (b : BallotOf) (v : Value) → IsCounted n s → IsCounted n (learned (with_vote s (told_vote q i b v)) i v)
counted_voted n s q i b v h = counted_learned n (with_vote s (told_vote q i b v)) i v (λ j c u apart unknown many.
    ⊎_elim
    (λ (x : (p : ℕ) × (told_vote q i b v ≡ told_vote p j c u)). apart (sym (ap (λ (y : ToldVote). y.instance) x.1)))
    (λ (each : (p : ℕ) → In many.0 p → In s.votes (told_vote p j c u)). h j c u unknown (many.0, many.1, each))
    (last_or_before (told_vote q i b v) s.votes many.0 j c u many.2))

-- ---- calls

module _ (n : ℕ) where
  by_effect : (effect e : Effect) → effect ≡ e → IsCounted n e.after → IsCounted n effect.after
  by_effect effect e is h = subst (λ (x : Effect). IsCounted n x.after) (sym is) h

  delivery_counted : (p : ℕ) (s : Node) (m : Message) (effect : Effect) → IsCounted n s → ByKind n p s m effect → IsCounted n effect.after
  delivery_counted p s (Prepare q i b k) effect h how =
      ⊎_elim
      (λ (x : IsMute s i × (effect ≡ quiet s)). by_effect effect (quiet s) x.1 h)
      (λ (x : (¬ IsMute s i) × OnPrepare p s i b k effect). by_effect effect (record { entry = x.1.entry; after = s; out = _ }) x.1.is h)
      how
  delivery_counted p s (Propose q i b v) effect h how =
      ⊎_elim
      (λ (x : IsMute s i × (effect ≡ quiet s)). by_effect effect (quiet s) x.1 h)
      (λ (x : (¬ IsMute s i) × OnPropose p s i b v effect). by_effect effect (record { entry = x.1.entry; after = s; out = _ }) x.1.is h)
      how
  delivery_counted p s (Promise q i b prior) effect h how = by_effect effect (record { entry = None; after = record s { attempts = how.attempts }; out = _ }) how.is h
  delivery_counted p s (Accepted q i b v) effect h how =
      ⊎_elim
      (λ (x : IsUnknown s i × Counted n (with_vote s (told_vote q i b v)) i b v effect).
      ⊎_elim
      (λ (few : (¬ HasMajority n (In (with_vote s (told_vote q i b v)).votes) i b v) × (effect ≡ quiet (with_vote s (told_vote q i b v)))). by_effect effect (quiet (with_vote s (told_vote q i b v))) few.1 (counted_vote n s q i b v h few.0))
      (λ (enough : HasMajority n (In (with_vote s (told_vote q i b v)).votes) i b v × (effect ≡ quiet (learned (with_vote s (told_vote q i b v)) i v))).
      by_effect effect (quiet (learned (with_vote s (told_vote q i b v)) i v)) enough.1 (counted_voted n s q i b v h))
      x.1)
      (λ (x : IsKnown s i × (effect ≡ quiet s)). by_effect effect (quiet s) x.1 h)
      how
  delivery_counted p s (Nack q i b c) effect h how = by_effect effect (quiet (record s { heard = _ })) how h
  delivery_counted p s (Ask q i) effect h how =
      ⊎_elim
      (λ (x : (v : Value) × (s.known i ≡ Some v) × (effect ≡ says s (One q) (Chosen p i v))). by_effect effect (says s (One q) (Chosen p i x.0)) x.2 h)
      (λ (x : IsUnknown s i × (effect ≡ quiet s)). by_effect effect (quiet s) x.1 h)
      how
  delivery_counted p s (Chosen q i v) effect h how =
      ⊎_elim
      (λ (x : IsUnknown s i × (effect ≡ quiet (learned s i v))). by_effect effect (quiet (learned s i v)) x.1 (counted_learned n s i v (λ j c u apart unknown. h j c u unknown)))
      (λ (x : (s.known i ≡ Some v) × (effect ≡ quiet s)). by_effect effect (quiet s) x.1 h)
      how

  call_counted : (p : ℕ) (s : Node) (call : Call) (effect : Effect) → IsCounted n s → Does n p s call effect → IsCounted n effect.after
  call_counted p s (submit v) effect h how =
      ⊎_elim
      (λ (x : IsCommand v × IsHeld s v × (effect ≡ quiet s)). by_effect effect (quiet s) x.2 h)
      (λ (x : IsCommand v × (¬ IsHeld s v) × (length s.pending < 64) × (effect ≡ quiet (queued s v))). by_effect effect (quiet (queued s v)) x.3 h)
      how
  call_counted p s tick effect h how =
      ⊎_elim
      (λ (x : Ticks p s effect). by_effect effect (record { entry = _; after = record s { attempts = _ }; out = _ }) x.is h)
      (λ (x : AsksInstead p s effect). by_effect effect (says s _ _) x.asks.is h)
      how
  call_counted p s widen effect h how =
      ⊎_elim
      (λ (x : Begins p s effect). by_effect effect (record { entry = _; after = record s { attempts = _ }; out = _ }) x.is h)
      (λ (x : (¬ MayWiden s) × (effect ≡ quiet s)). by_effect effect (quiet s) x.1 h)
      how
  call_counted p s ask effect h how = by_effect effect (says s _ _) how.is h
  call_counted p s (tell to i) effect h how = by_effect effect (tells p s to i) how h
  call_counted p s (deliver m) effect h how = delivery_counted p (record s { reached = _ }) m effect h how
  call_counted p s (keep i) effect h how =
      ⊎_elim
      (λ (x : KeepsOne s i effect). by_effect effect (record { entry = _; after = s; out = [] }) x.is h)
      (λ (x : (¬ MayKeep s i) × (effect ≡ quiet s)). by_effect effect (quiet s) x.1 h)
      how

  ending_counted : (p : ℕ) (s new : Node) (call : Call) (ending : Ending) (out : List (To × Message)) → IsCounted n s → Ends n p s call ending out new → IsCounted n new
  ending_counted p s new call Whole out h how = subst (IsCounted n) (sym how.node) (call_counted p s call how.effect h how.does)
  ending_counted p s new call (Refused cause) out h how = subst (IsCounted n) (sym how.node) h
  ending_counted p s new call Failed out h how = subst (IsCounted n) (sym how.node) h

  -- ---- worlds

  abbrev pub AllCounted : World → Type 0
  AllCounted w = (p : ℕ) → IsCounted n (w.node p)

  moved : (w after : World) (p : ℕ) (out : List Message) (new : Node) → AllCounted w → IsCounted n new → Moves n w p out new after → AllCounted after
  moved w after p out new all h moves r =
      ⊎_elim
      (λ (e : r ≡ p). subst (λ q. IsCounted n (after.node q)) (sym e) (subst (IsCounted n) (sym moves.at) h))
      (λ (apart : r ≢ p). subst (IsCounted n) (sym (moves.others r apart)) (all r))
      (either r p)

  called : (w after : World) (p : ℕ) (call : Call) → AllCounted w → Calls n AnyEnding w p call after → AllCounted after
  called w after p call all how =
      ⊎_elim
      (λ (x : CallsAt n AnyEnding w p call after). moved w after p _ x.new all (ending_counted p (w.node p) x.new call x.ending x.out (all p) x.ends) x.moves)
      (λ (x : ((w.node p).mode ≡ Down) × Becomes n w p (w.node p) after). moved w after p [] (w.node p) all (all p) x.1)
      how

  happened : (w after : World) (event : Event) → AllCounted w → HappensIn n AnyEnding w event after → AllCounted after
  happened w after (Submit p v) all how = called w after p (submit v) all how
  happened w after (Tick p) all how = called w after p tick all how
  happened w after (Widen p) all how = called w after p widen all how
  happened w after (AskEvent p) all how = called w after p ask all how
  happened w after (Tell p i) all how = called w after p (tell All i) all how
  happened w after (Deliver p k) all how = called w after p (deliver how.message) all how.calls
  happened w after (Keep p i) all how = called w after p (keep i) all how
  happened w after (Arm p calls) all how =
      ⊎_elim
      (λ (x : ((w.node p).mode ≢ Down) × Becomes n w p (record (w.node p) { armed = true }) after). moved w after p [] (record (w.node p) { armed = true }) all (all p) x.1)
      (λ (x : ((w.node p).mode ≡ Down) × Becomes n w p (w.node p) after). moved w after p [] (w.node p) all (all p) x.1)
      how
  happened w after (Crash p choice) all how = moved w after p [] (opened Down how.entries None) all (counted_none n (opened Down how.entries None) refl) how.becomes
  happened w after (Restart p) all how = moved w after p [] (opened Up how.entries None) all (counted_none n (opened Up how.entries None) refl) how.becomes
  happened w after (Replace p floor) all how = moved w after p [] (opened Down (Floor floor ∷ []) None) all (counted_none n (opened Down (Floor floor ∷ []) None) refl) how.becomes

  refused : (w after : World) (event : Event) → AllCounted w → RefusesOpening n w event after → AllCounted after
  refused w after (Submit p v) all how = absurd how
  refused w after (Tick p) all how = absurd how
  refused w after (Widen p) all how = absurd how
  refused w after (AskEvent p) all how = absurd how
  refused w after (Tell p i) all how = absurd how
  refused w after (Deliver p k) all how = absurd how
  refused w after (Keep p i) all how = absurd how
  refused w after (Arm p calls) all how = absurd how
  refused w after (Crash p choice) all how = absurd how
  refused w after (Replace p floor) all how = absurd how
  refused w after (Restart p) all how = moved w after p [] (opened Down (w.node p).entries (w.node p).in_flight) all (counted_none n (opened Down (w.node p).entries (w.node p).in_flight) refl) how

  pub all_counted : (events : List Event) (w after : World) → AllCounted w → Runs n w events after → AllCounted after
  all_counted [] w after all how = subst AllCounted (sym how) all
  all_counted (event ∷ events) w after all how =
      all_counted events how.0 after (⊎_elim (λ (x : HappensIn n AnyEnding w event how.0). happened w how.0 event all x) (λ (x : RefusesOpening n w event how.0). refused w how.0 event all x) how.1) how.2
