-- What is after the last turn, and turns with it.
use Rattle.std.proofs.Common.{◌≡◌, ◌≢◌, ◌⊎◌, inl, inr, ⊎_elim, ℕ, zero, suc, ◌+◌, ◌<◌, List, [], ◌++◌, length, take, append-nil, refl, sym, ap, subst, ◌∙◌}
use Rattle.site_ids.specs.Ids.{IsInstance}
use Rattle.site_disk.specs.Model.{DiskState}
use Rattle.wire.specs.declared.message.Message.{Message}
use Rattle.node.specs.declared.fault.NodeFault.{NodeFault}
use Rattle.node.specs.declared.fault.NodeFault.TheVariants.{OutOfMemory, InstancesUsedUp}
use Rattle.node.specs.declared.to.To.{To}
use Rattle.node.specs.declared.to.To.TheVariants.{One}
use Rattle.node.specs.declared.node.Node.{Node as Running}
use Rattle.node.specs.Nodes.{Node, IsKnownPrefix}
use Rattle.node.specs.Calls.{Call, tick, widen, ask, tell, keep, Begins, MayWiden, MayKeep, KeepsOne, Does}
use Rattle.node.specs.Effects.{Effect, quiet}
use Rattle.node.specs.Endings.{Ending, Whole, Refused, Failed, Ends}
use Rattle.node.specs.Standing.{ending_by}
use Rattle.site_drive.specs.Drives.{Begin, Widens, KeepAll, KeepsEach, EndsLast, EndsTurns, sent_of, Scene, Exchanges, GivesUp, Closes, GivesUpLast, DrivesWith, GivesUpDrivingWith}
use Rattle.site_drive.specs.Leading.{AllFit, NodeLeads, Called, LeadsTo, StaysWhose}
use Rattle.site_drive.specs.declared.last_call.LastCall.{LastCall}
use Rattle.site_drive.specs.declared.last_call.LastCall.TheVariants.{TickOrAsk, Widen, Ask, Tell, Keep, Nothing}
use Rattle.site_drive.proofs.Calling.{eased}
use Rattle.site_drive.proofs.ManyTurns.{leads_on, of_same}

-- ---- the calls

module _ {D : Type 0} (stands_for : D → DiskState → Type 0) (old new : Running D) (last : LastCall) (before after : List (To × Message)) where
  abbrev pub Ended : Ending → Type 0
  Ended ending = NodeLeads stands_for old new (Called last old.cluster old.me ending before after)

  abbrev pub EndedTurns : Type 0
  EndedTurns = NodeLeads stands_for old new (λ s next. (out : List (To × Message)) × (after ≡ before ++ out) × EndsTurns last old.cluster old.me s out next × AllFit out)

  pub whole : Ended Whole → EndedTurns
  whole h = eased stands_for old new (Called last old.cluster old.me Whole before after) _ (λ s next r. (r.0, r.1, inl r.2, r.3)) h

  pub used_up : Ended (Refused InstancesUsedUp) → EndedTurns
  used_up h = eased stands_for old new (Called last old.cluster old.me (Refused InstancesUsedUp) before after) _ (λ s next r. (r.0, r.1, inr r.2, r.3)) h

  pub refused : (why : NodeFault) → Ended (ending_by why) → NodeLeads stands_for old new (λ s next. (out : List (To × Message)) × EndsLast last old.cluster old.me s (ending_by why) out next)
  refused why h = eased stands_for old new _ _ (λ s next r. (r.0, r.2)) h

-- ---- what they hand out is sent

memory_not_used : OutOfMemory ≡ InstancesUsedUp → ⊥
memory_not_used e = cc

module _ {D L : Type 0} (stands_for : D → DiskState → Type 0) (received : L → List (List ℕ) → Type 0) (given : L → List (ℕ × List ℕ) → Type 0)
    (old new : Running D) (before after : L) (last : LastCall) (n p : ℕ) (out : List (To × Message)) (keeps_received : (ds : List (List ℕ)) → received before ds → received after ds)
    (ended : NodeLeads stands_for old new (λ s next. EndsTurns last n p s out next × AllFit out))
  where
    pub closes : (AllFit out → (gs : List (ℕ × List ℕ)) → given before gs → given after (gs ++ sent_of n out)) → LeadsTo stands_for received given old new before after (Closes last n p)
    closes sends = record {
      leads = λ x at.
          let r = ended.leads x.node at.node in (
            record { node = r.0; received = x.received; given = x.given ++ sent_of n out },
            record { out = out; ends = r.1.0; received = refl; given = refl },
            record { node = r.2; heard = keeps_received x.received at.heard; told = sends r.1.1 x.given at.told },
            r.3,
          );
    }

    pub closes_short : (why : NodeFault) → why ≡ OutOfMemory → (AllFit out → (gs : List (ℕ × List ℕ)) → given before gs → (k : ℕ) × given after (gs ++ take k (sent_of n out)))
        → LeadsTo stands_for received given old new before after (GivesUpLast last n p why)
    closes_short why is sends = record {
      leads = λ x at.
          let r = ended.leads x.node at.node in
          let sent = sends r.1.1 x.given at.told in (
            record { node = r.0; received = x.received; given = x.given ++ take sent.0 (sent_of n out) },
            record { out = out; ends = inr (is, r.1.0); other = λ used. memory_not_used (sym is ∙ used); received = refl; given = (sent.0, refl) },
            record { node = r.2; heard = keeps_received x.received at.heard; told = sent.1 },
            r.3,
          );
    }

pub not_closed : {D L : Type 0} (stands_for : D → DiskState → Type 0) (received : L → List (List ℕ) → Type 0) (given : L → List (ℕ × List ℕ) → Type 0)
    (old new : Running D) (link : L) (last : LastCall) (n p : ℕ) (why told : NodeFault) → told ≡ why → why ≢ InstancesUsedUp
    → NodeLeads stands_for old new (λ s next. (out : List (To × Message)) × EndsLast last n p s (ending_by why) out next)
    → LeadsTo stands_for received given old new link link (GivesUpLast last n p told)
not_closed stands_for received given old new link last n p why told is other ended =
    subst (λ w. LeadsTo stands_for received given old new link link (GivesUpLast last n p w)) (sym is) (record {
      leads = λ x at.
          let r = ended.leads x.node at.node in (
            record { node = r.0; received = x.received; given = x.given },
            record { out = r.1.0; ends = inl r.1.1; other = other; received = refl; given = (0, sym (append-nil x.given)) },
            record { node = r.2; heard = at.heard; told = at.told },
            r.3,
          );
    })

-- ---- what is known stays

-- a call but a delivery changes nothing of it
same_known : (n p : ℕ) (s next : Node) (call : Call) (ending : Ending) (out : List (To × Message)) → ((effect : Effect) → Does n p s call effect → effect.after.known ≡ s.known) → Ends n p s call ending out next → next.known ≡ s.known
same_known n p s next call Whole out same h = ap (λ u. u.known) h.node ∙ same h.effect h.does
same_known n p s next call (Refused cause) out same h = ap (λ u. u.known) h.node
same_known n p s next call Failed out same h = ap (λ u. u.known) h.node

tick_knows : (n p : ℕ) (s : Node) (effect : Effect) → Does n p s tick effect → effect.after.known ≡ s.known
tick_knows n p s effect (inl begins) = ap (λ (e : Effect). e.after.known) begins.is
tick_knows n p s effect (inr instead) = ap (λ (e : Effect). e.after.known) instead.asks.is

ask_knows : (n p : ℕ) (s : Node) (effect : Effect) → Does n p s ask effect → effect.after.known ≡ s.known
ask_knows n p s effect how = ap (λ (e : Effect). e.after.known) how.is

widen_knows : (n p : ℕ) (s : Node) (effect : Effect) → Does n p s widen effect → effect.after.known ≡ s.known
widen_knows n p s effect how =
    ⊎_elim (λ (x : Begins p s effect). ap (λ (e : Effect). e.after.known) x.is) (λ (x : (¬ MayWiden s) × (effect ≡ quiet s)). ap (λ (e : Effect). e.after.known) x.1) how

begin_knows : (n p k : ℕ) (s next : Node) (out : List (To × Message)) → Begin n p k s out next → next.known ≡ s.known
begin_knows n p zero s next out h = ap (λ (u : Node). u.known) h.1
begin_knows n p (suc k) s next out h = same_known n p h.0 next widen Whole h.2 (widen_knows n p h.0) h.5 ∙ begin_knows n p k s h.0 h.1 h.3

widens_know : (n p : ℕ) (s next : Node) (ending : Ending) (out : List (To × Message)) → Widens n p s ending out next → next.known ≡ s.known
widens_know n p s next ending out h = same_known n p h.mid next widen ending [] (widen_knows n p h.mid) h.last ∙ begin_knows n p h.count s h.mid out h.begin

keep_knows : (n p i : ℕ) (s : Node) (effect : Effect) → Does n p s (keep i) effect → effect.after.known ≡ s.known
keep_knows n p i s effect how =
    ⊎_elim (λ (x : KeepsOne s i effect). ap (λ (e : Effect). e.after.known) x.is) (λ (x : (¬ MayKeep s i) × (effect ≡ quiet s)). ap (λ (e : Effect). e.after.known) x.1) how

all_know : (n p i k : ℕ) (s next : Node) → KeepAll n p i k s next → next.known ≡ s.known
all_know n p i zero s next h = ap (λ (u : Node). u.known) h
all_know n p i (suc k) s next h = same_known n p h.0 next (keep (i + k)) Whole [] (keep_knows n p (i + k) h.0) h.2 ∙ all_know n p i k s h.0 h.1

keeps_know : (n p i count : ℕ) (s next : Node) (ending : Ending) → KeepsEach n p i count s ending next → next.known ≡ s.known
keeps_know n p i count s next ending h = from h.then ∙ all_know n p i h.whole s h.mid h.kept
  where
    from : ((ending ≡ Whole) × (next ≡ h.mid) × ((h.whole ≡ count) ⊎ ¬ IsInstance (i + h.whole)))
        ⊎ ((ending ≢ Whole) × (h.whole < count) × Ends n p h.mid (keep (i + h.whole)) ending [] next) → next.known ≡ h.mid.known
    from (inl all) = ap (λ (u : Node). u.known) all.1
    from (inr one) = same_known n p h.mid next (keep (i + h.whole)) ending [] (keep_knows n p (i + h.whole) h.mid) one.2

last_knows : (last : LastCall) (n p : ℕ) (s next : Node) (ending : Ending) (out : List (To × Message)) → EndsLast last n p s ending out next → next.known ≡ s.known
last_knows TickOrAsk n p s next ending out (inl (wants, inl short)) = same_known n p s next tick ending out (tick_knows n p s) short.1
last_knows TickOrAsk n p s next ending out (inl (wants, inr all)) =
    widens_know n p all.mid next ending all.widened all.widens ∙ same_known n p s all.mid tick Whole all.ticked (tick_knows n p s) all.ticks
last_knows TickOrAsk n p s next ending out (inr asks) = same_known n p s next ask ending out (ask_knows n p s) asks.1
last_knows Widen n p s next ending out widens = widens_know n p s next ending out widens
last_knows Ask n p s next ending out asks = same_known n p s next ask ending out (ask_knows n p s) asks
last_knows (Tell q i) n p s next ending out tells = same_known n p s next (tell (One q) i) ending out (λ effect how. ap (λ (e : Effect). e.after.known) how) tells
last_knows (Keep i count) n p s next ending out keeps = keeps_know n p i count s next ending keeps.0
last_knows Nothing n p s next ending out none = ap (λ (t : Node). t.known) none.2

pub known_stays : (last : LastCall) (n p : ℕ) (s next : Node) (out : List (To × Message)) → EndsTurns last n p s out next → next.known ≡ s.known
known_stays last n p s next out (inl h) = last_knows last n p s next Whole out h
known_stays last n p s next out (inr h) = last_knows last n p s next (Refused InstancesUsedUp) out h

pub prefix_stays : (s next : Node) (fed : List (List ℕ)) → next.known ≡ s.known → IsKnownPrefix s fed → IsKnownPrefix next fed
prefix_stays s next fed same h = record {
  begins = λ k v got. ap (λ f. f (suc k)) same ∙ h.begins k v got;
  gap = ap (λ f. f (suc (length fed))) same ∙ h.gap;
}

-- ---- turns, and then the calls

drives : (last : LastCall) (n p turns malformed : ℕ) (fed : List (List ℕ)) (x y z : Scene) → Exchanges n p turns malformed fed x y → Closes last n p y z → DrivesWith last n p turns malformed fed x z
drives last n p turns malformed fed x y z first then = record {
  mid = y;
  turns_first = first;
  then_closes = then;
  fed_is = λ some. prefix_stays y.node z.node fed (known_stays last n p y.node z.node then.out then.ends) (first.fed_is some);
}

module _ {D L : Type 0} (stands_for : D → DiskState → Type 0) (received : L → List (List ℕ) → Type 0) (given : L → List (ℕ × List ℕ) → Type 0) (last : LastCall) where
  module _ (old mid new : Running D) (before between after : L) (whose : StaysWhose old mid) (turns malformed : ℕ) (fed : List (List ℕ))
      (first : LeadsTo stands_for received given old mid before between (Exchanges old.cluster old.me turns malformed fed))
    where
      pub driven : LeadsTo stands_for received given mid new between after (Closes last mid.cluster mid.me) → LeadsTo stands_for received given old new before after (DrivesWith last old.cluster old.me turns malformed fed)
      driven then =
          leads_on stands_for received given old mid new before between after (Exchanges old.cluster old.me turns malformed fed) (Closes last old.cluster old.me) (DrivesWith last old.cluster old.me turns malformed fed)
          first (of_same stands_for received given old mid new between after whose (Closes last) then) (drives last old.cluster old.me turns malformed fed)

      pub given_up_last : (why told : NodeFault) → told ≡ why → LeadsTo stands_for received given mid new between after (GivesUpLast last mid.cluster mid.me why)
          → LeadsTo stands_for received given old new before after (GivesUpDrivingWith last old.cluster old.me turns told)
      given_up_last why told is then =
          subst (λ w. LeadsTo stands_for received given old new before after (GivesUpDrivingWith last old.cluster old.me turns w)) (sym is)
          (leads_on stands_for received given old mid new before between after (Exchanges old.cluster old.me turns malformed fed) (GivesUpLast last old.cluster old.me why) (GivesUpDrivingWith last old.cluster old.me turns why)
          first (of_same stands_for received given old mid new between after whose (λ n p. GivesUpLast last n p why) then) (λ x y z exchanged gave. inr (y, malformed, fed, exchanged, gave)))

  pub given_up_first : (old new : Running D) (before after : L) (n p turns : ℕ) (why told : NodeFault) → told ≡ why → LeadsTo stands_for received given old new before after (GivesUp n p turns why)
      → LeadsTo stands_for received given old new before after (GivesUpDrivingWith last n p turns told)
  given_up_first old new before after n p turns why told is h =
      subst (λ w. LeadsTo stands_for received given old new before after (GivesUpDrivingWith last n p turns w)) (sym is) (record { leads = λ x at. let r = h.leads x at in (r.0, inl r.1, r.2, r.3) })
