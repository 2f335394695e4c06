-- The three endings of a call, from what the code did.
use Rattle.std.proofs.Common.{◌≡◌, ℕ, true, false, cond, ◌⊎◌, inl, inr, ⊎_elim, Result, Ok, Err, Option, Some, None, List, [], ◌∷◌, ◌++◌, refl, sym, ap, subst, ◌∙◌, append-nil, append_assoc, arith}
use Rattle.std.specs.Prelude.{◌↔◌, IsErrOf}
use Rattle.std.specs.Result.{IsErrAnd}
use Rattle.site_disk.specs.Model.{DiskState}
use Rattle.site_ids.specs.Lists.{In}
use Rattle.wire.specs.declared.message.Message.{Message}
use Rattle.durable.specs.Entries.{Entry}
use Rattle.durable.specs.Histories.{MayFollow, IsHistory}
use Rattle.durable.specs.Keeping.{IsFound, Keeps}
use Rattle.durable.specs.Batches.{IsAhead, IsBatchOpen, Waits, GoesAhead}
use Rattle.durable.specs.Puts.{Puts, IsPut, IsMemoryKept, Acknowledges, LeavesInFlight}
use Rattle.durable.specs.Reading.{IsKept}
use Rattle.durable.specs.Ready.{IsStored, IsReady, IsUnchanged, StandsUpTo}
use Rattle.durable.specs.Slots.{cell_at}
use Rattle.durable.specs.declared.fault.RecordFault.{RecordFault}
use Rattle.durable.specs.declared.fault.RecordFault.TheVariants as stored
use Rattle.durable.specs.declared.record.Record.{Record}
use Rattle.durable.proofs.Batches.{waits_with, waiting_size}
use Rattle.durable.proofs.Keeping.{settled_keeps}
use Rattle.durable.proofs.Kept.{kept_same}
use Rattle.durable.proofs.Moments.{started, weaker}
use Rattle.durable.proofs.Push.{history-push}
use Rattle.learner.specs.Votes.{IsTold}
use Rattle.learner.specs.declared.learner.Learner.{Learner}
use Rattle.proposer.specs.Attempts.{Attempt}
use Rattle.proposer.specs.Standing.{Attempting}
use Rattle.node.specs.declared.fault.NodeFault.{NodeFault}
use Rattle.node.specs.declared.fault.NodeFault.TheVariants as fault
use Rattle.node.specs.declared.queue.Queue.{Queue}
use Rattle.node.specs.declared.node.Node.{Node as Running}
use Rattle.node.specs.declared.to.To.{To}
use Rattle.node.specs.Nodes.{Value, Up, Stopped, Node, BeginsKnown}
use Rattle.node.specs.Calls.{Call, Does}
use Rattle.node.specs.Effects.{Effect, recorded}
use Rattle.node.specs.Endings.{Ending, Whole, Refused, Failed, Ends, EndsWhole, EndsRefused, EndsFailed, Refuses}
use Rattle.node.specs.Faults.{of_record}
use Rattle.node.specs.Ahead.{StaysAhead}
use Rattle.node.specs.Ranges.{HasRanges, IsCallInRange}
use Rattle.node.specs.Standing.{ending_by, ending_of, IsOnRecord, HasParts, IsNodeOf, IsOnDisk, IsEither, StaysOnDisk, Leads, IsEvent, KeepsOthers}
use Rattle.node.specs.Waiting.{AreWaiting}
use Rattle.node.proofs.Knowing.{beginning_stays}
use Rattle.node.proofs.Ranging.{stays_in_range, says_messages}
use Rattle.node.proofs.Saying.{says_few}
use Rattle.node.proofs.Tidying.{stays_tidy}

pub ending_err : {T : Type 0} (r : Result T NodeFault) (fault : NodeFault) → IsErrAnd r (λ y. y ≡ fault) → ending_of r ≡ ending_by fault
ending_err (Ok x) fault is = absurd is
ending_err (Err y) fault is = ap ending_by is

abbrev pub Handed : Type 0
Handed = List (To × Message)

off : true ≡ false → ⊥
off e = cc

inside : (x y : RecordFault) → ◌≡◌ {A = Result (Unit {0}) RecordFault} (Err x) (Err y) → x ≡ y
inside x y e = cc

module _ {D : Type 0} where
  -- ---- a node that runs

  pub is_up : (code : Running D) (s : Node) → HasParts code s → code.store.stopped ≡ false → s.mode ≡ Up
  is_up code s parts runs = parts.on_record.mode_is ∙ ap (λ b. cond b Stopped Up) runs

  pub is_down : (code : Running D) (s : Node) → HasParts code s → code.store.stopped ≡ true → s.mode ≡ Stopped
  is_down code s parts stops = parts.on_record.mode_is ∙ ap (λ b. cond b Stopped Up) stops

  -- ---- what stays of the record

  -- what can be seen of it
  pub record SeemsSame (old new : Record D) : Type 0 where
    pub disk : new.disk ≡ old.disk
    pub node : new.node ≡ old.node
    pub cluster : new.cluster ≡ old.cluster
    pub gate : new.recorded.gate ≡ old.recorded.gate
    pub stopped : new.stopped ≡ old.stopped
    pub staged : new.staged.bytes.items ≡ old.staged.bytes.items
    pub base : new.staged.base ≡ old.staged.base
    pub kept : IsMemoryKept old.recorded new.recorded

  pub same_memory : (old new : Record D) → new ≡ old → IsMemoryKept old.recorded new.recorded
  same_memory old new is = record {
    round = ap (λ (r : Record D). r.recorded.round) is;
    greatest = ap (λ (r : Record D). r.recorded.greatest) is;
    slots = λ i. ap (λ (r : Record D). cell_at r.recorded.slots i) is;
    floor = ap (λ (r : Record D). r.recorded.floor) is;
    reach = ap (λ (r : Record D). r.recorded.reach) is;
  }

  pub same_store : (old new : Record D) → new ≡ old → SeemsSame old new
  same_store old new is = record {
    disk = ap (λ (r : Record D). r.disk) is;
    node = ap (λ (r : Record D). r.node) is;
    cluster = ap (λ (r : Record D). r.cluster) is;
    gate = ap (λ (r : Record D). r.recorded.gate) is;
    stopped = ap (λ (r : Record D). r.stopped) is;
    staged = ap (λ (r : Record D). r.staged.bytes.items) is;
    base = ap (λ (r : Record D). r.staged.base) is;
    kept = same_memory old new is;
  }

  pub unchanged_store : (old new : Record D) → IsUnchanged old new → SeemsSame old new
  unchanged_store old new unchanged = record {
    disk = ap (λ (r : Record D). r.disk) unchanged.same;
    node = ap (λ (r : Record D). r.node) unchanged.same;
    cluster = ap (λ (r : Record D). r.cluster) unchanged.same;
    gate = ap (λ (r : Record D). r.recorded.gate) unchanged.same;
    stopped = ap (λ (r : Record D). r.stopped) unchanged.same;
    staged = unchanged.staged;
    base = unchanged.base;
    kept = record {
      round = ap (λ (r : Record D). r.recorded.round) unchanged.same;
      greatest = ap (λ (r : Record D). r.recorded.greatest) unchanged.same;
      slots = unchanged.slots;
      floor = ap (λ (r : Record D). r.recorded.floor) unchanged.same;
      reach = ap (λ (r : Record D). r.recorded.reach) unchanged.same;
    };
  }

  still_kept : (old new : Record D) (entries : List Entry) → IsMemoryKept old.recorded new.recorded → IsKept entries old.recorded → IsKept entries new.recorded
  still_kept old new entries same kept = kept_same entries old.recorded new.recorded same kept

  pub same_record : (old new : Running D) (s t : Node) → KeepsOthers old new → SeemsSame old.store new.store → t.mode ≡ s.mode → t.entries ≡ s.entries → t.in_flight ≡ s.in_flight
      → IsOnRecord old.store old.cluster s.mode s.entries s.in_flight → IsOnRecord new.store new.cluster t.mode t.entries t.in_flight
  same_record old new s t others same mode entries in_flight on = record {
    mode_is = mode ∙ on.mode_is ∙ ap (λ b. cond b Stopped Up) (sym same.stopped);
    kept = subst (λ (es : List Entry). IsKept es new.store.recorded) (sym entries) (still_kept old.store new.store s.entries same.kept on.kept);
    history = subst (λ (n : ℕ). IsHistory n t.entries) (sym others.cluster) (subst (IsHistory old.cluster) (sym entries) on.history);
    settled = λ runs. in_flight ∙ on.settled (sym same.stopped ∙ runs);
  }

  -- ---- what is kept beside the record

  -- nothing of it has changed, except what was counted
  pub record KeepsRest (old new : Running D) : Type 0 where
    pub learner : new.learner ≡ old.learner
    pub known : new.known ≡ old.known
    pub queue : new.queue ≡ old.queue
    pub attempts : (attempts : ℕ → Option Attempt) → Attempting old.proposer attempts → Attempting new.proposer attempts
    pub heard : new.proposer.heard ≡ old.proposer.heard

  pub rest_with : (old new : Running D) (s t : Node) → KeepsOthers old new → HasParts old s → KeepsRest old new → IsOnRecord new.store new.cluster t.mode t.entries t.in_flight → t ≡ record s { mode = t.mode; entries = t.entries; in_flight = t.in_flight; reached = new.reached }
      → HasParts new t
  rest_with old new s t others parts rest on is =
      let u : Node = record s { mode = t.mode; entries = t.entries; in_flight = t.in_flight; reached = new.reached } in
      subst (λ (x : Node). HasParts new x) (sym is)
      (record {
        on_record = on;
        votes = λ x. subst (λ (l : Learner). IsTold l x ↔ In s.votes x) (sym rest.learner) (parts.votes x);
        known = rw (rest.known, others.releases) parts.known;
        attempts = rest.attempts s.attempts parts.attempts;
        pending = subst (λ (q : Queue). AreWaiting q.items.items s.pending) (sym rest.queue) parts.pending;
        heard = rest.heard ∙ parts.heard;
        reached = refl;
      })

  pub unmoved : (old new : Running D) (s : Node) → KeepsOthers old new → new.store ≡ old.store → KeepsRest old new → new.reached ≡ old.reached → HasParts old s → HasParts new s
  unmoved old new s others store rest reached parts =
      rest_with old new s s others parts rest (same_record old new s s others (same_store old.store new.store store) refl refl refl parts.on_record) (λ k. record s { reached = (sym parts.reached ∙ sym reached) k })

  -- which disk is under its record, and what waits in a batch, says nothing of which nodes it stands for
  pub over_another : (old new : Running D) (s : Node) → KeepsOthers old new → KeepsRest old new → new.reached ≡ old.reached → new.store.stopped ≡ old.store.stopped → new.store.recorded ≡ old.store.recorded
      → IsNodeOf old s → IsNodeOf new s
  over_another old new s others rest reached stopped recorded stands =
      let parts = stands.parts in
      let on = parts.on_record in
      record {
        parts = rest_with old new s s others parts rest (record {
          mode_is = on.mode_is ∙ ap (λ b. cond b Stopped Up) (sym stopped);
          kept = subst (IsKept s.entries) (sym recorded) on.kept;
          history = subst (λ (n : ℕ). IsHistory n s.entries) (sym others.cluster) on.history;
          settled = λ runs. on.settled (sym stopped ∙ runs);
        }) (λ k. record s { reached = (sym parts.reached ∙ sym reached) k });
        tidy = stands.tidy;
        ranges = subst (λ (n : ℕ). HasRanges n s) (sym others.cluster) stands.ranges;
        fed = subst (λ (vs : List Value). BeginsKnown vs s) (sym others.releases) stands.fed;
      }

  module _ (stands_for : D → DiskState → Type 0) where
    pub of_node : (store : Record D) (p n : ℕ) (d : DiskState) (entries : List Entry) → store.node ≡ p → store.cluster ≡ n → IsStored stands_for store d entries → Keeps p n entries None d
    of_node store p n d entries node cluster has =
        subst (λ (q : ℕ). Keeps q n entries None d) node (subst (λ (m : ℕ). Keeps store.node m entries None d) cluster (settled_keeps store.node store.cluster entries d has.settled has.reads.stands))

    -- the node is on the disk, or ahead of it, as it was before
    pub record Stays (old new : Running D) (s t : Node) : Type 0 where
      pub on_disk : StaysOnDisk stands_for old new s t
      pub ahead : StaysAhead stands_for old new s t

    is_open : (store : Record D) (d : DiskState) (earlier batch : List Entry) → IsAhead stands_for store d earlier batch → IsBatchOpen store
    is_open store d earlier batch ahead = omega (arith, waiting_size batch store.staged.bytes.items ahead.staged.waits.waiting)

    -- what waits in a batch is as it was
    still_ahead : (old new : Record D) (d : DiskState) (earlier batch : List Entry) → SeemsSame old new → IsAhead stands_for old d earlier batch → IsAhead stands_for new d earlier batch
    still_ahead old new d earlier batch same ahead =
        let has = ahead.staged in
        record {
          staged = record {
            stands = subst (λ (x : D). stands_for x d) (sym same.disk) has.stands;
            settled = has.settled;
            waits = subst (λ (p : ℕ). Waits p new.cluster d.seen earlier batch new.recorded.gate new.staged) (sym same.node) (subst (λ (n : ℕ). Waits old.node n d.seen earlier batch new.recorded.gate new.staged) (sym same.cluster)
                (waits_with old.node old.cluster d.seen earlier batch old.recorded.gate new.recorded.gate old.staged new.staged same.gate same.staged same.base has.waits));
            running = same.stopped ∙ has.running;
          };
          kept = still_kept old new (earlier ++ batch) same.kept ahead.kept;
        }

    stays_ahead : (old new : Running D) (s t : Node) → SeemsSame old.store new.store → t.entries ≡ s.entries → t.in_flight ≡ s.in_flight → StaysAhead stands_for old new s t
    stays_ahead old new s t same entries in_flight base d of = record {
      batch = of.batch;
      entries = entries ∙ of.entries;
      before = of.before;
      after = in_flight ∙ of.after;
      ahead = still_ahead old.store new.store d base.entries of.batch same of.ahead;
    }

    -- nothing was written
    pub still_on_disk : (old new : Running D) (s t : Node) (d : DiskState) → KeepsOthers old new → SeemsSame old.store new.store → t.entries ≡ s.entries → t.in_flight ≡ s.in_flight → IsOnDisk stands_for old s d → IsOnDisk stands_for new t d
    still_on_disk old new s t d others same entries in_flight on =
        let disk : stands_for new.store.disk d = subst (λ (x : D). stands_for x d) (sym same.disk) on.stands in
        record {
          stands = disk;
          keeps = subst (λ (p : ℕ). Keeps p new.cluster t.entries t.in_flight d) (sym others.me) (subst (λ (n : ℕ). Keeps old.me n t.entries t.in_flight d) (sym others.cluster)
              (subst (λ (es : List Entry). Keeps old.me old.cluster es t.in_flight d) (sym entries) (subst (λ (e : Option Entry). Keeps old.me old.cluster s.entries e d) (sym in_flight) on.keeps)));
          stored = λ runs.
              let has = on.stored (sym same.stopped ∙ runs) in
              subst (λ (es : List Entry). IsStored stands_for new.store d es) (sym entries) (record {
                stands = disk;
                settled = has.settled;
                reads = subst (λ (p : ℕ). StandsUpTo p new.store.cluster d.seen s.entries new.store.recorded.gate) (sym same.node) (subst (λ (n : ℕ). StandsUpTo old.store.node n d.seen s.entries new.store.recorded.gate) (sym same.cluster)
                    (subst (λ t. StandsUpTo old.store.node old.store.cluster d.seen s.entries t) (sym same.gate) has.reads));
                running = runs;
                none_staged = same.staged ∙ has.none_staged;
              });
        }

    written_nothing : (old new : Running D) (s t : Node) → KeepsOthers old new → SeemsSame old.store new.store → t.entries ≡ s.entries → t.in_flight ≡ s.in_flight → StaysOnDisk stands_for old new s t
    written_nothing old new s t others same entries in_flight d on = (d, still_on_disk old new s t d others same entries in_flight on, started d (IsEither old.me old.cluster s t) (λ left may. inl (on.keeps.left left may)))

    pub stays_there : (old new : Running D) (s t : Node) → KeepsOthers old new → SeemsSame old.store new.store → t.entries ≡ s.entries → t.in_flight ≡ s.in_flight → Stays old new s t
    stays_there old new s t others same entries in_flight = record { on_disk = written_nothing old new s t others same entries in_flight; ahead = stays_ahead old new s t same entries in_flight }

    -- ---- endings

    stands_after : (old new : Running D) (call : Call) (ending : Ending) (out : Handed) (s t : Node) → KeepsOthers old new → IsCallInRange old.cluster call → IsNodeOf old s → Ends old.cluster old.me s call ending out t
        → HasParts new t → IsNodeOf new t
    stands_after old new call ending out s t others in_range stands ends parts = record {
      parts = parts;
      tidy = stays_tidy old.cluster old.me s t call ending out ends stands.tidy;
      ranges = subst (λ (n : ℕ). HasRanges n t) (sym others.cluster) (stays_in_range old.cluster old.me s t call ending out old.of_cluster stands.ranges in_range ends);
      fed = subst (λ (vs : List Value). BeginsKnown vs t) (sym others.releases) (beginning_stays old.cluster old.me s t call ending out ends old.releases stands.fed);
    }

    leads : (old new : Running D) (call : Call) (ending : Ending) (before after out : Handed) (s t : Node) → KeepsOthers old new → IsCallInRange old.cluster call → IsNodeOf old s → Ends old.cluster old.me s call ending out t
        → HasParts new t → Stays old new s t → after ≡ before ++ out → Leads stands_for old new call ending before after s
    leads old new call ending before after out s t others in_range stands ends parts stays told = record {
      next = t;
      out = out;
      ends = ends;
      stands = stands_after old new call ending out s t others in_range stands ends parts;
      on_disk = stays.on_disk;
      ahead = stays.ahead;
      outbox = told;
      few = says_few old.cluster old.me s t call ending out ends stands.tidy in_range;
      messages = says_messages old.cluster old.me s t call ending out old.of_cluster stands.parts.on_record.history stands.tidy stands.ranges in_range ends;
    }

    -- what the call does, and that the new value has the parts of the node after it
    pub record Done (old new : Running D) (call : Call) (out : Handed) (s : Node) : Type 0 where
      pub effect : Effect
      pub does : Does old.cluster old.me s call effect
      pub handed : effect.out ≡ out
      pub parts : HasParts new (recorded s effect)
      pub stays : Stays old new s (recorded s effect)

    pub whole : (old new : Running D) (call : Call) (before after out : Handed) → KeepsOthers old new → old.store.stopped ≡ false → IsCallInRange old.cluster call → after ≡ before ++ out
        → ((s : Node) → IsNodeOf old s → Done old new call out s) → IsEvent stands_for old new call Whole before after
    whole old new call before after out others runs in_range told done = record {
      leads = λ s stands.
          let how = done s stands in
          let ends : EndsWhole old.cluster old.me s call out (recorded s how.effect) = record {
            effect = how.effect;
            running = is_up old s stands.parts runs;
            does = how.does;
            handed_out = sym how.handed;
            node = refl;
          } in
          leads old new call Whole before after out s (recorded s how.effect) others in_range stands ends how.parts how.stays told;
    }

    pub refused : (old new : Running D) (call : Call) (cause : NodeFault) (before after : Handed) → KeepsOthers old new → IsCallInRange old.cluster call → after ≡ before → ((s : Node) → IsNodeOf old s → Refuses s call cause)
        → SeemsSame old.store new.store → ((s : Node) → HasParts old s → HasParts new s) → IsEvent stands_for old new call (Refused cause) before after
    refused old new call cause before after others in_range told why store same = record {
      leads = λ s stands.
          let ends : EndsRefused s call cause [] s = record { refuses = why s stands; nothing = refl; node = refl } in
          leads old new call (Refused cause) before after [] s s others in_range stands ends (same s stands.parts) (stays_there old new s s others store refl refl) (told ∙ sym (append-nil before));
    }

    -- a node that is stopped is left as it is
    pub refused_stopped : (old : Running D) (call : Call) (before : Handed) → IsCallInRange old.cluster call → old.store.stopped ≡ true → IsEvent stands_for old old call (Refused fault.Stopped) before before
    refused_stopped old call before in_range stops =
        refused old old call fault.Stopped before before (record { me = refl; cluster = refl; releases = refl }) in_range refl (λ s stands. is_down old s stands.parts stops) (same_store old.store old.store refl) (λ s parts. parts)

    -- another value of the same parts stands for the same nodes
    pub carried : (old new now : Running D) (call : Call) (ending : Ending) (before after : Handed) → KeepsOthers new now → now.store ≡ new.store → KeepsRest new now → now.reached ≡ new.reached
        → IsEvent stands_for old new call ending before after → IsEvent stands_for old now call ending before after
    carried old new now call ending before after others store rest reached event = record {
      leads = λ s stands.
          let led = event.leads s stands in
          let seems = same_store new.store now.store store in
          record {
            next = led.next;
            out = led.out;
            ends = led.ends;
            stands = record {
              parts = unmoved new now led.next others store rest reached led.stands.parts;
              tidy = led.stands.tidy;
              ranges = subst (λ (n : ℕ). HasRanges n led.next) (sym others.cluster) led.stands.ranges;
              fed = subst (λ (vs : List Value). BeginsKnown vs led.next) (sym others.releases) led.stands.fed;
            };
            on_disk = λ d on. let there = led.on_disk d on in (there.0, still_on_disk new now led.next led.next there.0 others seems refl refl there.1, there.2);
            ahead = λ t d of. stays_ahead new now led.next led.next seems refl refl t d (led.ahead t d of);
            outbox = led.outbox;
            few = led.few;
            messages = led.messages;
          };
    }

    -- want of memory, by the fault that was made of another
    pub wants_memory : {T : Type 0} (old new : Running D) (call : Call) (r : Result T NodeFault) (before after : Handed) → KeepsOthers old new → IsCallInRange old.cluster call → after ≡ before
        → IsErrAnd r (λ y. y ≡ fault.OutOfMemory) → ((s : Node) → IsNodeOf old s → Refuses s call fault.OutOfMemory) → SeemsSame old.store new.store → ((s : Node) → HasParts old s → HasParts new s)
        → IsEvent stands_for old new call (ending_of r) before after
    wants_memory old new call r before after others in_range told is why store same =
        subst (λ ending. IsEvent stands_for old new call ending before after) (sym (ending_err r fault.OutOfMemory is)) (refused old new call fault.OutOfMemory before after others in_range told why store same)

    -- ---- a put

    module _ (failed : D → ℕ) (old new : Running D) (entry : Entry) (others : KeepsOthers old new) (runs : old.store.stopped ≡ false) where
      is_ready : (s : Node) (d : DiskState) → HasParts old s → IsOnDisk stands_for old s d → IsReady stands_for old.store d s.entries
      is_ready s d parts on = record { stored = on.stored runs; kept = parts.on_record.kept }

      mine : (file : List ℕ) (entries : List Entry) → IsFound old.store.node old.store.cluster entries (Some entry) file → IsFound old.me old.cluster entries (Some entry) file
      mine file entries found =
          subst (λ (p : ℕ). IsFound p old.cluster entries (Some entry) file) old.store_node (subst (λ (n : ℕ). IsFound old.store.node n entries (Some entry) file) old.store_cluster found)

      follows : (s : Node) → HasParts old s → ((entries : List Entry) → IsKept entries old.store.recorded → MayFollow old.store.cluster entries entry) → IsHistory old.cluster (s.entries ++ entry ∷ [])
      follows s parts may = history-push old.cluster s.entries entry parts.on_record.history (subst (λ (n : ℕ). MayFollow n s.entries entry) old.store_cluster (may s.entries parts.on_record.kept))

      -- one that succeeds has the entry on record
      pub put_record : (s : Node) → HasParts old s → IsPut old.store new.store entry → IsOnRecord new.store new.cluster s.mode (s.entries ++ entry ∷ []) s.in_flight
      put_record s parts put = record {
        mode_is = is_up old s parts runs ∙ ap (λ b. cond b Stopped Up) (sym put.running);
        kept = put.kept s.entries parts.on_record.kept;
        history = subst (λ (n : ℕ). IsHistory n (s.entries ++ entry ∷ [])) (sym others.cluster) (follows s parts put.follows);
        settled = λ still. parts.on_record.settled runs;
      }

      -- and on the disk
      put_there : (s t : Node) → HasParts old s → Acknowledges stands_for old.store new.store entry → t.entries ≡ s.entries ++ entry ∷ [] → t.in_flight ≡ s.in_flight → StaysOnDisk stands_for old new s t
      put_there s t parts put entries in_flight d on =
          let after = put d s.entries (is_ready s d parts on) in
          let has : IsStored stands_for new.store after.0 t.entries = subst (λ (es : List Entry). IsStored stands_for new.store after.0 es) (sym entries) after.1.stored in
          let none : t.in_flight ≡ None = in_flight ∙ parts.on_record.settled runs in (
            after.0,
            record {
              stands = has.stands;
              keeps = subst (λ (e : Option Entry). Keeps new.me new.cluster t.entries e after.0) (sym none) (of_node new.store new.me new.cluster after.0 t.entries new.store_node new.store_cluster has);
              stored = λ still. has;
            },
            weaker d after.0 (IsFound old.store.node old.store.cluster s.entries (Some entry)) (IsEither old.me old.cluster s t) (λ file found. either file t (mine file s.entries found) entries) after.2,
          )
        where
          either : (file : List ℕ) (t : Node) → IsFound old.me old.cluster s.entries (Some entry) file → t.entries ≡ s.entries ++ entry ∷ [] → IsEither old.me old.cluster s t file
          either file t found is = ⊎_elim (λ without. inl (found.0, inl without, found.2)) (λ with. inr (found.0, inl (with ∙ sym is), found.2)) found.1

      -- or in the batch
      put_ahead : (s t : Node) → (IsBatchOpen old.store → GoesAhead stands_for old.store new.store entry) → t.entries ≡ s.entries ++ entry ∷ [] → t.in_flight ≡ s.in_flight → StaysAhead stands_for old new s t
      put_ahead s t put entries in_flight base d of = record {
        batch = of.batch ++ entry ∷ [];
        entries = entries ∙ ap (λ (l : List Entry). l ++ entry ∷ []) of.entries ∙ append_assoc base.entries of.batch (entry ∷ []);
        before = of.before;
        after = in_flight ∙ of.after;
        ahead = put (is_open old.store d base.entries of.batch of.ahead) d base.entries of.batch of.ahead;
      }

      pub put_stays : (s t : Node) → HasParts old s → Acknowledges stands_for old.store new.store entry → (IsBatchOpen old.store → GoesAhead stands_for old.store new.store entry)
          → t.entries ≡ s.entries ++ entry ∷ [] → t.in_flight ≡ s.in_flight → Stays old new s t
      put_stays s t parts put batched entries in_flight = record { on_disk = put_there s t parts put entries in_flight; ahead = put_ahead s t batched entries in_flight }

      -- one that was cut short leaves the entry in flight
      cut_record : (s : Node) → HasParts old s → IsMemoryKept old.store.recorded new.store.recorded → new.store.stopped ≡ true → IsOnRecord new.store new.cluster Stopped s.entries (Some entry)
      cut_record s parts same stops = record {
        mode_is = ap (λ b. cond b Stopped Up) (sym stops);
        kept = still_kept old.store new.store s.entries same parts.on_record.kept;
        history = subst (λ (n : ℕ). IsHistory n s.entries) (sym others.cluster) parts.on_record.history;
        settled = λ still. absurd (off (sym stops ∙ still));
      }

      cut_there : (s : Node) → HasParts old s → new.store.stopped ≡ true → LeavesInFlight stands_for old.store new.store entry → StaysOnDisk stands_for old new s (record s { mode = Stopped; in_flight = Some entry })
      cut_there s parts stops left d on =
          let after = left d s.entries (is_ready s d parts on) in
          let me : old.store.node ≡ new.me = old.store_node ∙ sym others.me in
          let cluster : old.store.cluster ≡ new.cluster = old.store_cluster ∙ sym others.cluster in (
            after.0,
            record {
              stands = after.1;
              keeps = subst (λ (p : ℕ). Keeps p new.cluster s.entries (Some entry) after.0) me (subst (λ (n : ℕ). Keeps old.store.node n s.entries (Some entry) after.0) cluster after.3);
              stored = λ still. absurd (off (sym stops ∙ still));
            },
            weaker d after.0 (IsFound old.store.node old.store.cluster s.entries (Some entry)) (IsEither old.me old.cluster s (record s { mode = Stopped; in_flight = Some entry })) (λ file found. inr (mine file s.entries found)) after.2,
          )

      pub put_fails : {T : Type 0} (call : Call) (e : RecordFault) (r : Result T NodeFault) (before after : Handed) → IsCallInRange old.cluster call → KeepsRest old new → new.reached ≡ old.reached → after ≡ before
          → Puts stands_for failed old.store new.store entry (Err e) → IsErrAnd r (λ y. y ≡ of_record e)
          → ((s : Node) → IsNodeOf old s → (effect : Effect) × Does old.cluster old.me s call effect × (effect.entry ≡ Some entry))
          → ((s : Node) → IsNodeOf old s → Refuses s call fault.OutOfMemory)
          → IsEvent stands_for old new call (ending_of r) before after
      put_fails call e r before after in_range rest reached told puts is does wants =
          subst (λ ending. IsEvent stands_for old new call ending before after) (sym (ending_err r (of_record e) is)) (⊎_elim cut (λ x. unchanged x.1 (other x.0)) puts.others)
        where
          -- of the faults that leave all as it was, this is the node's
          other : (IsErrOf {T = Unit {0}} (Err e) stored.Stopped ⊎ (IsErrOf {T = Unit {0}} (Err e) stored.Full ⊎ IsErrOf {T = Unit {0}} (Err e) stored.OutOfMemory)) → of_record e ≡ fault.OutOfMemory
          other x = ⊎_elim (λ was. absurd (off (sym (puts.was_stopped.0 was) ∙ runs))) (λ y. ⊎_elim (λ full. ap of_record (inside e stored.Full full)) (λ memory. ap of_record (inside e stored.OutOfMemory memory)) y) x

          unchanged : IsUnchanged old.store new.store → of_record e ≡ fault.OutOfMemory → IsEvent stands_for old new call (ending_by (of_record e)) before after
          unchanged same memory =
              let store = unchanged_store old.store new.store same in
              subst (λ (f : NodeFault). IsEvent stands_for old new call (ending_by f) before after) (sym memory)
              (refused old new call fault.OutOfMemory before after others in_range told wants store
              (λ s parts. rest_with old new s s others parts rest (same_record old new s s others store refl refl refl parts.on_record) (λ k. record s { reached = (sym parts.reached ∙ sym reached) k })))

          cut : IsErrOf {T = Unit {0}} (Err e) stored.Device → IsEvent stands_for old new call (ending_by (of_record e)) before after
          cut device =
              let short = puts.cut_short device in
              subst (λ (f : RecordFault). IsEvent stands_for old new call (ending_by (of_record f)) before after) (sym (inside e stored.Device device))
              (record {
                leads = λ s stands.
                    let how = does s stands in
                    let t : Node = record s { mode = Stopped; in_flight = Some entry } in
                    let ends : EndsFailed old.cluster old.me s call [] t = record {
                      effect = how.0;
                      entry = entry;
                      running = is_up old s stands.parts runs;
                      does = how.1;
                      puts = how.2;
                      nothing = refl;
                      node = refl;
                    } in
                    leads old new call Failed before after [] s t others in_range stands ends
                    (rest_with old new s t others stands.parts rest (cut_record s stands.parts puts.kept short.stops) (λ k. record t { reached = (sym stands.parts.reached ∙ sym reached) k }))
                    (record {
                      on_disk = cut_there s stands.parts short.stops short.in_flight;
                      ahead = λ base d of. absurd ((puts.batched (is_open old.store d base.entries of.batch of.ahead)).no_device device);
                    }) (told ∙ sym (append-nil before));
              })

    -- an entry is on record, and nothing else changes
    pub put_alone : (failed : D → ℕ) (old new : Running D) (call : Call) (entry : Entry) (before : Handed) → KeepsOthers old new → old.store.stopped ≡ false → IsCallInRange old.cluster call → KeepsRest old new
        → new.reached ≡ old.reached → Puts stands_for failed old.store new.store entry (Ok tt)
        → ((s : Node) → IsNodeOf old s → Does old.cluster old.me s call (record { entry = Some entry; after = s; out = [] }))
        → IsEvent stands_for old new call Whole before before
    put_alone failed old new call entry before others runs in_range rest reached puts does =
        whole old new call before before [] others runs in_range (sym (append-nil before)) (λ s stands.
        let t : Node = record s { entries = s.entries ++ entry ∷ [] } in
        record {
          effect = record { entry = Some entry; after = s; out = [] };
          does = does s stands;
          handed = refl;
          parts = rest_with old new s t others stands.parts rest (put_record failed old new entry others runs s stands.parts puts.put) (λ k. record t { reached = (sym (reached ∙ stands.parts.reached)) k });
          stays = put_stays failed old new entry others runs s t stands.parts puts.acknowledged (λ open_now. (puts.batched open_now).ahead) refl refl;
        })
