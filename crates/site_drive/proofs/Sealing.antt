-- A batch that is sealed, or lost.
use Rattle.std.proofs.Common.{◌≡◌, ◌≢◌, ◌⊎◌, inl, inr, ⊎_elim, true, false, Bool, if◌then◌else◌, ℕ, ◌+◌, ◌<◌, Some, None, List, [], Result, Err, refl, sym, ap, subst, ◌∙◌, append-nil}
use Rattle.site_ids.specs.Ids.{IsInstance}
use Rattle.site_disk.specs.Model.{DiskState, LeavesOnly}
use Rattle.wire.specs.declared.message.Message.{Message}
use Rattle.durable.specs.Batches.{KeepsNoneOrAll}
use Rattle.durable.specs.Entries.{Entry}
use Rattle.durable.proofs.Moments.{started}
use Rattle.node.specs.declared.fault.NodeFault.{NodeFault}
use Rattle.node.specs.declared.fault.NodeFault.TheVariants as fault
use Rattle.node.specs.declared.to.To.{To}
use Rattle.node.specs.declared.to.To.TheVariants.{One}
use Rattle.node.specs.declared.node.Node.{Node as Running}
use Rattle.node.specs.Ahead.{IsAheadOf}
use Rattle.node.specs.Batches.{BeginsAt, SealsAt, LosesOneOf}
use Rattle.node.specs.Calls.{Call, tick, widen, ask, tell, deliver, keep}
use Rattle.node.specs.Endings.{Whole, Failed, Ends}
use Rattle.node.specs.Nodes.{Node, Up, Stopped, IsKnownPrefix}
use Rattle.node.specs.Standing.{HasParts, IsNodeOf, IsOnDisk, IsEither, KeepsOthers, StaysOnDisk}
use Rattle.node.proofs.Stepping.{is_down}
use Rattle.site_drive.specs.declared.last_call.LastCall.{LastCall}
use Rattle.site_drive.specs.declared.last_call.LastCall.TheVariants.{TickOrAsk, Widen, Ask, Tell, Keep, Nothing}
use Rattle.site_drive.specs.Drives.{EndsLast, KeepsEach}
use Rattle.site_drive.specs.Leading.{NodeLeads, StaysWhose}
use Rattle.site_drive.specs.Batches.{IsStop, Works, GivesUpTaking, GivesUpWork, HasWorked, LeadsSealed, TakesBatch, GivesUpBatch, LosesBatch}
use Rattle.site_drive.proofs.Results.{same_err}

pub of_others : {D : Type 0} (old new : Running D) → KeepsOthers old new → StaysWhose old new
of_others old new others = record { me = others.me; cluster = others.cluster; more = ([], others.releases ∙ sym (append-nil old.releases)) }

pub others_on : {D : Type 0} (old mid new : Running D) → KeepsOthers old mid → KeepsOthers mid new → KeepsOthers old new
others_on old mid new a b = record { me = b.me ∙ a.me; cluster = b.cluster ∙ a.cluster; releases = b.releases ∙ a.releases }

-- a seal that is refused is told so
pub stop_of : {T : Type 0} (told why : NodeFault) → told ≡ why → ◌⊎◌ (◌≡◌ {A = Result T NodeFault} (Err why) (Err fault.Stopped)) (◌≡◌ {A = Result T NodeFault} (Err why) (Err fault.Device)) → IsStop told
stop_of told why is causes = ⊎_elim (λ stopped. inr (is ∙ same_err stopped)) (λ device. inl (is ∙ same_err device)) causes

-- a seal is refused where the record had stopped, so that no batch is open, or by the device
pub either_lost : {D : Type 0} (stands_for : D → DiskState → Type 0) (mid : Running D) (disk : D) (Stops Fails : Type 0) → Stops ⊎ Fails → (Stops → mid.store.stopped ≡ true) → (Fails → LosesOneOf stands_for mid disk) → LosesOneOf stands_for mid disk
either_lost stands_for mid disk Stops Fails causes stops loses s t d of = ⊎_elim (λ stopped. let no : true ≡ false = sym (stops stopped) ∙ of.ahead.staged.running in absurd (cc)) (λ failed. loses failed s t d of) causes

-- ---- a call that the device fails

record Fails (s : Node) : Type 0 where
  stopped : s.mode ≡ Stopped
  entry : Entry
  in_flight : s.in_flight ≡ Some entry

by_call : (n p : ℕ) (s next : Node) (call : Call) (out : List (To × Message)) → Ends n p s call Failed out next → Fails next
by_call n p s next call out h = record { stopped = ap (λ u. u.mode) h.node; entry = h.entry; in_flight = ap (λ u. u.in_flight) h.node }

not_memory : fault.Device ≡ fault.OutOfMemory → ⊥
not_memory e = cc

by_keeping : (n p i count : ℕ) (s next : Node) → KeepsEach n p i count s Failed next → Fails next
by_keeping n p i count s next h = from h.then
  where
    from : ((Failed ≡ Whole) × (next ≡ h.mid) × ((h.whole ≡ count) ⊎ ¬ IsInstance (i + h.whole)))
        ⊎ ((Failed ≢ Whole) × (h.whole < count) × Ends n p h.mid (keep (i + h.whole)) Failed [] next) → Fails next
    from (inl all) = let no : Failed ≡ Whole = all.0 in absurd (cc)
    from (inr one) = by_call n p h.mid next (keep (i + h.whole)) [] one.2

by_last : (last : LastCall) (n p : ℕ) (s next : Node) (out : List (To × Message)) → EndsLast last n p s Failed out next → Fails next
by_last TickOrAsk n p s next out (inl (wants, inl short)) = by_call n p s next tick out short.1
by_last TickOrAsk n p s next out (inl (wants, inr all)) = by_call n p all.widens.mid next widen [] all.widens.last
by_last TickOrAsk n p s next out (inr asks) = by_call n p s next ask out asks.1
by_last Widen n p s next out widens = by_call n p widens.mid next widen [] widens.last
by_last Ask n p s next out asks = by_call n p s next ask out asks
by_last (Tell q i) n p s next out tells = by_call n p s next (tell (One q) i) out tells
by_last (Keep i count) n p s next out keeps = by_keeping n p i count s next keeps.0
by_last Nothing n p s next out none = let whole : Failed ≡ Whole = none.0 in absurd (cc)

by_taking : (n p : ℕ) (came : List (List ℕ)) (s next : Node) → GivesUpTaking n p came fault.Device s next → Fails next
by_taking n p came s next h =
    ⊎_elim (λ (ends : Ends n p h.mid (deliver h.breaks.0) Failed [] next). by_call n p h.mid next (deliver h.breaks.0) [] ends) (λ memory. absurd (not_memory memory.0)) h.breaks.2

fails : (last : LastCall) (n p : ℕ) (came : List (List ℕ)) (s next : Node) → GivesUpWork last n p came fault.Device s next → Fails next
fails last n p came s next (inl h) = by_taking n p came s next h
fails last n p came s next (inr h) = by_last last n p h.mid next h.then h.ends

up_or_stopped : (b : Bool) → (if b then Stopped else Up) ≡ Stopped → b ≡ true
up_or_stopped true e = refl
up_or_stopped false e = let no : Up ≡ Stopped = e in absurd (cc)

stopped_by : {D : Type 0} (code : Running D) (s : Node) → HasParts code s → s.mode ≡ Stopped → code.store.stopped ≡ true
stopped_by code s parts stopped = up_or_stopped code.store.stopped (sym parts.on_record.mode_is ∙ stopped)

module _ {D : Type 0} (stands_for : D → DiskState → Type 0) where
  -- ---- not begun

  module _ (old new : Running D) (last : LastCall) (n p : ℕ) (came : List (List ℕ)) (same : (s : Node) → IsNodeOf old s → IsNodeOf new s)
      (on_disk : (s : Node) (d : DiskState) → IsOnDisk stands_for old s d → IsOnDisk stands_for new s d)
    where
      pub not_begun : (why told : NodeFault) → told ≡ why → ((why ≡ fault.Stopped) ⊎ (why ≡ fault.OutOfMemory)) → (why ≡ fault.Stopped → old.store.stopped ≡ true)
          → LeadsSealed stands_for old new (GivesUpBatch last n p came told)
      not_begun why told is causes stops = subst (λ w. LeadsSealed stands_for old new (GivesUpBatch last n p came w)) (sym is) (record {
        leads = λ s stands. (
          s,
          ⊎_elim (λ stopped. inl (stopped, is_down old s stands.parts (stops stopped), refl)) (λ memory. inr (inr (memory, inl refl))) causes,
          same s stands,
          λ d on. (d, on_disk s d on, started d (IsEither old.me old.cluster s s) (λ left may. inl (on.keeps.left left may))),
        );
      })

  -- a publication after the seal leaves the disk alone
  pub published : (mid new public : Running D) → ((s : Node) (d : DiskState) → IsOnDisk stands_for new s d → IsOnDisk stands_for public s d) → SealsAt stands_for mid new → SealsAt stands_for mid public
  published mid new public on_disk seals = λ s t d stands of. let e = seals s t d stands of in (e.0, on_disk t e.0 e.1, e.2)

  -- ---- begun

  module _ (old begun mid : Running D) (begins : BeginsAt stands_for old begun) (same : (s : Node) → IsNodeOf old s → IsNodeOf begun s) (others : KeepsOthers old mid) where
    from_begun : (How : Node → Node → Type 0) → NodeLeads stands_for begun mid How → (s : Node) → IsNodeOf old s
        → (t : Node) × How s t × IsNodeOf mid t × ((d : DiskState) → IsOnDisk stands_for old s d → IsAheadOf stands_for mid s t d)
    from_begun How h s stands =
        let r = h.leads s (same s stands) in
        (r.0, r.1, r.2, λ d on. r.4 s d (begins s d stands on))

    either_mine : (d e : DiskState) (s t : Node) → LeavesOnly d e (IsEither mid.me mid.cluster s t) → LeavesOnly d e (IsEither old.me old.cluster s t)
    either_mine d e s t only = subst (λ (p : ℕ). LeavesOnly d e (IsEither p old.cluster s t)) others.me (subst (λ (n : ℕ). LeavesOnly d e (IsEither mid.me n s t)) others.cluster only)

    -- ---- and sealed

    module _ (new : Running D) (kept : (s : Node) → IsNodeOf mid s → IsNodeOf new s) (seals : SealsAt stands_for mid new) where
      sealed_there : (s t : Node) → IsNodeOf mid t → ((d : DiskState) → IsOnDisk stands_for old s d → IsAheadOf stands_for mid s t d) → StaysOnDisk stands_for old new s t
      sealed_there s t stands ahead d on = let e = seals s t d stands (ahead d on) in (e.0, e.1, either_mine d e.0 s t e.2)

      sealed_so : (How Other : Node → Node → Type 0) → ((s t : Node) → IsNodeOf mid t → How s t → Other s t) → NodeLeads stands_for begun mid How → LeadsSealed stands_for old new Other
      sealed_so How Other so h = record {
        leads = λ s stands.
            let r = from_begun How h s stands in
            (r.0, so s r.0 r.2 r.1, kept r.0 r.2, sealed_there s r.0 r.2 r.3);
      }

      module _ (last : LastCall) (n p : ℕ) (came : List (List ℕ)) where
        pub sealed : (malformed : ℕ) (out : List (To × Message)) (fed : List (List ℕ)) → ((s : Node) → IsNodeOf mid s → IsKnownPrefix s fed) → NodeLeads stands_for begun mid (Works last n p came malformed out)
            → LeadsSealed stands_for old new (TakesBatch last n p came malformed out fed)
        sealed malformed out fed known worked =
            sealed_so (Works last n p came malformed out) (TakesBatch last n p came malformed out fed) (λ s t stands w. record { works = w; fed_is = known t stands }) worked

        -- an allocation failed as the node published
        pub sealed_alone : (malformed : ℕ) (out : List (To × Message)) (why told : NodeFault) → told ≡ why → why ≡ fault.OutOfMemory → NodeLeads stands_for begun mid (Works last n p came malformed out)
            → LeadsSealed stands_for old new (GivesUpBatch last n p came told)
        sealed_alone malformed out why told is memory worked =
            sealed_so (Works last n p came malformed out) (GivesUpBatch last n p came told) (λ s t stands w. inr (inr (is ∙ memory, inr (malformed, out, w)))) worked

        pub sealed_given_up : (why told : NodeFault) → told ≡ why → NodeLeads stands_for begun mid (GivesUpWork last n p came why) → LeadsSealed stands_for old new (GivesUpBatch last n p came told)
        sealed_given_up why told is gave_up =
            sealed_so (GivesUpWork last n p came why) (GivesUpBatch last n p came told) (λ s t stands w. inr (inl (subst (λ x. GivesUpWork last n p came x s t) (sym is) w))) gave_up

    -- ---- or lost

    module _ (last : LastCall) (came : List (List ℕ)) where
      -- a batch that a call of its work has lost was not ahead
      failed_ahead : (s t : Node) (d : DiskState) → GivesUpWork last old.cluster old.me came fault.Device s t → IsAheadOf stands_for mid s t d → ⊥
      failed_ahead s t d gave_up of =
          let no : Some (fails last old.cluster old.me came s t gave_up).entry ≡ None = sym (fails last old.cluster old.me came s t gave_up).in_flight ∙ of.after in
          absurd (cc)

      pub failed : NodeLeads stands_for begun mid (GivesUpWork last old.cluster old.me came fault.Device) → LosesBatch stands_for last came old mid
      failed gave_up = record {
        loses = λ s stands.
            let r = from_begun (GivesUpWork last old.cluster old.me came fault.Device) gave_up s stands in
            (r.0, inr (inl (fault.Device, r.1)), stopped_by mid r.0 r.2.parts (fails last old.cluster old.me came s r.0 r.1).stopped, λ d on. absurd (failed_ahead s r.0 d r.1 (r.3 d on)));
      }

      module _ (new : Running D) (stops : new.store.stopped ≡ true) (loses : LosesOneOf stands_for mid new.store.disk) where
        pub lost : NodeLeads stands_for begun mid (HasWorked last old.cluster old.me came) → LosesBatch stands_for last came old new
        lost worked = record {
          loses = λ s stands.
              let r = from_begun (HasWorked last old.cluster old.me came) worked s stands in
              let t = r.0 in (
                t,
                r.1,
                stops,
                λ d on.
                    let of = r.3 d on in
                    let e = loses s t d of in (
                      e.0,
                      e.1,
                      either_mine d e.0 s t e.2,
                      (of.batch, of.entries, subst (λ (p : ℕ). KeepsNoneOrAll p old.cluster s.entries of.batch e.0) others.me (subst (λ (n : ℕ). KeepsNoneOrAll mid.me n s.entries of.batch e.0) others.cluster e.3)),
                    ),
              );
        }

  -- the work, whole or given up
  pub has_worked : (old new : Running D) (last : LastCall) (n p : ℕ) (came : List (List ℕ)) (malformed : ℕ) (out : List (To × Message))
      → NodeLeads stands_for old new (Works last n p came malformed out) → NodeLeads stands_for old new (HasWorked last n p came)
  has_worked old new last n p came malformed out h = record { leads = λ s stands. let r = h.leads s stands in (r.0, inl (malformed, out, r.1), r.2, r.3, r.4) }

  pub has_given_up : (old new : Running D) (last : LastCall) (n p : ℕ) (came : List (List ℕ)) (why : NodeFault)
      → NodeLeads stands_for old new (GivesUpWork last n p came why) → NodeLeads stands_for old new (HasWorked last n p came)
  has_given_up old new last n p came why h = record { leads = λ s stands. let r = h.leads s stands in (r.0, inr (inl (why, r.1)), r.2, r.3, r.4) }
