-- A batch of calls that is sealed.
use Rattle.std.proofs.Common.{◌≡◌, ℕ, inl, inr, ⊎_elim, Option, Result, Ok, Err, List, refl, sym, subst}
use Rattle.std.specs.Result.{IsErrAnd, IsErrOf}
use Rattle.site_disk.specs.Model.{DiskState, LeavesOnly}
use Rattle.durable.specs.Batches.{IsNoneOrAll, KeepsNoneOrAll, Seals, LeavesBatch}
use Rattle.durable.specs.Entries.{Entry}
use Rattle.durable.specs.Keeping.{Keeps}
use Rattle.durable.specs.Ready.{IsStored}
use Rattle.durable.specs.Standing.{StandsFor}
use Rattle.durable.specs.declared.fault.RecordFault.{RecordFault}
use Rattle.durable.specs.declared.fault.RecordFault.TheVariants as stored
use Rattle.durable.specs.declared.record.Record.{Record}
use Rattle.durable.proofs.Moments.{weaker}
use Rattle.node.specs.declared.fault.NodeFault.{NodeFault}
use Rattle.node.specs.declared.fault.NodeFault.TheVariants as fault
use Rattle.node.specs.declared.node.Node.{Node as Running}
use Rattle.node.specs.Nodes.{Node}
use Rattle.node.specs.Ahead.{IsAheadOf}
use Rattle.node.specs.Batches.{SealsAt, LosesOneOf}
use Rattle.node.specs.Faults.{of_record}
use Rattle.node.specs.Standing.{IsEither}
use Rattle.node.proofs.Stepping.{of_node}

-- a failure of the device is the record's
pub device_below : {T : Type 0} (r : Result T NodeFault) (e : RecordFault) → IsErrAnd r (λ y. y ≡ of_record e) → IsErrOf r fault.Device → e ≡ stored.Device
device_below (Ok x) e told is = absurd told
device_below (Err y) stored.Device told is = refl
device_below (Err y) stored.OutOfMemory told is = absurd (cc)
device_below (Err y) stored.NotARecord told is = absurd (cc)
device_below (Err y) stored.WrongNode told is = absurd (cc)
device_below (Err y) stored.Full told is = absurd (cc)
device_below (Err y) stored.Damaged told is = absurd (cc)
device_below (Err y) stored.Stopped told is = absurd (cc)

module _ {D : Type 0} (stands_for : D → DiskState → Type 0) (old : Running D) where
  -- none or all of the entries of a batch are those of its first node or its last
  module _ (s t : Node) (d : DiskState) (of : IsAheadOf stands_for old s t d) where
    mine : (entries : List Entry) (file : List ℕ) → StandsFor old.store.node old.store.cluster file entries → StandsFor old.me old.cluster file entries
    mine entries file stands = subst (λ (p : ℕ). StandsFor p old.cluster file entries) old.store_node (subst (λ (n : ℕ). StandsFor old.store.node n file entries) old.store_cluster stands)

    either : (file : List ℕ) → IsNoneOrAll old.store.node old.store.cluster s.entries of.batch file → IsEither old.me old.cluster s t file
    either file is = ⊎_elim
        (λ none. inl (s.entries, inl refl, mine s.entries file none))
        (λ all. inr (t.entries, inl refl, mine t.entries file (subst (λ (es : List Entry). StandsFor old.store.node old.store.cluster file es) (sym of.entries) all)))
        is

    leaves_either : (e : DiskState) → LeavesOnly d e (IsNoneOrAll old.store.node old.store.cluster s.entries of.batch) → LeavesOnly d e (IsEither old.me old.cluster s t)
    leaves_either e only = weaker d e (IsNoneOrAll old.store.node old.store.cluster s.entries of.batch) (IsEither old.me old.cluster s t) either only

    keeps_mine : (e : DiskState) → KeepsNoneOrAll old.store.node old.store.cluster s.entries of.batch e → KeepsNoneOrAll old.me old.cluster s.entries of.batch e
    keeps_mine e keeps =
        subst (λ (p : ℕ). KeepsNoneOrAll p old.cluster s.entries of.batch e) old.store_node (subst (λ (n : ℕ). KeepsNoneOrAll old.store.node n s.entries of.batch e) old.store_cluster keeps)

  pub seals_at : (new : Running D) → Seals stands_for old.store new.store → SealsAt stands_for old new
  seals_at new seals s t d stands of =
      let after = seals d s.entries of.batch of.ahead in
      let has : IsStored stands_for new.store after.0 t.entries = subst (λ (es : List Entry). IsStored stands_for new.store after.0 es) (sym of.entries) after.1.stored in (
        after.0,
        record {
          stands = has.stands;
          keeps = subst (λ (e : Option Entry). Keeps new.me new.cluster t.entries e after.0) (sym of.after) (of_node stands_for new.store new.me new.cluster after.0 t.entries new.store_node new.store_cluster has);
          stored = λ _. has;
        },
        leaves_either s t d of after.0 after.2,
      )

  pub loses_one_of : (store : Record D) → LeavesBatch stands_for old.store store → LosesOneOf stands_for old store.disk
  loses_one_of store leaves s t d of =
      let after = leaves d s.entries of.batch of.ahead in
      (after.0, after.1, leaves_either s t d of after.0 after.2, keeps_mine s t d of after.0 after.3)
