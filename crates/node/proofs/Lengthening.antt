-- A node whose file grows.
use Rattle.std.proofs.Common.{◌≡◌, ℕ, inl, ⊎_elim, Bool, IsTrue, Option, None, false, List, [], sym, subst}
use Rattle.site_disk.specs.Model.{DiskState, LeavesOnly}
use Rattle.durable.specs.Batches.{IsNoneOrAll, KeepsNoneOrAll}
use Rattle.durable.specs.Entries.{Entry}
use Rattle.durable.specs.Growing.{Grows, KeepsAll, with_zeros}
use Rattle.durable.specs.Keeping.{IsFound, Keeps}
use Rattle.durable.specs.Standing.{StandsFor}
use Rattle.durable.specs.declared.record.Record.{Record}
use Rattle.durable.proofs.Moments.{weaker}
use Rattle.node.specs.declared.node.Node.{Node as Running}
use Rattle.node.specs.Nodes.{Node}
use Rattle.node.specs.Standing.{IsNodeOf, IsOnDisk, IsEither}
use Rattle.node.proofs.Stepping.{of_node}

-- with no entry in flight, what is found is what is on record
all_found : (p n : ℕ) (entries : List Entry) (file : List ℕ) → IsFound p n entries None file → StandsFor p n file entries
all_found p n entries file found = subst (λ (es : List Entry). StandsFor p n file es) (⊎_elim (λ same. same) (λ same. same) found.1) found.2

module _ {D : Type 0} (stands_for : D → DiskState → Type 0) (old : Running D) (s : Node) (running : old.store.stopped ≡ false) (node_of : IsNodeOf old s) where
  none_in_flight : s.in_flight ≡ None
  none_in_flight = node_of.parts.on_record.settled running

  mine : (file : List ℕ) → IsFound old.store.node old.store.cluster s.entries None file → IsFound old.me old.cluster s.entries s.in_flight file
  mine file found = subst (λ (e : Option Entry). IsFound old.me old.cluster s.entries e file) (sym none_in_flight)
      (subst (λ (p : ℕ). IsFound p old.cluster s.entries None file) old.store_node (subst (λ (n : ℕ). IsFound old.store.node n s.entries None file) old.store_cluster found))

  leaves_mine : (d e : DiskState) → LeavesOnly d e (IsFound old.store.node old.store.cluster s.entries None) → LeavesOnly d e (IsEither old.me old.cluster s s)
  leaves_mine d e only = weaker d e (IsFound old.store.node old.store.cluster s.entries None) (IsEither old.me old.cluster s s) (λ file found. inl (mine file found)) only

  all_mine : (file : List ℕ) → IsFound old.store.node old.store.cluster s.entries None file → IsNoneOrAll old.me old.cluster s.entries [] file
  all_mine file found = inl (subst (λ (p : ℕ). StandsFor p old.cluster file s.entries) old.store_node (subst (λ (n : ℕ). StandsFor old.store.node n file s.entries) old.store_cluster
      (all_found old.store.node old.store.cluster s.entries file found)))

module _ {D : Type 0} (stands_for : D → DiskState → Type 0) (old : Running D) (s : Node) (running : old.store.stopped ≡ false) (node_of : IsNodeOf old s) where
  -- the device failed
  pub loses_nothing : (store : Record D) (d : DiskState) → KeepsAll stands_for old.store store → IsOnDisk stands_for old s d
      → (e : DiskState) × stands_for store.disk e × LeavesOnly d e (IsEither old.me old.cluster s s) × KeepsNoneOrAll old.me old.cluster s.entries [] e
  loses_nothing store d keeps on =
      let was = keeps d s.entries (on.stored running) in (
        was.0,
        was.1,
        leaves_mine stands_for old s running node_of d was.0 was.2,
        record { read = all_mine stands_for old s running node_of was.0.seen was.3.read; left = λ left may. all_mine stands_for old s running node_of left (was.3.left left may) },
      )

  -- it grew
  pub grows_at : (new : Running D) (d : DiskState) (size : ℕ) (there : Bool) → new.me ≡ old.me → new.cluster ≡ old.cluster → Grows stands_for old.store new.store size there → IsOnDisk stands_for old s d
      → (e : DiskState) × IsOnDisk stands_for new s e × LeavesOnly d e (IsEither old.me old.cluster s s) × (IsTrue there → e.seen ≡ with_zeros d.seen size)
  grows_at new d size there me cluster grows on =
      let was = grows d s.entries (on.stored running) in (
        was.0,
        record {
          stands = was.1.stands;
          keeps = subst (λ (e : Option Entry). Keeps new.me new.cluster s.entries e was.0) (sym (none_in_flight stands_for old s running node_of))
              (of_node stands_for new.store new.me new.cluster was.0 s.entries new.store_node new.store_cluster was.1);
          stored = λ _. was.1;
        },
        leaves_mine stands_for old s running node_of d was.0 was.2,
        was.3,
      )
