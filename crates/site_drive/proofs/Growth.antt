-- A batch after the file of the record has grown.
use Rattle.std.proofs.Common.{◌≡◌, ◌⊎◌, inl, inr, ⊎_elim, true, ℕ, List, [], ◌++◌, Result, Ok, Err, IfOk, IfErr, refl, sym, subst, ◌∙◌, append-nil}
use Rattle.site_disk.specs.Model.{DiskState, LeavesOnly}
use Rattle.wire.specs.declared.message.Message.{Message}
use Rattle.durable.specs.Batches.{KeepsNoneOrAll}
use Rattle.durable.proofs.Moments.{then, weaker}
use Rattle.node.specs.declared.fault.NodeFault.{NodeFault}
use Rattle.node.specs.declared.fault.NodeFault.TheVariants as fault
use Rattle.node.specs.declared.to.To.{To}
use Rattle.node.specs.declared.node.Node.{Node as Running}
use Rattle.node.specs.Growing.{LosesNothing}
use Rattle.node.specs.Nodes.{Node}
use Rattle.node.specs.Standing.{IsNodeOf, IsOnDisk, IsEither, KeepsOthers, StaysOnDisk, CountsDevice, failures}
use Rattle.site_drive.proofs.Results.{same_err}
use Rattle.site_drive.proofs.Sealing.{not_begun}
use Rattle.site_drive.specs.declared.last_call.LastCall.{LastCall}
use Rattle.site_drive.specs.Batches.{HasWorked, LeadsSealed, TakesBatch, GivesUpBatch, LosesBatch, IsStop, EndsBatch}

module _ {D : Type 0} (stands_for : D → DiskState → Type 0) where
  -- the file has grown, and the node is as it was
  pub record Grown (old new : Running D) : Type 0 where
    pub same : (s : Node) → IsNodeOf old s → IsNodeOf new s
    pub on_disk : (s : Node) → IsNodeOf old s → StaysOnDisk stands_for old new s s
    pub others : KeepsOthers old new

  module _ (old mid new : Running D) (grown : Grown old mid) where
    mine : (d e : DiskState) (s t : Node) → LeavesOnly d e (IsEither mid.me mid.cluster s t) → LeavesOnly d e (IsEither old.me old.cluster s t)
    mine d e s t only = subst (λ (p : ℕ). LeavesOnly d e (IsEither p old.cluster s t)) grown.others.me (subst (λ (n : ℕ). LeavesOnly d e (IsEither mid.me n s t)) grown.others.cluster only)

    both : (d e f : DiskState) (s t : Node) → LeavesOnly d e (IsEither old.me old.cluster s s) → LeavesOnly e f (IsEither mid.me mid.cluster s t) → LeavesOnly d f (IsEither old.me old.cluster s t)
    both d e f s t first second = then d e f (IsEither old.me old.cluster s t)
        (weaker d e (IsEither old.me old.cluster s s) (IsEither old.me old.cluster s t) (λ file. ⊎_elim (λ found. inl found) (λ found. inl found)) first)
        (mine e f s t second)

    first_stays : (s t : Node) → IsNodeOf old s → StaysOnDisk stands_for mid new s t → StaysOnDisk stands_for old new s t
    first_stays s t stands stays d on =
        let e = grown.on_disk s stands d on in
        let f = stays e.0 e.1 in
        (f.0, f.1, both d e.0 f.0 s t e.2 f.2)

    first_sealed : (How Other : Node → Node → Type 0) → ((s t : Node) → How s t → Other s t) → LeadsSealed stands_for mid new How → LeadsSealed stands_for old new Other
    first_sealed How Other so h = record {
      leads = λ s stands. let r = h.leads s (grown.same s stands) in (r.0, so s r.0 r.1, r.2, first_stays s r.0 stands r.3);
    }

    -- what is said of the number and the group of the one is said of the other
    of_old : (P : ℕ → ℕ → Type 0) → P mid.cluster mid.me → P old.cluster old.me
    of_old P p = subst (λ (q : ℕ). P old.cluster q) grown.others.me (subst (λ (n : ℕ). P n mid.me) grown.others.cluster p)

    first_lost : (last : LastCall) (came : List (List ℕ)) → LosesBatch stands_for last came mid new → LosesBatch stands_for last came old new
    first_lost last came h = record {
      loses = λ s stands.
          let r = h.loses s (grown.same s stands) in (
            r.0,
            of_old (λ n p. HasWorked last n p came s r.0) r.1,
            r.2,
            λ d on.
                let e = grown.on_disk s stands d on in
                let f = r.3 e.0 e.1 in (
                  f.0,
                  f.1,
                  both d e.0 f.0 s r.0 e.2 f.2,
                  (f.3.0, f.3.1, of_old (λ n p. KeepsNoneOrAll p n s.entries f.3.0 f.0) f.3.2),
                ),
          );
    }

    first_ok : (last : LastCall) (came : List (List ℕ)) (out : List (To × Message)) (result : Result ℕ NodeFault)
        → IfOk result (λ malformed. LeadsSealed stands_for mid new (TakesBatch last mid.cluster mid.me came malformed out new.releases))
        → IfOk result (λ malformed. LeadsSealed stands_for old new (TakesBatch last old.cluster old.me came malformed out new.releases))
    first_ok last came out (Ok malformed) h =
        first_sealed (TakesBatch last mid.cluster mid.me came malformed out new.releases) (TakesBatch last old.cluster old.me came malformed out new.releases)
        (λ s t takes. of_old (λ n p. TakesBatch last n p came malformed out new.releases s t) takes) h
    first_ok last came out (Err why) h = tt

    first_fault : (last : LastCall) (came : List (List ℕ)) (result : Result ℕ NodeFault)
        → IfErr result (λ why. LeadsSealed stands_for mid new (GivesUpBatch last mid.cluster mid.me came why) ⊎ (IsStop why × LosesBatch stands_for last came mid new))
        → IfErr result (λ why. LeadsSealed stands_for old new (GivesUpBatch last old.cluster old.me came why) ⊎ (IsStop why × LosesBatch stands_for last came old new))
    first_fault last came (Ok malformed) h = tt
    first_fault last came (Err why) h = ⊎_elim
        (λ gave_up. inl (first_sealed (GivesUpBatch last mid.cluster mid.me came why) (GivesUpBatch last old.cluster old.me came why) (λ s t gives. of_old (λ n p. GivesUpBatch last n p came why s t) gives) gave_up))
        (λ lost. inr (lost.0, first_lost last came lost.1))
        h

    -- a batch after it ends as one without it
    pub ends_after : (device : D → ℕ) (last : LastCall) (came : List (List ℕ)) (out : List (To × Message)) (result : Result ℕ NodeFault) → failures device mid ≡ failures device old
        → EndsBatch stands_for device last came out mid new result → EndsBatch stands_for device last came out old new result
    ends_after device last came out result same ends = record {
      ok = first_ok last came out result ends.ok;
      fault = first_fault last came result ends.fault;
      whose = record {
        me = ends.whose.me ∙ grown.others.me;
        cluster = ends.whose.cluster ∙ grown.others.cluster;
        more = (ends.whose.more.0, subst (λ (vs : List (List ℕ)). new.releases ≡ vs ++ ends.whose.more.0) grown.others.releases ends.whose.more.1);
      };
      counts = subst (λ (k : ℕ). CountsDevice result k (failures device new)) same ends.counts;
    }

  -- the device failed before the batch was begun
  pub lost_before : (old new : Running D) (last : LastCall) (came : List (List ℕ)) → LosesNothing stands_for old new.store.disk → new.store.stopped ≡ true → LosesBatch stands_for last came old new
  lost_before old new last came loses stopped = record {
    loses = λ s stands. (
      s,
      inr (inr refl),
      stopped,
      λ d on. let e = loses s d stands on in (e.0, e.1, e.2, ([], sym (append-nil s.entries), e.3)),
    );
  }

  -- a node that could not grow has done nothing of the batch
  pub not_grown : (old new : Running D) (last : LastCall) (came : List (List ℕ)) (why told : NodeFault) → told ≡ why
      → ◌⊎◌ (◌≡◌ {A = Result (Unit {0}) NodeFault} (Err why) (Err fault.Stopped)) (◌≡◌ {A = Result (Unit {0}) NodeFault} (Err why) (Err fault.Device))
      → (why ≡ fault.Stopped → (new ≡ old) × (old.store.stopped ≡ true)) → (why ≡ fault.Device → LosesNothing stands_for old new.store.disk × (new.store.stopped ≡ true))
      → LeadsSealed stands_for old new (GivesUpBatch last old.cluster old.me came told) ⊎ (IsStop told × LosesBatch stands_for last came old new)
  not_grown old new last came why told is causes stopped failed = ⊎_elim
      (λ stop.
      let was = stopped (same_err stop) in
      inl (not_begun stands_for old new last old.cluster old.me came
      (λ s stands. subst (λ (code : Running D). IsNodeOf code s) (sym was.0) stands) (λ s d on. subst (λ (code : Running D). IsOnDisk stands_for code s d) (sym was.0) on)
      why told is (inl (same_err stop)) (λ _. was.1)))
      (λ device. let was = failed (same_err device) in inr (inl (is ∙ same_err device), lost_before old new last came was.0 was.1))
      causes
