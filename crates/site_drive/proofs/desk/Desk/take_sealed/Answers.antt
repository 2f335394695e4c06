use Rattle.std.proofs.Common.{◌≡◌, inl, inr, ⊎_elim, Ok, Err, refl, ap, subst, rules, ◌∙◌}
use Rattle.node.specs.declared.fault.NodeFault.TheVariants as fault
use Rattle.site_drive.specs.Batches.{Works, GivesUpWork}
use Rattle.site_drive.specs.Delivering.{NotesBatch}
use Rattle.site_drive.specs.Leading.{NodeLeads}
use Rattle.site_drive.specs.Posting.{bytes_of}
use Rattle.site_drive.proofs.Batching.{of_same_node}
use Rattle.site_drive.proofs.Failing.{none_failed, all_fine, counts_on, counts_before, none_of, no_device, memory_alone}
use Rattle.site_drive.proofs.ManyTurns.{stays_on}
use Rattle.site_drive.proofs.Results.{err_gives, same_err}
use Rattle.site_drive.proofs.Sealing.{stop_of, of_others, others_on, either_lost, not_begun, published, sealed, sealed_alone, sealed_given_up, failed, lost, has_worked, has_given_up}
use Rattle.site_drive.proofs.desk.Desk.take_sealed.Goals as goal

pub returns-in_err-begin-clause-ends : goal.returns-in_err-begin-clause-ends
returns-in_err-begin-clause-ends g c =
    let why = c.in_err-begin.field-0.0 in
    let causes = ⊎_elim (λ stopped. inl (same_err stopped)) (λ memory. inr (same_err memory)) c.in_err-begin.ensures.others in
    record {
      ok = search rules;
      fault = err_gives c.from_residual.result c.from_residual.ensures.1 λ e is.
          inl (not_begun g.D.Disk.stands_for c.args.node.now c.begin.new.self c.args.last _ _ (bytes_of c.args.came.now)
          c.begin.ensures.same c.in_err-begin.ensures.refused why e is causes (λ stopped. c.in_err-begin.ensures.was_stopped.0 (ap Err stopped)));
      whose = search rules;
      counts = no_device c.from_residual.result why _ _ c.from_residual.ensures.1 causes (ap g.D.Disk.failed c.begin.ensures.disk);
    }

-- the device failed in a call
pub returns-in-Err-clause-ends : goal.returns-in-Err-clause-ends
returns-in-Err-clause-ends g c =
    let old = c.args.node.now in
    let begun = c.begin.new.self in
    let mid = c.work.new.node in
    let others = others_on old begun mid c.begin.ensures.keeps c.work.ensures.others in
    let came = bytes_of c.args.came.now in
    let device : c.in-Err.fault ≡ fault.Device = search rules in
    record {
      ok = search rules;
      fault = inr (
        inl device,
        failed g.D.Disk.stands_for old begun mid c.in_ok-begin.ensures.begun c.begin.ensures.same others c.args.last came
            (of_same_node g.D.Disk.stands_for old begun mid c.begin.ensures.keeps (λ n p. GivesUpWork c.args.last n p came fault.Device)
            (subst (λ w. NodeLeads g.D.Disk.stands_for begun mid (GivesUpWork c.args.last begun.cluster begun.me came w)) device c.in-Err.ensures.fault)),
      );
      whose = of_others old mid others;
      counts = counts_on (Err c.in-Err.fault) c.in-Err.fault _ _ _ refl (ap g.D.Disk.failed c.begin.ensures.disk) c.in-Err.ensures.counts;
    }

-- the seal failed, after work that was given up
pub returns-in_err-seal-in-Err-2-clause-ends : goal.returns-in_err-seal-in-Err-2-clause-ends
returns-in_err-seal-in-Err-2-clause-ends g c =
    let old = c.args.node.now in
    let begun = c.begin.new.self in
    let mid = c.work.new.node in
    let others = others_on old begun mid c.begin.ensures.keeps c.work.ensures.others in
    let came = bytes_of c.args.came.now in
    let apart : c.in-Err.fault ≡ fault.Device → ⊥ = search rules in
    let loses = either_lost g.D.Disk.stands_for mid c.seal.new.self.store.disk _ _ c.in_err-seal-in-Err-2.ensures.others c.in_err-seal-in-Err-2.ensures.was_stopped.0 c.in_err-seal-in-Err-2.ensures.lost in
    record {
      ok = search rules;
      fault = err_gives c.from_residual-in_err-seal-in-Err-2.result c.from_residual-in_err-seal-in-Err-2.ensures.1 λ e is.
          inr (
            stop_of e _ is c.in_err-seal-in-Err-2.ensures.others,
            lost g.D.Disk.stands_for old begun mid c.in_ok-begin.ensures.begun c.begin.ensures.same others c.args.last came c.seal.new.self c.in_err-seal-in-Err-2.ensures.stops loses
                (has_given_up g.D.Disk.stands_for begun mid c.args.last old.cluster old.me came c.in-Err.fault
                (of_same_node g.D.Disk.stands_for old begun mid c.begin.ensures.keeps (λ n p. GivesUpWork c.args.last n p came c.in-Err.fault) c.in-Err.ensures.fault)),
          );
      whose = of_others old c.seal.new.self (others_on old mid c.seal.new.self others c.seal.ensures.keeps);
      counts = counts_on c.from_residual-in_err-seal-in-Err-2.result c.in_err-seal-in-Err-2.field-0.0 _ _ _ c.from_residual-in_err-seal-in-Err-2.ensures.1
          (none_of c.in-Err.fault c.in-Err.fault _ _ refl apart c.in-Err.ensures.counts ∙ ap g.D.Disk.failed c.begin.ensures.disk) c.in_err-seal-in-Err-2.ensures.counts;
    }

-- work that was given up is sealed
pub returns-in-Err-2-clause-ends : goal.returns-in-Err-2-clause-ends
returns-in-Err-2-clause-ends g c =
    let old = c.args.node.now in
    let begun = c.begin.new.self in
    let mid = c.work.new.node in
    let others = others_on old begun mid c.begin.ensures.keeps c.work.ensures.others in
    let came = bytes_of c.args.came.now in
    record {
      ok = search rules;
      fault = inl (sealed_given_up g.D.Disk.stands_for old begun mid c.in_ok-begin.ensures.begun c.begin.ensures.same others
          c.seal.new.self c.in_ok-seal-in-Err-2.ensures.same c.in_ok-seal-in-Err-2.ensures.sealed c.args.last old.cluster old.me came c.in-Err.fault c.in-Err.fault refl
          (of_same_node g.D.Disk.stands_for old begun mid c.begin.ensures.keeps (λ n p. GivesUpWork c.args.last n p came c.in-Err.fault) c.in-Err.ensures.fault));
      whose = of_others old c.seal.new.self (others_on old mid c.seal.new.self others c.seal.ensures.keeps);
      counts = counts_before (Err c.in-Err.fault) _ _ _ (none_failed _ _ _ c.in_ok-seal-in-Err-2.ensures.counts)
          (counts_on (Err c.in-Err.fault) c.in-Err.fault _ _ _ refl (ap g.D.Disk.failed c.begin.ensures.disk) c.in-Err.ensures.counts);
    }

-- the seal failed, after work that was whole
pub returns-in_err-seal-clause-ends : goal.returns-in_err-seal-clause-ends
returns-in_err-seal-clause-ends g c =
    let old = c.args.node.now in
    let begun = c.begin.new.self in
    let mid = c.work.new.node in
    let others = others_on old begun mid c.begin.ensures.keeps c.work.ensures.others in
    let came = bytes_of c.args.came.now in
    let out = c.work.new.self.outbox.items in
    let loses = either_lost g.D.Disk.stands_for mid c.seal-2.new.self.store.disk _ _ c.in_err-seal.ensures.others c.in_err-seal.ensures.was_stopped.0 c.in_err-seal.ensures.lost in
    record {
      ok = search rules;
      fault = err_gives c.from_residual-in_err-seal.result c.from_residual-in_err-seal.ensures.1 λ e is.
          inr (
            stop_of e _ is c.in_err-seal.ensures.others,
            lost g.D.Disk.stands_for old begun mid c.in_ok-begin.ensures.begun c.begin.ensures.same others c.args.last came c.seal-2.new.self c.in_err-seal.ensures.stops loses
                (has_worked g.D.Disk.stands_for begun mid c.args.last old.cluster old.me came c.in-Ok.malformed out
                (of_same_node g.D.Disk.stands_for old begun mid c.begin.ensures.keeps (λ n p. Works c.args.last n p came c.in-Ok.malformed out) c.in-Ok.ensures.ok)),
          );
      whose = of_others old c.seal-2.new.self (others_on old mid c.seal-2.new.self others c.seal-2.ensures.keeps);
      counts = counts_on c.from_residual-in_err-seal.result c.in_err-seal.field-0.0 _ _ _ c.from_residual-in_err-seal.ensures.1 (none_failed _ _ _ c.in-Ok.ensures.counts ∙ ap g.D.Disk.failed c.begin.ensures.disk) c.in_err-seal.ensures.counts;
    }

-- an allocation failed as the node published
pub returns-in_err-publish-clause-ends : goal.returns-in_err-publish-clause-ends
returns-in_err-publish-clause-ends g c =
    let old = c.args.node.now in
    let begun = c.begin.new.self in
    let mid = c.work.new.node in
    let new = c.seal-2.new.self in
    let public = c.publish.new.self in
    let others = others_on old begun mid c.begin.ensures.keeps c.work.ensures.others in
    let came = bytes_of c.args.came.now in
    let out = c.work.new.self.outbox.items in
    record {
      ok = search rules;
      fault = err_gives c.from_residual-in_err-publish.result c.from_residual-in_err-publish.ensures.1 λ e is.
          inl (sealed_alone g.D.Disk.stands_for old begun mid c.in_ok-begin.ensures.begun c.begin.ensures.same others
          public (λ s of. c.publish.ensures.same s (c.in_ok-seal.ensures.same s of)) (published g.D.Disk.stands_for mid new public c.publish.ensures.on_disk c.in_ok-seal.ensures.sealed)
          c.args.last old.cluster old.me came c.in-Ok.malformed out _ e is (same_err c.in_err-publish.ensures.err)
          (of_same_node g.D.Disk.stands_for old begun mid c.begin.ensures.keeps (λ n p. Works c.args.last n p came c.in-Ok.malformed out) c.in-Ok.ensures.ok));
      whose = stays_on old new public (of_others old new (others_on old mid new others c.seal-2.ensures.keeps)) (record { me = c.publish.ensures.whose.0; cluster = c.publish.ensures.whose.1; more = c.publish.ensures.more });
      counts = memory_alone c.from_residual-in_err-publish.result _ _ _ c.from_residual-in_err-publish.ensures.1 (same_err c.in_err-publish.ensures.err)
          (ap (λ store. g.D.Disk.failed store.disk) c.publish.ensures.store ∙ none_failed _ _ _ c.in_ok-seal.ensures.counts ∙ none_failed _ _ _ c.in-Ok.ensures.counts ∙ ap g.D.Disk.failed c.begin.ensures.disk);
    }

pub returns-clause-ends : goal.returns-clause-ends
returns-clause-ends g c =
    let old = c.args.node.now in
    let begun = c.begin.new.self in
    let mid = c.work.new.node in
    let new = c.seal-2.new.self in
    let public = c.publish.new.self in
    let others = others_on old begun mid c.begin.ensures.keeps c.work.ensures.others in
    let came = bytes_of c.args.came.now in
    let out = c.work.new.self.outbox.items in
    record {
      ok = sealed g.D.Disk.stands_for old begun mid c.in_ok-begin.ensures.begun c.begin.ensures.same others
          public (λ s of. c.publish.ensures.same s (c.in_ok-seal.ensures.same s of)) (published g.D.Disk.stands_for mid new public c.publish.ensures.on_disk c.in_ok-seal.ensures.sealed)
          c.args.last old.cluster old.me came c.in-Ok.malformed out public.releases (λ s of. c.in_ok-publish.ensures.ok.1 s (c.in_ok-seal.ensures.same s of))
          (of_same_node g.D.Disk.stands_for old begun mid c.begin.ensures.keeps (λ n p. Works c.args.last n p came c.in-Ok.malformed out) c.in-Ok.ensures.ok);
      fault = search rules;
      whose = stays_on old new public (of_others old new (others_on old mid new others c.seal-2.ensures.keeps)) (record { me = c.publish.ensures.whose.0; cluster = c.publish.ensures.whose.1; more = c.publish.ensures.more });
      counts = all_fine _ _ _ (ap (λ store. g.D.Disk.failed store.disk) c.publish.ensures.store ∙ none_failed _ _ _ c.in_ok-seal.ensures.counts ∙ none_failed _ _ _ c.in-Ok.ensures.counts ∙ ap g.D.Disk.failed c.begin.ensures.disk);
    }

pub returns-clause-noted : goal.returns-clause-noted
returns-clause-noted g c =
    subst (λ n. NotesBatch n c.args.came.now c.args.self.now.delivered c.work.new.self.delivered (Ok c.in-Ok.malformed)) c.begin.ensures.keeps.cluster c.in-Ok.ensures.noted
