use Rattle.std.proofs.Common.{ℕ, List, length, refl, ap, subst, arith}
use Rattle.site_disk.specs.Model.{LeavesOnly}
use Rattle.durable.specs.Append.{IsOpenAt, IsAppendedOrNot}
use Rattle.durable.proofs.Ready.{leaves, keeps, stored_after}
use Rattle.durable.proofs.Results.{on_err}
use Rattle.durable.proofs.Stand.{closed_there}
use Rattle.durable.proofs.record.Record.append.Goals as goal

pub returns-in_err-append-clause-failed : goal.returns-in_err-append-clause-failed
returns-in_err-append-clause-failed g c = on_err c.from_residual.result (λ d entries entry stored follows is.
    let old = c.args.self.now in
    let S = g.D.Disk.stands_for in
    let after = c.in_err-append.ensures.torn d stored.stands stored.settled (closed_there old.node old.cluster old.recorded.gate d.seen stored.reads.stands.items stored.reads.stands.laid stored.reads.ends) in
    let Only : List ℕ → Type 0 = λ b. LeavesOnly d after.0 (IsAppendedOrNot old.recorded.gate d.seen b) in
    let OrNot : List ℕ → Type 0 = λ b. IsAppendedOrNot old.recorded.gate d.seen b after.0.seen in
    let only = subst Only is after.2 in
    (after.0, after.1, leaves S old d entries stored entry follows after.0 only, keeps S old d entries stored entry follows after.0 only (subst OrNot is after.3)))

pub returns-clause-done : goal.returns-clause-done
returns-clause-done g c = λ d entries entry stored follows is.
    let old = c.args.self.now in
    let S = g.D.Disk.stands_for in
    let after = c.in_ok-append.ensures.done d stored.stands stored.settled (closed_there old.node old.cluster old.recorded.gate d.seen stored.reads.stands.items stored.reads.stands.laid stored.reads.ends) in
    let Only : List ℕ → Type 0 = λ b. LeavesOnly d after.0 (IsAppendedOrNot old.recorded.gate d.seen b) in
    let Open : List ℕ → Type 0 = λ b. IsOpenAt old.recorded.gate d.seen b after.0.seen in (
      after.0,
      stored_after S old d entries stored entry follows _ after.0 after.1 after.3 (subst Open is after.4) refl refl (omega (arith, ap length is)) refl stored.none_staged,
      leaves S old d entries stored entry follows after.0 (subst Only is after.2),
      after.5,
      subst Open is after.4,
    )
