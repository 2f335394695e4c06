use Rattle.std.proofs.Common.{◌≡◌, ℕ, ◌+◌, ◌≤◌, List, [], ◌∷◌, length, ◌∙◌, ap, subst, arith, inl}
use Rattle.std.proofs.lemmas.Result.{on_ok_weaker, on_err_weaker}
use Rattle.site_disk.specs.Model.{DiskState, LeavesOnly, IsTorn, overwritten}
use Rattle.durable.specs.Append.{IsClosedAt, IsAppendedOrNot}
use Rattle.durable.proofs.Results.{on_err}
use Rattle.durable.proofs.Moments.{weaker, then}
use Rattle.durable.proofs.Gate.{behind, at_the_gate, opened, staged_size}
use Rattle.durable.proofs.append.append.Goals as goal

-- the first step
staging : (gate : ℕ) (bytes : List ℕ) (d e : DiskState) → IsClosedAt gate d.seen d.seen → LeavesOnly d e (IsTorn (gate + 1) (length bytes) d.seen) → LeavesOnly d e (IsAppendedOrNot gate d.seen bytes)
staging gate bytes d e at_gate leaves = weaker d e (IsTorn (gate + 1) (length bytes) d.seen) (IsAppendedOrNot gate d.seen bytes) (λ left torn. inl (behind gate d.seen bytes at_gate left torn)) leaves

-- the second, after the first
opening : (gate : ℕ) (bytes : List ℕ) (d e f : DiskState) → IsClosedAt gate d.seen d.seen → LeavesOnly d e (IsTorn (gate + 1) (length bytes) d.seen) → e.seen ≡ overwritten d.seen (gate + 1) bytes
    → LeavesOnly e f (IsTorn gate 1 e.seen) → LeavesOnly d f (IsAppendedOrNot gate d.seen bytes)
opening gate bytes d e f at_gate first is second =
    then d e f (IsAppendedOrNot gate d.seen bytes) (staging gate bytes d e at_gate first)
    (weaker e f (IsTorn gate 1 e.seen) (IsAppendedOrNot gate d.seen bytes)
    (λ left torn. at_the_gate gate d.seen bytes at_gate left (let P : List ℕ → Type 0 = λ s. IsTorn gate 1 s left in subst P is torn)) second)

within_gate : (gate : ℕ) (bytes : List ℕ) (d e : DiskState) → IsClosedAt gate d.seen d.seen → e.seen ≡ overwritten d.seen (gate + 1) bytes → gate ≤ length e.seen
within_gate gate bytes d e at_gate is = omega (arith, ap length is, staged_size gate d.seen bytes at_gate)

pub returns-in_err-write_through-clause-torn : goal.returns-in_err-write_through-clause-torn
returns-in_err-write_through-clause-torn g c = on_err c.from_residual.result (λ d stands settled at_gate.
    let gate = c.args.gate in
    let bytes = c.args.bytes.now in
    let first = c.in_err-write_through.ensures.torn d stands settled (omega (arith, at_gate.there)) in
    (first.0, first.1, staging gate bytes d first.0 at_gate first.2, inl (behind gate d.seen bytes at_gate first.0.seen first.3)))

pub returns-clause-done : goal.returns-clause-done
returns-clause-done g c = on_ok_weaker c.write_through-2.result
    (λ done. λ d stands settled at_gate.
    let gate = c.args.gate in
    let bytes = c.args.bytes.now in
    let first = c.in_ok-write_through.ensures.done d stands settled (omega (arith, at_gate.there)) in
    let second = done first.0 first.1 first.3 (within_gate gate bytes d first.0 at_gate first.4) in (
      second.0,
      second.1,
      opening gate bytes d first.0 second.0 at_gate first.2 first.4 second.2,
      second.3,
      opened gate d.seen bytes at_gate second.0.seen (second.4 ∙ ap (λ (l : List ℕ). overwritten l gate (1 ∷ [])) first.4),
      omega (arith, first.5, second.5),
    ))
    c.write_through-2.ensures.done

pub returns-clause-torn : goal.returns-clause-torn
returns-clause-torn g c = on_err_weaker c.write_through-2.result
    (λ torn. λ d stands settled at_gate.
    let gate = c.args.gate in
    let bytes = c.args.bytes.now in
    let first = c.in_ok-write_through.ensures.done d stands settled (omega (arith, at_gate.there)) in
    let second = torn first.0 first.1 first.3 (within_gate gate bytes d first.0 at_gate first.4) in (
      second.0,
      second.1,
      opening gate bytes d first.0 second.0 at_gate first.2 first.4 second.2,
      at_the_gate gate d.seen bytes at_gate second.0.seen (let P : List ℕ → Type 0 = λ s. IsTorn gate 1 s second.0.seen in subst P first.4 second.3),
    ))
    c.write_through-2.ensures.torn
