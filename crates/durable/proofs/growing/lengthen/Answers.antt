use Rattle.std.proofs.Common.{◌≡◌, ◌-◌, ◌≤◌, ℕ, List, ◌++◌, length, replicate, refl, ◌∙◌, ap, arith}
use Rattle.std.proofs.lemmas.Bool.{false≢true}
use Rattle.site_disk.specs.Model.{after_sync}
use Rattle.durable.proofs.GrowsOn.{same_on, before, synced_on, long_enough, lengthened_at}
use Rattle.durable.proofs.Results.{on_err}
use Rattle.durable.proofs.growing.lengthen.Goals as goal

pub returns-in_err-len-clause-broken : goal.returns-in_err-len-clause-broken
returns-in_err-len-clause-broken g c = on_err c.from_residual.result (λ d stands settled. (d, c.len.ensures.state d stands, before d settled, same_on d.seen))

pub returns-then-missing-eq0-clause-done : goal.returns-then-missing-eq0-clause-done
returns-then-missing-eq0-clause-done g c = λ d stands settled.
    let len = c.in_ok-len.ensures.len d stands in
    (d, c.len.ensures.state d stands, settled, before d settled, same_on d.seen, λ _. long_enough d.seen c.args.size (omega (arith, len, c.saturating_sub-missing.ensures, c.if-missing-eq0.true)))

pub returns-in_default-clause-done : goal.returns-in_default-clause-done
returns-in_default-clause-done g c = λ d stands settled. (d, c.len.ensures.state d stands, settled, before d settled, same_on d.seen, λ no. absurd (false≢true no))

pub returns-in_err-sync-clause-broken : goal.returns-in_err-sync-clause-broken
returns-in_err-sync-clause-broken g c = on_err c.from_residual-in_err-sync.result (λ d stands settled.
    let first = c.len.ensures.state d stands in
    let len = c.in_ok-len.ensures.len d stands in
    let within : c.in_ok-len.len ≤ length d.seen = omega (arith, len) in
    let was = lengthened_at g.D.Disk.stands_for c.lengthen-whole.new.self d settled c.deref.result.now c.in_ok-len.len len c.lengthen-whole.result
    (λ yes. c.lengthen-whole.ensures.written yes d first within) (λ no. c.lengthen-whole.ensures.torn no d first within) in
    (was.e, c.in_err-sync.ensures.kept was.e was.stands, was.leaves, was.on))

pub returns-clause-done : goal.returns-clause-done
returns-clause-done g c = λ d stands settled.
    let first = c.len.ensures.state d stands in
    let len = c.in_ok-len.ensures.len d stands in
    let within : c.in_ok-len.len ≤ length d.seen = omega (arith, len) in
    let was = lengthened_at g.D.Disk.stands_for c.lengthen-whole.new.self d settled c.deref.result.now c.in_ok-len.len len c.lengthen-whole.result
    (λ yes. c.lengthen-whole.ensures.written yes d first within) (λ no. c.lengthen-whole.ensures.torn no d first within) in
    let zeros : c.deref.result.now ≡ replicate (c.args.size - length d.seen) 0
    = c.deref.ensures.value ∙ c.in-Ok.ensures ∙ ap (λ (k : ℕ). replicate k 0) (c.saturating_sub-missing.ensures ∙ ap (λ (n : ℕ). c.args.size - n) len) in (
      after_sync was.e,
      c.in_ok-sync.ensures.synced was.e was.stands,
      record { all_synced = refl; none_written = refl },
      synced_on d settled was.e was.leaves was.on,
      was.on,
      λ yes. was.whole yes ∙ ap (λ (l : List ℕ). d.seen ++ l) zeros,
    )
