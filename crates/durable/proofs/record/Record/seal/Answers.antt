use Rattle.std.proofs.Common.{List, ℕ, refl, ◌∙◌, ap, drop}
use Rattle.std.proofs.lemmas.Bool.{false≢true}
use Rattle.durable.proofs.Batches.{long_some, short_none, nothing_sealed, closed_base, leaves_none_or_all, keeps_none_or_all, all_sealed, sealed_behind, sealed_end, with_sum_to}
use Rattle.durable.proofs.Taking.{all_behind}
use Rattle.durable.specs.Spelling.{blocks}
use Rattle.durable.proofs.record.Record.seal.Goals as goal

pub returns-then-not-has_entries-clause-sealed : goal.returns-then-not-has_entries-clause-sealed
returns-then-not-has_entries-clause-sealed g c = λ d earlier batch ahead.
    let old = c.args.self.now in
    let none = short_none batch old.staged.bytes.items ahead.staged.waits.waiting (λ long. false≢true (c.if-not-has_entries.ensures.1 long)) in
    let sealed = nothing_sealed g.D.Disk.stands_for old d earlier batch ahead c.close.new.self none c.close.ensures in
    (d, sealed.0, sealed.1, sealed.2, sealed.3)

pub returns-in_err-append-clause-cut_short : goal.returns-in_err-append-clause-cut_short
returns-in_err-append-clause-cut_short g c = λ _ d earlier batch ahead.
    let old = c.args.self.now in
    let S = g.D.Disk.stands_for in
    let waits = ahead.staged.waits in
    let some = long_some batch old.staged.bytes.items waits.waiting (c.if-not-has_entries.ensures.0 refl) in
    let to = with_sum_to S old d earlier batch ahead some in
    let is = sealed_behind old.recorded.gate _ batch _ to (all_behind c.seal-from.result.from c.deref.result.now ∙ ap (λ (l : List ℕ). drop c.seal-from.result.from l) c.deref.ensures.value ∙ c.seal-from.ensures.bytes (blocks batch) waits.waiting) in
    let after = c.in_err-append.ensures.torn d ahead.staged.stands ahead.staged.settled (closed_base S old d earlier batch ahead _ is some) in
    (after.0, after.1, leaves_none_or_all S old d earlier batch ahead _ is some after.0 after.2, keeps_none_or_all S old d earlier batch ahead _ is some after.0 after.2 after.3)

pub returns-clause-sealed : goal.returns-clause-sealed
returns-clause-sealed g c = λ d earlier batch ahead.
    let old = c.args.self.now in
    let S = g.D.Disk.stands_for in
    let waits = ahead.staged.waits in
    let some = long_some batch old.staged.bytes.items waits.waiting (c.if-not-has_entries.ensures.0 refl) in
    let to = with_sum_to S old d earlier batch ahead some in
    let is = sealed_behind old.recorded.gate _ batch _ to (all_behind c.seal-from.result.from c.deref.result.now ∙ ap (λ (l : List ℕ). drop c.seal-from.result.from l) c.deref.ensures.value ∙ c.seal-from.ensures.bytes (blocks batch) waits.waiting) in
    let after = c.in_ok-append.ensures.done d ahead.staged.stands ahead.staged.settled (closed_base S old d earlier batch ahead _ is some) in
    let sealed = all_sealed S old d earlier batch ahead _ is some _ c.close-2.new.self c.seal-from.result.end after.0 after.1 after.2 after.3 after.4 after.5 c.close-2.ensures (sealed_end old.recorded.gate _ c.seal-from.result.end to c.seal-from.ensures.end) in
    (after.0, sealed.0, sealed.1, sealed.2, sealed.3)
