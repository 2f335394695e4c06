use Rattle.std.proofs.Common.{◌≤◌, length, refl, ap, arith, ⊎_elim}
use Rattle.std.proofs.lemmas.Result.{on_ok_weaker, on_err_weaker}
use Rattle.site_disk.specs.Model.{after_write, after_sync, overwritten}
use Rattle.durable.proofs.Floors.{short, blank_is, before_blank, blank_unsynced, blank_synced}
use Rattle.durable.proofs.Results.{on_err}
use Rattle.durable.proofs.formatting.write_blank.Goals as goal

pub returns-in_err-write_at-clause-torn : goal.returns-in_err-write_at-clause-torn
returns-in_err-write_at-clause-torn g c = on_err c.from_residual.result (λ d stands empty.
    let size = length c.blank.result in
    ⊎_elim
    (λ same. (d, same, before_blank d empty, short d.seen (omega (arith, ap length empty))))
    (λ torn.
    let few : length torn.0 ≤ 10 = omega (arith, torn.1.no_longer, ap length c.blank.ensures, ap length empty) in
    (after_write d 0 size torn.0, torn.2, blank_unsynced d empty size torn.0 few, short torn.0 few))
    (c.in_err-write_at.ensures.torn d stands (omega arith)))

pub returns-clause-done : goal.returns-clause-done
returns-clause-done g c = on_ok_weaker c.sync.result
    (λ done. λ d stands empty.
    let bytes = c.blank.result in
    let seen = overwritten d.seen 0 bytes in
    let is = blank_is c.args.node c.args.cluster d.seen bytes empty c.blank.ensures in
    let written = after_write d 0 (length bytes) seen in
    (after_sync written, done written (c.in_ok-write_at.ensures.written d stands (omega arith)), blank_synced d empty (length bytes) seen (omega (arith, ap length is)), record { all_synced = refl; none_written = refl }, is, omega arith))
    c.sync.ensures.synced

pub returns-clause-torn : goal.returns-clause-torn
returns-clause-torn g c = on_err_weaker c.sync.result
    (λ kept. λ d stands empty.
    let bytes = c.blank.result in
    let seen = overwritten d.seen 0 bytes in
    let few : length seen ≤ 10 = omega (arith, ap length (blank_is c.args.node c.args.cluster d.seen bytes empty c.blank.ensures)) in
    let written = after_write d 0 (length bytes) seen in
    (written, kept written (c.in_ok-write_at.ensures.written d stands (omega arith)), blank_unsynced d empty (length bytes) seen few, short seen few))
    c.sync.ensures.kept
