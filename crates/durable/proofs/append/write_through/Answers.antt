use Rattle.std.proofs.Common.{length, refl, arith, ⊎_elim}
use Rattle.std.proofs.lemmas.Result.{on_ok_weaker, on_err_weaker}
use Rattle.site_disk.specs.Model.{after_write, after_sync, overwritten}
use Rattle.durable.proofs.Results.{on_err}
use Rattle.durable.proofs.Torn.{same_torn, overwritten_torn}
use Rattle.durable.proofs.Through.{before_write, unsynced, whole, synced}
use Rattle.durable.proofs.append.write_through.Goals as goal

pub returns-in_err-write_at-clause-torn : goal.returns-in_err-write_at-clause-torn
returns-in_err-write_at-clause-torn g c = on_err c.from_residual.result (λ d stands settled within.
    let at = c.args.at in
    let bytes = c.args.bytes.now in
    ⊎_elim
    (λ same. (d, same, before_write d at bytes settled within, same_torn at (length bytes) d.seen))
    (λ torn. (after_write d at (length bytes) torn.0, torn.2, unsynced d at bytes settled within torn.0 torn.1.no_longer, torn.1))
    (c.in_err-write_at.ensures.torn d stands within))

pub returns-clause-done : goal.returns-clause-done
returns-clause-done g c = on_ok_weaker c.sync.result
    (λ done. λ d stands settled within.
    let at = c.args.at in
    let bytes = c.args.bytes.now in
    let written = after_write d at (length bytes) (overwritten d.seen at bytes) in
    (after_sync written, done written (c.in_ok-write_at.ensures.written d stands within), synced d at bytes settled within, record { all_synced = refl; none_written = refl }, refl, omega arith))
    c.sync.ensures.synced

pub returns-clause-torn : goal.returns-clause-torn
returns-clause-torn g c = on_err_weaker c.sync.result
    (λ kept. λ d stands settled within.
    let at = c.args.at in
    let bytes = c.args.bytes.now in
    let written = after_write d at (length bytes) (overwritten d.seen at bytes) in
    (written, kept written (c.in_ok-write_at.ensures.written d stands within), whole d at bytes settled within, overwritten_torn d.seen at bytes within))
    c.sync.ensures.kept
