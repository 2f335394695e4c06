use Rattle.std.proofs.Common.{List, sym, subst, take}
use Rattle.durable.specs.Entries.{Entry, IsPromise}
use Rattle.test_record.specs.Meaning.{meanings}
use Rattle.test_record.proofs.Histories.{taken_more}
use Rattle.test_record.proofs.recorded.promise.Goals as goal

pub loop-entry-preserved : goal.loop-entry-preserved
loop-entry-preserved c =
    let at = c.loop-entry.entry-index in
    subst (λ (l : List Entry). IsPromise l c.args.instance c.promise_with-promised.result) (sym (taken_more c.args.entries.now at c.entry-item.result c.loop-entry-test.true (sym c.entry-item.is)))
    (c.promise_with-promised.ensures (meanings (take at c.args.entries.now)) c.loop-entry.invariant)
