use Rattle.std.proofs.Common.{sym}
use Rattle.test_record.proofs.Histories.{payload_fits}
use Rattle.test_record.proofs.spelling.spelled.Goals as goal

pub push_block-requires : goal.push_block-requires
push_block-requires c = payload_fits c.args.cluster c.args.entries.now c.loop-entry.entry-index c.entry-item.result c.loop-entry-test.true (sym c.entry-item.is) c.requires
