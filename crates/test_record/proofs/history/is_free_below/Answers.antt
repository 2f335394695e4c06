use Rattle.std.proofs.Common.{rules}
use Rattle.test_record.proofs.history.is_free_below.Goals as goal

pub returns-in-Some : goal.returns-in-Some
returns-in-Some c = search rules
