use Rattle.test_record.proofs.Gates.{shut}
use Rattle.test_record.proofs.standing.is_shut_behind.Goals as goal

pub returns-in-Some-len1-up : goal.returns-in-Some-len1-up
returns-in-Some-len1-up c = shut c.args.file.now c.args.front.now c.in-Some-len1-up.field-0.now c.in-Some-len1-up.len_at_least c.in-Some-len1-up.ensures
