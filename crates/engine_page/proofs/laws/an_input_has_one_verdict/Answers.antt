use Rattle.engine_page.proofs.SomeReading.{some_reading}
use Rattle.engine_page.proofs.OneReading.{one_reading}
use Rattle.engine_page.proofs.OneVerdict.{one_verdict, some_verdict}
use Rattle.engine_page.proofs.Splitting.{one_frame, one_split}
use Rattle.engine_page.proofs.laws.an_input_has_one_verdict.Goals as goal

pub returns-clause-frame : goal.returns-clause-frame
returns-clause-frame c = one_frame

pub returns-clause-split : goal.returns-clause-split
returns-clause-split c = one_split

pub returns-clause-reading : goal.returns-clause-reading
returns-clause-reading c = one_reading

pub returns-clause-some_reading : goal.returns-clause-some_reading
returns-clause-some_reading c = some_reading

pub returns-clause-verdict : goal.returns-clause-verdict
returns-clause-verdict c = one_verdict

pub returns-clause-some_verdict : goal.returns-clause-some_verdict
returns-clause-some_verdict c = some_verdict
