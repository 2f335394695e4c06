use Rattle.durable.proofs.Keeping.{never_refused}
use Rattle.durable.proofs.laws.kept_records_open.Goals as goal

pub returns : goal.returns
returns c = never_refused
