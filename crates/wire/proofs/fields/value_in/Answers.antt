use Rattle.std.proofs.Common.{rules}
use Rattle.wire.proofs.fields.value_in.Goals as goal

pub returns-clause-found : goal.returns-clause-found
returns-clause-found c = search rules
