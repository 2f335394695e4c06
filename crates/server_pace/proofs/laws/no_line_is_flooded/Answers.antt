use Rattle.server_pace.proofs.Bounds.{begins_within, hears_within, tells_within}
use Rattle.server_pace.proofs.laws.no_line_is_flooded.Goals as goal

pub returns-clause-begins : goal.returns-clause-begins
returns-clause-begins c = begins_within

pub returns-clause-hears : goal.returns-clause-hears
returns-clause-hears c = hears_within

pub returns-clause-tells : goal.returns-clause-tells
returns-clause-tells c = tells_within
