use Rattle.std.proofs.Common.{slice_get, ap, ◌∙◌}
use Rattle.mustache_parse.proofs.StackLemmas.{first_left}
use Rattle.mustache_parse.proofs.nesting.Nesting.finish.Goals as goal

pub returns-in-Some-clause-ends : goal.returns-in-Some-clause-ends
returns-in-Some-clause-ends c = first_left c.args.self c.in-Some.outermost.now (c.in-Some.ensures.value ∙ ap (λ l. slice_get l 0) c.deref.ensures.value)
