use Rattle.std.proofs.Common.{rules}
use Rattle.std.proofs.lemmas.Slice.Eq.{strip_prefix_is}
use Rattle.test_record.proofs.standing.behind.Goals as goal

pub returns : goal.returns
returns c = strip_prefix_is (search rules) c.args.file.now c.args.front.now c.strip_prefix.result c.strip_prefix.ensures.cases
