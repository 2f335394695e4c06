use Rattle.std.proofs.Common.{rules}
use Rattle.std.proofs.lemmas.Slice.Eq.{strip_prefix_is}
use Rattle.http_serve.proofs.resource.after.Goals as goal

pub returns : goal.returns
returns c = strip_prefix_is (search rules) c.args.bytes.now c.args.prefix.now c.strip_prefix.result c.strip_prefix.ensures.cases
