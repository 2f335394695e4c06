use Rattle.engine_common.proofs.LineLemmas.{strips_front}
use Rattle.engine_common.proofs.words.after.Goals as goal

pub returns : goal.returns
returns c = strips_front c.args.front.now c.args.bytes.now c.strip_prefix.result (rw c.as_bytes.ensures.value at c.strip_prefix.ensures.cases)
