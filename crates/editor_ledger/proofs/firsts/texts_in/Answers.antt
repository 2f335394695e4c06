use Rattle.std.proofs.Common.{map, take, string_bytes, arith}
use Rattle.std.proofs.lemmas.Grind.{common_steps}
use Rattle.editor_ledger.proofs.LookUps.{one_more}
use Rattle.editor_ledger.proofs.firsts.texts_in.Goals as goal

pub loop-text-preserved : goal.loop-text-preserved
loop-text-preserved c = λ q.
    grind (arith, common_steps, one_more c.loop-text.set c.insert.new.self c.as_str.result c.in_ok-insert.ensures.updates (map string_bytes (take c.loop-text.text-index c.args.texts.now)) c.loop-text.invariant q)
