use Rattle.std.proofs.Common.{map, string_bytes, arith}
use Rattle.std.proofs.lemmas.Grind.{common_steps}
use Rattle.editor_ledger.proofs.past.others.Goals as goal
use Rattle.editor_ledger.proofs.past.others.Goals.{then-not-is_among+in_ok-clone+in_ok-push, else-not-is_among}

pub loop-text-preserved : goal.loop-text-preserved
loop-text-preserved c =
    let among = c.is_among.ensures (map string_bytes c.args.olds.now) c.in_ok-firsts.ensures in
    elim c.if-not-is_among.branch [
      | then-not-is_among+in_ok-clone+in_ok-push w ↦ grind (arith, common_steps, among)
      | else-not-is_among w ↦ grind (arith, common_steps, among)
    ]
