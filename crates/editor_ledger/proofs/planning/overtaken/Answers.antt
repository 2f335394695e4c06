use Rattle.std.proofs.Common.{map, string_bytes, arith}
use Rattle.std.proofs.lemmas.Grind.{common_steps}
use Rattle.std.proofs.lemmas.List.{map-append}
use Rattle.std.proofs.lemmas.List.Elements.{filter_map-append}
use Rattle.editor_ledger.proofs.planning.overtaken.Goals as goal
use Rattle.editor_ledger.proofs.planning.overtaken.Goals.{in-Some+in_ok-push, in_default}

pub loop-text-preserved : goal.loop-text-preserved
loop-text-preserved c =
    let found = c.in_ok-text.ensures (map string_bytes c.args.kept.now) c.in_ok-firsts.ensures in
    elim c.match-branch-3.branch [
      | in-Some+in_ok-push w ↦ grind (arith, common_steps, filter_map-append, map-append, found)
      | in_default w ↦ grind (arith, common_steps, filter_map-append, map-append, found)
    ]
