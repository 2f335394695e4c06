use Rattle.content.proofs.Names.{on_both, taken}
use Rattle.content.proofs.maps.take_away.Goals as goal

pub returns-clause-ok : goal.returns-clause-ok
returns-clause-ok g c = on_both c.remove.result (taken c.args.name.now c.args.map.now c.remove.new.self) c.remove.ensures.gone c.remove.ensures.others
