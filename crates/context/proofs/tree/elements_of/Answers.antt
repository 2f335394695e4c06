use Rattle.std.proofs.Common.{sym, map}
use Rattle.context.specs.View.{data_view}
use Rattle.context.proofs.LookUps.{to_list-items_of}
use Rattle.context.proofs.tree.elements_of.Goals as goal

pub returns : goal.returns
returns c = sym (to_list-items_of (map data_view c.args.elements.now))
