use Rattle.std.proofs.Common.{option_map, ap, ◌∙◌}
use Rattle.context.specs.View.{data_view}
use Rattle.context.proofs.LookUps.{view_of_ref, data_view-lookup}
use Rattle.context.proofs.tree.member_among.Goals as goal

pub returns : goal.returns
returns c = view_of_ref c.get.result ∙ ap (option_map data_view) c.get.ensures.value ∙ data_view-lookup c.args.key.now c.args.members.now.entries
