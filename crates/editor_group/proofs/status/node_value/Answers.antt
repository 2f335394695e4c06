use Rattle.std.proofs.Common.{ap, ◌∙◌, codes}
use Rattle.serde_json.specs.Data.{object}
use Rattle.serde_json.specs.View.{members_view, view}
use Rattle.serde_json.proofs.Views.{view-Object}
use Rattle.editor_group.proofs.Telling.{number_is, truth_is, put_both}
use Rattle.editor_group.proofs.status.node_value.Goals as goal

pub returns : goal.returns
returns c =
    let others = members_view c.put-3.new.map.entries in
    let release = number_is c.args.row.newest (view c.from.result) c.from.ensures in
    let same = truth_is c.args.row.same (view c.from-2.result) c.from-2.ensures in (
      others,
      view-Object c.put-5.new.map
          ∙ ap object (put_both (codes "release") (codes "same_page") _ _ _ _ others _ _
          c.in_ok-put-4.ensures.ok release c.in_ok-put-5.ensures.ok same),
    )
