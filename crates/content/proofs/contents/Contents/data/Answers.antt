use Rattle.std.proofs.Common.{sym, subst, ◌∙◌}
use Rattle.context.specs.View.{data_view}
use Rattle.content.specs.View.{at_name}
use Rattle.content.specs.Standing.{HasContents}
use Rattle.content.proofs.LookUps.{lent_view}
use Rattle.content.proofs.contents.Contents.data.Goals as goal

pub returns : goal.returns
returns c orders is =
    let has = subst (λ s. HasContents s orders) (sym c.self.view_is) is in
    lent_view data_view c.get.result (at_name c.args.name.now c.self.inside.page_data) c.get.ensures ∙ has.page_data c.args.name.now
