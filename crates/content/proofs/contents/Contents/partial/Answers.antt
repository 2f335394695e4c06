use Rattle.std.proofs.Common.{sym, subst}
use Rattle.command.specs.Site.{partial_at}
use Rattle.content.specs.View.{at_name}
use Rattle.content.specs.Standing.{HasContents}
use Rattle.content.proofs.LookUps.{lent_text}
use Rattle.content.proofs.contents.Contents.partial.Goals as goal

pub returns : goal.returns
returns c orders is =
    let has = subst (λ s. HasContents s orders) (sym c.self.view_is) is in
    lent_text c.get.result (at_name c.args.name.now c.self.inside.partials) (partial_at c.args.name.now orders) c.get.ensures (has.partials c.args.name.now)
