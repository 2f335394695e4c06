use Rattle.std.proofs.Common.{sym, ap, subst}
use Rattle.content.specs.View.{keys}
use Rattle.content.specs.Standing.{HasContents}
use Rattle.content.proofs.site.Site.act.Goals as goal

pub returns-clause-ok : goal.returns-clause-ok
returns-clause-ok c = (
  ap keys c.replace.ensures.after,
  λ orders order stands h. c.in_ok-done.ensures.ok orders order stands (subst (λ s. HasContents s.contents orders) (sym c.self.view_is) h),
)
