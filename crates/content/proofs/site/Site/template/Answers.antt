use Rattle.std.proofs.Common.{sym, subst}
use Rattle.command.specs.Effective.{effective}
use Rattle.content.specs.Standing.{IsSiteOf}
use Rattle.content.proofs.site.Site.template.Goals as goal

pub returns : goal.returns
returns c values is = let site = subst (λ s. IsSiteOf s values) (sym c.self.view_is) is in c.template.ensures (effective values) site.contents
