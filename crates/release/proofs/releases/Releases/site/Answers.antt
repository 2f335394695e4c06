use Rattle.std.proofs.Common.{◌≡◌, ◌≤◌, ◌-◌, suc, List, length, nat_lt, get_or, IfSome, subst, arith}
use Rattle.std.specs.Option.{is_some}
use Rattle.content.specs.View.{ContentsSeen}
use Rattle.release.specs.ReleaseSite.{IsSiteOfRelease}
use Rattle.release.proofs.LookUps.{lent_site}
use Rattle.release.proofs.releases.Releases.site.Goals as goal

pub returns-clause-stands : goal.returns-clause-stands
returns-clause-stands c =
    let k = c.self.inside.kept in
    let r = c.get.result in
    let place = c.in_ok-place.place in
    let before : (1 ≤ c.args.n) × (place ≡ c.args.n - 1) = c.in_ok-place.ensures in
    let next : suc place ≡ c.args.n = omega (arith, before.0, before.1) in
    let found : (is_some r ≡ nat_lt place (length k.sites.items)) × IfSome r (λ s. s.now ≡ get_or k.sites.items place s.now) =
    subst (λ (ss : List ContentsSeen). (is_some r ≡ nat_lt place (length ss)) × IfSome r (λ s. s.now ≡ get_or ss place s.now)) c.deref.ensures.value (c.get.ensures.lookup.0, c.get.ensures.lookup.1) in
    subst (λ n. IfSome r (λ s. IsSiteOfRelease c.args.self.now n s.now)) next
    (subst (λ vs. IfSome r (λ s. IsSiteOfRelease vs (suc place) s.now)) c.self.view_is (lent_site r k.sites.items k.fed.items place found.0 found.1 c.self.invariant.each))
