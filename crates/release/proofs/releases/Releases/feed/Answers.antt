use Rattle.std.proofs.Common.{◌≡◌, ◌++◌, ◌∷◌, [], IfOk, subst}
use Rattle.content.specs.Answered.{applied}
use Rattle.release.proofs.releases.Releases.feed.Goals as goal

pub returns-clause-ok : goal.returns-clause-ok
returns-clause-ok c =
    subst (λ v. IfOk c.feed_value.result (λ a. (c.feed_value.new.self ≡ c.args.self.now ++ v ∷ []) × (a ≡ applied c.args.self.now v))) c.in_ok-value.ensures c.feed_value.ensures.ok
