use Rattle.std.proofs.Common.{◌≡◌, Option, Some, None, IsSome, refl, sym, rules}
use Rattle.std.specs.Option.{option_map}
use Rattle.proposer.specs.Attempts.{Attempt}
use Rattle.node.proofs.node.Node.tries_at.Goals as goal

there : {X Y Z : Type 0} (f : X → Z) (g : Y → Z) (r : Option X) (o : Option Y) → option_map f r ≡ option_map g o → IsSome r → IsSome o
there f g None o is some = absurd (cc)
there f g (Some x) None is some = absurd (cc)
there f g (Some x) (Some y) is some = refl

pub returns : goal.returns
returns g c = λ s stands.
    let own = c.own_value.ensures s.attempts stands.parts.attempts in (
      λ e. there (λ v. v.now) (λ (a : Attempt). a.own) c.own_value.result (s.attempts c.args.instance) own (search (rules, e)),
      λ some. let back = there (λ (a : Attempt). a.own) (λ v. v.now) (s.attempts c.args.instance) c.own_value.result (sym own) some in search (rules, back),
    )
