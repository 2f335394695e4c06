use Rattle.std.proofs.Common.{rules, ap, ◌∙◌}
use Rattle.std.specs.Option.{option_map, option_copied}
use Rattle.node.proofs.Choosing.{free_there, not_unknown, not_untried}
use Rattle.node.proofs.node.Node.is_free.Goals as goal

pub returns-in-Some : goal.returns-in-Some
returns-in-Some g c s stands = (λ e. absurd (search (rules, e)), λ free. absurd (not_unknown s c.args.instance _ _ (c.get.ensures ∙ stands.parts.known.values c.args.instance) (ap option_copied c.in-Some.is) free.0))

pub returns-in-Some-own_value : goal.returns-in-Some-own_value
returns-in-Some-own_value g c s stands = (λ e. absurd (search (rules, e)), λ free. absurd (not_untried s c.args.instance _ _ (c.own_value.ensures s.attempts stands.parts.attempts) (ap (option_map (λ v. v.now)) c.in-Some-own_value.is) free.1))

pub returns-in-None-own_value : goal.returns-in-None-own_value
returns-in-None-own_value g c s stands =
    (λ e. free_there s c.args.instance _ _ (c.get.ensures ∙ stands.parts.known.values c.args.instance) (c.own_value.ensures s.attempts stands.parts.attempts) (ap option_copied c.in-None.is) (ap (option_map (λ v. v.now)) c.in-None-own_value.is), λ free. search rules)
