use Rattle.std.proofs.Common.{Option, sym, ap, ◌∙◌}
use Rattle.std.specs.Option.{option_copied}
use Rattle.durable.specs.Entries.{learned_at}
use Rattle.node.specs.Nodes.{Value}
use Rattle.node.specs.Tellings.{or_else}
use Rattle.node.proofs.node.Node.remembered.Goals as goal

-- it is known
pub returns-in-Some : goal.returns-in-Some
returns-in-Some g c s stands =
    let i = c.args.instance in
    sym (ap (λ (o : Option Value). or_else o (learned_at i s.entries)) (sym (c.get.ensures ∙ stands.parts.known.values i) ∙ ap option_copied c.in-Some.is))

-- or it may be on record
pub returns-in-None : goal.returns-in-None
returns-in-None g c s stands =
    let i = c.args.instance in
    c.learned.ensures ∙ stands.parts.on_record.kept.learned i
    ∙ sym (ap (λ (o : Option Value). or_else o (learned_at i s.entries)) (sym (c.get.ensures ∙ stands.parts.known.values i) ∙ ap option_copied c.in-None.is))
