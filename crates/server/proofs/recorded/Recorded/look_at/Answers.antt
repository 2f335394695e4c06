use Rattle.std.proofs.Common.{◌∙◌, ap, if◌then◌else◌, is_some}
use Rattle.durable.specs.Entries.{last_vote}
use Rattle.node.specs.Tellings.{remembered}
use Rattle.server.proofs.Recording.{any_is, looked}
use Rattle.server.proofs.recorded.Recorded.look_at.Goals as goal

pub returns : goal.returns
returns g c = λ s is.
    let i = c.args.instance in
    let number = c.number-number.ensures.is in
    looked s i c.args.self c.is_some-voted.result c.is_tellable-any.result _ _ _
    (c.is_some-voted.ensures ∙ ap is_some (c.slot.ensures s is).vote)
    (any_is c.is_tellable-any.result (remembered s i) (last_vote i s.entries) (c.is_tellable-any.ensures s is))
    c.count_on.ensures
    (c.further.ensures ∙ ap (λ k. if c.is_some-voted.result then k else c.args.self.last) number)
    (c.further-2.ensures ∙ ap (λ k. if c.is_tellable-any.result then k else c.args.self.furthest) number)
