use Rattle.std.proofs.Common.{◌≡◌, ◌++◌, ◌∷◌, [], sym, ap, subst, ◌∙◌}
use Rattle.wire.specs.Spelling.{spelled}
use Rattle.site_drive.specs.Drives.{addressed}
use Rattle.site_drive.proofs.sending.send_message.Goals as goal

pub returns-in-One-clause-given : goal.returns-in-One-clause-given
returns-in-One-clause-given g c = λ fits gs h.
    let m = c.args.message.now in
    let spells : c.as_slice.result.now ≡ spelled m = c.as_slice.ensures.value ∙ c.in_ok-encode.ensures.ok ∙ ap (λ l. l ++ spelled m) c.clear.ensures.items in
    subst (λ to. g.L.Link.given c.send_to.new.link (gs ++ addressed c.args.cluster (to, m))) (sym c.in-One.is)
    (subst (λ d. g.L.Link.given c.send_to.new.link (gs ++ (c.in-One.to, d) ∷ [])) spells (c.send_to.ensures.given gs h))
