use Rattle.std.proofs.Common.{◌++◌, refl, ap, ◌∙◌}
use Rattle.wire.specs.Spelling.{spelled}
use Rattle.site_drive.proofs.letter.spell.Goals as goal

pub returns : goal.returns
returns c = (refl, c.in_ok-encode.ensures.ok ∙ ap (λ bytes. bytes ++ spelled c.args.message.now) c.new-bytes.ensures.items)
