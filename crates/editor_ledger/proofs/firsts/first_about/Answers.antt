use Rattle.std.proofs.Common.{option_map, ap, ◌∙◌}
use Rattle.editor_ledger.proofs.firsts.first_about.Goals as goal

pub returns : goal.returns
returns c = λ texts has. ap (option_map (λ t. t.now)) (c.copied.ensures ∙ c.get.ensures.value) ∙ has c.args.head.now
