use Rattle.std.proofs.lemmas.Str.Pattern.{contains_char}
use Rattle.editor_group.proofs.address.has.Goals as goal

pub returns : goal.returns
returns c =
    let found = contains_char c.args.c c.args.text.now c.contains.result c.contains.ensures.cases c.requires in
    (found.0, λ has. found.1 has.0 has.1 has.2)
