use Rattle.std.proofs.Common.{lit<}
use Rattle.std.proofs.lemmas.Str.Pattern.{split_parts}
use Rattle.render.proofs.LineLemmas.{Cuts, cut_line, cut_shorter}
use Rattle.render.proofs.lines.first_line.Goals as goal

cuts : (c : goal.After-split_once) → Cuts c.args.text.now c.split_once.result
cuts c = split_parts 10 c.args.text.now c.split_once.result c.split_once.ensures.cases (lit< tt)

pub returns-clause-line : goal.returns-clause-line
returns-clause-line c = cut_line c.args.text.now c.split_once.result (cuts c)

pub returns-clause-shorter : goal.returns-clause-shorter
returns-clause-shorter c = cut_shorter c.args.text.now c.split_once.result (cuts c)
