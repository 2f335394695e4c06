use Rattle.std.proofs.Common.{ap}
use Rattle.mustache_parse.specs.Margin.{literal_under}
use Rattle.render.specs.Margin.{margin_at}
use Rattle.render.specs.Meaning.{prints}
use Rattle.render.proofs.LineLemmas.{no-margin}
use Rattle.render.proofs.Rendered.{adds_same}
use Rattle.render.proofs.lines.print_text.Goals as goal

pub returns-in-None : goal.returns-in-None
returns-in-None c =
    adds_same c.args.out.now c.print.new.self _ _ c.print.result (ap prints (no-margin (margin_at c.args.margin) c.args.text.now c.args.leads c.args.trails (ap margin_at c.in-None.is))) c.print.ensures

pub returns-in-Some : goal.returns-in-Some
returns-in-Some c =
    adds_same c.args.out.now c.print_lines.new.out _ _ c.print_lines.result (ap (λ m. prints (literal_under (margin_at m) c.args.leads c.args.trails c.args.text.now)) c.in-Some.is) c.print_lines.ensures
