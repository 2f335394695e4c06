use Rattle.std.proofs.Common.{Result, length}
use denote.Text.{Utf8}
use denote.Shadow.{shadow}
use Rattle.mustache_parse.specs.Margin.{literal_under}
use Rattle.render.specs.Margin.{margin_text}
use Rattle.render.specs.Meaning.{prints}
use Rattle.render.specs.Rendering.{Adds}
use Rattle.render.specs.declared.output.Output.{Output}
use Rattle.render.specs.declared.fault.RenderFault.{RenderFault}
use Rattle.render.proofs.lines.print_lines.Given as goal

-- what the rest prints makes up what all prints
abbrev pub invariant-loop-line : goal.invariant-loop-line
invariant-loop-line l = shadow (Utf8 l.rest) × ((new : Output) (r : Result (Unit {0}) RenderFault)
    → Adds l.out new (prints (literal_under (margin_text l.margin) l.begins l.trails l.rest)) r
    → Adds l.initial.out new (prints (literal_under (margin_text l.margin) l.leads l.trails l.text)) r)

abbrev pub decreases-loop-line : goal.decreases-loop-line
decreases-loop-line l = length l.rest
