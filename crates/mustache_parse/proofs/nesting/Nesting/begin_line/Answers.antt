use Rattle.std.proofs.Common.{◌≡◌, true, sym, subst, OnOk, List, ℕ, []}
use Rattle.mustache_parse.specs.Margin.{literal_under, text_onto}
use Rattle.mustache_parse.specs.Stack.{levels_with}
use Rattle.mustache_parse.specs.Tree.{Levels, onto}
use Rattle.mustache_parse.proofs.LeafLemmas.{begins-line}
use Rattle.mustache_parse.proofs.nesting.Nesting.begin_line.Goals as goal

pub returns-then-leads-clause-levels : goal.returns-then-leads-clause-levels
returns-then-leads-clause-levels c =
    subst (λ leads. OnOk c.add.result ((w : List ℕ) (ls : Levels) → levels_with w c.args.self.now (onto (text_onto (literal_under w leads true [])) ls) ≡ levels_with w c.add.new.self ls)) (sym c.if-leads.true)
    (begins-line c.args.self.now c.add.new.self c.new.result c.add.result c.new.ensures.bytes (c.add.ensures.opened, c.add.ensures.nodes))
