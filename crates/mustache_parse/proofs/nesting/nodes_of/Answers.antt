use Rattle.std.proofs.Common.{◌+◌, map, ap, ◌∙◌, arith, drop, length, ◌-◌, length-drop}
use Rattle.std.proofs.lemmas.List.{take_all}
use Rattle.std.proofs.lemmas.Result.{err_from_is_err_and}
use Rattle.mustache_parse.specs.Margin.{goes_on}
use Rattle.mustache_parse.specs.Stack.{marked_view}
use Rattle.mustache_parse.proofs.NestedLemmas.{nodes_at_end, faults_at_end, at_index, fault_at_index, begins}
use Rattle.mustache_parse.proofs.nesting.nodes_of.Goals as goal

pub loop-index-init : goal.loop-index-init
loop-index-init c = begins c.args.tokens.now c.new-nesting.result c.new-nesting.ensures.opened c.new-nesting.ensures.nodes

pub returns-in_err-read-clause-fault : goal.returns-in_err-read-clause-fault
returns-in_err-read-clause-fault c =
    let p = err_from_is_err_and c.from_residual.result c.from_residual.ensures.1 in
    rw (p.1, p.2)
    (λ memory. fault_at_index c.args.tokens.now c.loop-index.index c.loop-index.nesting c.loop-index.leads _ c.in_err-read.field-0.0 c.loop-index-test.true c.loop-index.invariant (c.in_err-read.ensures.fault memory))

pub loop-index-preserved : goal.loop-index-preserved
loop-index-preserved c =
    at_index c.args.tokens.now c.loop-index.index c.loop-index.nesting c.read.new.self c.loop-index.leads c.goes_on-trails.result _ c.loop-index-test.true c.loop-index.invariant
    (c.goes_on-trails.ensures ∙ ap (λ l. goes_on (map marked_view l)) (take_all (length c.args.tokens.now - (c.loop-index.index + 1)) (drop (c.loop-index.index + 1) c.args.tokens.now) (omega (arith, length-drop (c.loop-index.index + 1) c.args.tokens.now))))
    c.in_ok-read.ensures.ok

pub returns-clause-ok : goal.returns-clause-ok
returns-clause-ok c = nodes_at_end c.args.tokens.now c.loop-index.index c.loop-index.nesting c.loop-index.leads c.finish.result c.loop-index-test.false c.loop-index.invariant c.finish.ensures.ends

pub returns-clause-fault : goal.returns-clause-fault
returns-clause-fault c = faults_at_end c.args.tokens.now c.loop-index.index c.loop-index.nesting c.loop-index.leads c.finish.result c.loop-index-test.false c.loop-index.invariant c.finish.ensures.ends
