use Rattle.std.proofs.Common.{Err, sym, ap, ◌∙◌, subst}
use Rattle.std.proofs.lemmas.Result.{err_from_is_err_and}
use Rattle.mustache_scan.specs.View.{tokens_view}
use Rattle.mustache_parse.specs.Stack.{AreNodesOf}
use Rattle.mustache_parse.specs.Tree.{nested}
use Rattle.mustache_parse.proofs.ParseLemmas.{nodes-of_text, blank-nodes, template-of}
use Rattle.mustache_parse.proofs.TextLemmas.{tree_is, scan_fault}
use Rattle.mustache_parse.proofs.parser.parse.Goals as goal

pub returns-in_err-tokens-clause-fault : goal.returns-in_err-tokens-clause-fault
returns-in_err-tokens-clause-fault c =
    let p = err_from_is_err_and c.from_residual.result c.from_residual.ensures.1 in
    rw (p.1, p.2) (λ memory. scan_fault c.args.source.now c.in_err-tokens.field-0.0 (c.in_err-tokens.ensures.fault memory))

pub returns-in_err-nodes-clause-fault : goal.returns-in_err-nodes-clause-fault
returns-in_err-nodes-clause-fault c =
    let p = err_from_is_err_and c.from_residual-in_err-nodes.result c.from_residual-in_err-nodes.ensures.1 in
    rw (p.1, p.2)
    (λ memory. tree_is c.args.source.now (tokens_view c.in_ok-tokens.tokens.items) (Err c.in_err-nodes.field-0.0) c.in_ok-tokens.ensures.tokens
    (ap (λ ts. nested (tokens_view ts)) (sym c.deref.ensures.value) ∙ c.in_err-nodes.ensures.fault memory))

pub new-requires : goal.new-requires
new-requires c =
    blank-nodes c.args.source.now c.in_ok-nodes.nodes.items
    (nodes-of_text c.args.source.now c.in_ok-tokens.tokens.items c.in_ok-nodes.nodes.items c.in_ok-tokens.ensures.tokens c.in_ok-tokens.ensures.marks (subst (λ ts. AreNodesOf ts c.in_ok-nodes.nodes.items) c.deref.ensures.value c.in_ok-nodes.ensures.ok))

pub returns-clause-ok : goal.returns-clause-ok
returns-clause-ok c =
    template-of c.args.source.now c.in_ok-nodes.nodes.items c.new.result c.new.ensures
    (nodes-of_text c.args.source.now c.in_ok-tokens.tokens.items c.in_ok-nodes.nodes.items c.in_ok-tokens.ensures.tokens c.in_ok-tokens.ensures.marks (subst (λ ts. AreNodesOf ts c.in_ok-nodes.nodes.items) c.deref.ensures.value c.in_ok-nodes.ensures.ok))
