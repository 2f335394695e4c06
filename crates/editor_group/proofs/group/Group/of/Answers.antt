use Rattle.std.proofs.Common.{Bor, List, ℕ}
use Rattle.editor_group.specs.Addresses.{OneIsRefused}
use Rattle.editor_group.proofs.Naming.{next_named, all_named, one_refused, passes_on}
use Rattle.editor_group.proofs.group.Group.of.Goals as goal

pub loop-url-preserved : goal.loop-url-preserved
loop-url-preserved c =
    let pushed = c.in_ok-push_node.ensures.named in
    next_named (λ url. url.now) c.args.urls.now c.loop-url.url-index _
    c.loop-url.nodes.items c.push_node.new.nodes.items pushed.0
    c.loop-url-test.true pushed.2 c.loop-url.invariant pushed.1

pub returns-clause-named : goal.returns-clause-named
returns-clause-named c =
    all_named (λ url. url.now) c.args.urls.now c.loop-url.url-index c.loop-url.nodes.items
    c.loop-url-test.false c.loop-url.invariant

pub returns-in_err-push_node-clause-refused : goal.returns-in_err-push_node-clause-refused
returns-in_err-push_node-clause-refused c =
    let why = c.in_err-push_node.field-0.0 in
    let here = one_refused (λ (url : Bor (List ℕ)). url.now) c.args.urls.now c.loop-url.url-index _ why c.loop-url-test.true c.in_err-push_node.ensures.refused in
    passes_on (OneIsRefused (λ (url : Bor (List ℕ)). url.now) c.args.urls.now) c.from_residual.result why c.from_residual.ensures.1 here
