use Rattle.std.proofs.Common.{Option, MatchOption, subst}
use Rattle.editor_group.specs.Addresses.{Names, NamesNone}
use Rattle.editor_group.specs.declared.address.Address.{Address}
use Rattle.editor_group.proofs.group.push_node.Goals as goal

pub returns-in_ok-push-in-Some-clause-named : goal.returns-in_ok-push-in-Some-clause-named
returns-in_ok-push-in-Some-clause-named c =
    let P : Option Address → Type 0 = λ o. MatchOption o (NamesNone c.args.url.now) (Names c.args.url.now) in
    (c.in-Some.node, subst P c.in-Some.is c.in_ok-node.ensures, c.in_ok-push-in-Some.ensures.items)
