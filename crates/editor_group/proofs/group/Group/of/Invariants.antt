use Rattle.std.proofs.Common.{take}
use Rattle.editor_group.specs.Addresses.{AreNamed}
use Rattle.editor_group.proofs.group.Group.of.Given as goal

abbrev pub invariant-loop-url : goal.invariant-loop-url
invariant-loop-url l = AreNamed (λ url. url.now) (take l.url-index l.urls) l.nodes.items
