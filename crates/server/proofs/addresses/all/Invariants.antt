use Rattle.std.proofs.Common.{◌≡◌, length, take}
use Rattle.server.specs.Placing.{AreAddresses}
use Rattle.server.proofs.addresses.all.Given as goal

abbrev pub invariant-loop-text : goal.invariant-loop-text
invariant-loop-text l = (length l.found.items ≡ l.text-index) × AreAddresses (take l.text-index l.texts) (λ t. t.now)
