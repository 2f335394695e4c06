use Rattle.std.proofs.Common.{◌≡◌, Some, List, length, refl, subst}
use Rattle.std.specs.Prelude.{slice_get}
use Rattle.std.proofs.lemmas.Option.{slice_get_read}
use Rattle.node.specs.declared.queue.Waiting.{Waiting}
use Rattle.node.proofs.Choosing.{value_waits}
use Rattle.node.proofs.queue.Queue.value_at.Goals as goal

pub returns-in-Some : goal.returns-in-Some
returns-in-Some c values are =
    let waiting = c.in-Some.waiting.now in
    let found = c.in-Some.ensures.lookup in
    let there = slice_get_read c.deref.result.now (length c.deref.result.now) c.args.place waiting refl found.3.0 found.1 in
    value_waits c.args.self.now.items.items values c.args.place waiting are (subst (λ (ws : List Waiting). slice_get ws c.args.place ≡ Some waiting) c.deref.ensures.value there)
