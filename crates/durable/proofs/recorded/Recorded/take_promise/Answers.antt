use Rattle.std.proofs.Common.{subst}
use Rattle.acceptor.specs.declared.slot.Slot.{Slot}
use Rattle.acceptor.specs.Judging.{IsFreeBelow}
use Rattle.durable.specs.Entries.{Promised}
use Rattle.durable.proofs.Advances.{promise_advances}
use Rattle.durable.proofs.Kept.{kept_through}
use Rattle.durable.proofs.recorded.Recorded.take_promise.Goals as goal

pub returns : goal.returns
returns c = (
  c.keep_promise.ensures.gate,
  λ entries first kept.
      let free = subst (λ (s : Slot). IsFreeBelow s.promised c.args.ballot) c.get.ensures c.in-Promise.ensures in
      let advances = promise_advances entries c.args.instance c.args.ballot _ (kept.slots c.args.instance) free in
      (advances, kept_through entries (Promised c.args.instance c.args.ballot) c.args.self.now _ _ advances c.make_room.ensures.same c.keep_promise.ensures.remembers kept),
)
