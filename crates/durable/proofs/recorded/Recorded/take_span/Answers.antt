use Rattle.std.proofs.Common.{refl}
use Rattle.durable.specs.Entries.{PromisedSpan}
use Rattle.durable.proofs.Advances.{span_advances}
use Rattle.durable.proofs.Kept.{kept_through}
use Rattle.durable.proofs.recorded.Recorded.take_span.Goals as goal

pub returns : goal.returns
returns c = (
  c.keep_span.ensures.gate,
  λ entries first kept.
      let some = c.if-not-rises.ensures.0 refl in
      let advances = span_advances entries c.args.first c.args.count some.0 c.args.ballot _ some.1 (kept.slots some.0) some.2 in
      (advances, kept_through entries (PromisedSpan c.args.first c.args.count c.args.ballot) c.args.self.now _ _ advances c.make_room_for_span.ensures.same c.keep_span.ensures.remembers kept),
)
