use Rattle.std.proofs.Common.{arith, subst}
use Rattle.std.specs.Prelude.{Some}
use Rattle.server_clients.specs.Seating.{Leaves}
use Rattle.server_clients.proofs.Seating.{leaves_at}
use Rattle.server_clients.proofs.seats.Seats.leave.Goals as goal

pub returns-then-is_over-clause-leaves : goal.returns-then-is_over-clause-leaves
returns-then-is_over-clause-leaves g c =
    let new = c.swap_remove.new.self.items in
    let stream = c.into_stream.result in
    subst (λ s. Leaves s.times c.args.now s.seats.items new (Some stream)) c.loop-i.invariant.same
    (leaves_at c.loop-i.self.times c.args.now c.loop-i.self.seats.items new c.loop-i.i c.index.result.now
    c.swap_remove.result stream (omega (arith, c.loop-i-test.true, c.len.ensures)) c.index.ensures
    (c.is_over.ensures.0 c.if-is_over.true) c.loop-i.invariant.stay c.swap_remove.ensures.value
    c.swap_remove.ensures.items c.into_stream.ensures)
