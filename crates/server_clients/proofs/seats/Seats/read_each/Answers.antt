use Rattle.std.proofs.Common.{◌≡◌, ◌<◌, ◌∙◌, get_or, length, refl, sym, arith}
use Rattle.std.proofs.lemmas.List.{get_or_default}
use Rattle.server_clients.specs.Moving.{IsReadOnce}
use Rattle.server_clients.specs.declared.seat.Seat.{Seat}
use Rattle.server_clients.proofs.Moving.{none_done, on_err, one_done, still_done}
use Rattle.server_clients.proofs.seats.Seats.read_each.Goals as goal

pub loop-i-init : goal.loop-i-init
loop-i-init g c = record {
  within = omega arith;
  done = none_done (IsReadOnce g.S.Read.remaining c.args.now) c.args.self.now.seats.items;
  same = (refl, refl);
}

pub loop-i-preserved : goal.loop-i-preserved
loop-i-preserved g c =
    let old = c.args.self.now.seats.items in
    let now = c.loop-i.self.seats.items in
    let x = c.index_mut-from.result.now in
    let below : c.loop-i.i < length now = omega (arith, c.loop-i-test.true, c.len.ensures) in
    let at : (d : Seat _) → get_or old c.loop-i.i d ≡ x =
    λ d. sym (c.loop-i.invariant.done.others c.loop-i.i (omega arith) d)
    ∙ get_or_default now c.loop-i.i d x below ∙ sym c.index_mut-from.ensures.value in
    record {
      within = omega (arith, below);
      done = one_done (IsReadOnce g.S.Read.remaining c.args.now) c.loop-i.i c.loop-i.came c.in_ok-came.field-0
          old now x c.read.new.self below at c.loop-i.invariant.done c.in_ok-came.ensures.read;
      same = c.loop-i.invariant.same;
    }

pub returns-in_err-came-clause-memory : goal.returns-in_err-came-clause-memory
returns-in_err-came-clause-memory g c = on_err c.from_residual.result (
  c.loop-i.i,
  c.loop-i.came,
  omega (arith, c.loop-i-test.true, c.len.ensures, c.loop-i.invariant.done.as_many),
  still_done (IsReadOnce g.S.Read.remaining c.args.now) c.loop-i.i c.loop-i.came c.args.self.now.seats.items
      c.loop-i.self.seats.items c.index_mut-from.result.now c.read.new.self
      (sym c.index_mut-from.ensures.value) c.in_err-came.ensures.memory c.loop-i.invariant.done,
)
