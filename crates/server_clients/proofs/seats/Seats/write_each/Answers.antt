use Rattle.std.proofs.Common.{◌≡◌, ◌<◌, ◌∙◌, get_or, length, refl, sym, arith}
use Rattle.std.proofs.lemmas.List.{get_or_default}
use Rattle.server_clients.specs.Moving.{IsWrittenOnce}
use Rattle.server_clients.specs.declared.seat.Seat.{Seat}
use Rattle.server_clients.proofs.Moving.{none_done, one_done}
use Rattle.server_clients.proofs.seats.Seats.write_each.Goals as goal

pub loop-i-init : goal.loop-i-init
loop-i-init g c = record {
  within = omega arith;
  done = none_done (IsWrittenOnce g.S.Write.contents c.args.self.now.times c.args.now) c.args.self.now.seats.items;
  same = (refl, refl);
}

pub loop-i-preserved : goal.loop-i-preserved
loop-i-preserved g c =
    let old = c.args.self.now.seats.items in
    let now = c.loop-i.self.seats.items in
    let x = c.index_mut-to.result.now in
    let below : c.loop-i.i < length now = omega (arith, c.loop-i-test.true, c.len.ensures) in
    let at : (d : Seat _) → get_or old c.loop-i.i d ≡ x =
    λ d. sym (c.loop-i.invariant.done.others c.loop-i.i (omega arith) d)
    ∙ get_or_default now c.loop-i.i d x below ∙ sym c.index_mut-to.ensures.value in
    record {
      within = omega (arith, below);
      done = one_done (IsWrittenOnce g.S.Write.contents c.args.self.now.times c.args.now) c.loop-i.i c.loop-i.went c.write-went.result
          old now x c.write-went.new.self below at c.loop-i.invariant.done c.write-went.ensures;
      same = c.loop-i.invariant.same;
    }
