use Rattle.std.proofs.Common.{◌≡◌, ◌<◌, ◌∙◌, get_or, length, sym, arith}
use Rattle.std.proofs.lemmas.List.{get_or_default}
use Rattle.server_clients.specs.declared.seat.Seat.{Seat}
use Rattle.server_clients.proofs.Seating.{first_next, found_first, found_none}
use Rattle.server_clients.proofs.seats.Seats.first_to_go.Goals as goal

pub loop-i-init : goal.loop-i-init
loop-i-init g c = record { within = omega arith; first = λ j below none. absurd (omega (arith, below)) }

pub loop-i-preserved : goal.loop-i-preserved
loop-i-preserved g c =
    let seats = c.args.self.now.seats.items in
    let x = c.index.result.now in
    let below : c.loop-i.i < length seats = omega (arith, c.loop-i-test.true, c.len.ensures) in
    let at : (d : Seat _) → get_or seats c.loop-i.i d ≡ x =
    λ d. get_or_default seats c.loop-i.i d x below ∙ sym c.index.ensures in
    record {
      within = omega (arith, below);
      first = first_next c.args.self.now.times c.args.now seats c.loop-i.i c.loop-i.first c.earlier-first.result c.goes_since-since.result x
          c.earlier-first.ensures at c.loop-i.invariant.first c.goes_since-since.ensures;
    }

pub returns-in-Some : goal.returns-in-Some
returns-in-Some g c =
    found_first c.args.self.now.times c.args.now c.args.self.now.seats.items c.loop-i.i c.loop-i.first _ c.in-Some.is
    (omega (arith, c.loop-i-test.false, c.len.ensures, c.loop-i.invariant.within)) c.loop-i.invariant.first

pub returns-in-None : goal.returns-in-None
returns-in-None g c =
    found_none c.args.self.now.times c.args.now c.args.self.now.seats.items c.loop-i.i c.loop-i.first c.in-None.is
    (omega (arith, c.loop-i-test.false, c.len.ensures, c.loop-i.invariant.within)) c.loop-i.invariant.first
