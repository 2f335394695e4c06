use Rattle.std.proofs.Common.{◌≡◌, ◌≢◌, ◌+◌, ◌∙◌, ◌≤◌, ℕ, get_or, length-set, refl, sym, arith}
use Rattle.std.proofs.lemmas.List.{get_or-set_other, get_or_default}
use Rattle.server_clients.specs.Served.{offered}
use Rattle.server_clients.proofs.Answering.{many_then, one_turn_more, tells_more}
use Rattle.server_clients.specs.declared.seat.Seat.{Seat}
use Rattle.server_clients.proofs.seats.Seats.answer_each.Goals as goal

behind : (i k : ℕ) → i + 1 ≤ k → k ≢ i
behind i k more = omega (arith, more)

pub loop-i-init : goal.loop-i-init
loop-i-init g c = record { within = omega arith; same = (refl, refl); taken = (0, omega arith, refl); as_many = refl; tells = λ k below d. absurd (omega (arith, below)); turns = refl; rest = λ k d h. refl }

pub loop-i-preserved : goal.loop-i-preserved
loop-i-preserved g c =
    let at : (d : Seat _) → get_or c.args.self.now.seats.items c.loop-i.i d ≡ c.index_mut-seat.result.now =
    λ d. sym (c.loop-i.invariant.rest c.loop-i.i d (omega arith)) ∙ get_or_default c.loop-i.self.seats.items c.loop-i.i d c.index_mut-seat.result.now (omega (arith, c.loop-i-test.true, c.len.ensures)) ∙ sym c.index_mut-seat.ensures.value in record {
      within = omega (arith, c.loop-i-test.true, c.len.ensures);
      same = c.loop-i.invariant.same;
      taken =
          let n = c.loop-i.invariant.taken in
          let k = c.answer.ensures.taken in
          (n.0 + k.0, omega (arith, n.1, k.1), many_then offered n.0 k.0 c.args.served.now c.loop-i.served c.answer.new.served n.2 k.2);
      as_many = length-set c.loop-i.self.seats.items c.loop-i.i _ ∙ c.loop-i.invariant.as_many;
      tells = tells_more c.loop-i.answered c.in_ok-answered.field-0 c.loop-i.i c.args.self.now.seats.items c.loop-i.self.seats.items c.index_mut-seat.result.now c.answer.new.self (omega (arith, c.loop-i-test.true, c.len.ensures))
          at c.loop-i.invariant.tells c.in_ok-answered.ensures.counts;
      turns = one_turn_more offered c.args.self.now.times c.args.now c.loop-i.i c.args.served.now c.loop-i.served c.answer.new.served c.args.self.now.seats.items c.loop-i.self.seats.items c.index_mut-seat.result.now c.answer.new.self
          (omega (arith, c.loop-i-test.true, c.len.ensures)) c.loop-i.invariant.turns at c.in_ok-answered.ensures.turn;
      rest = λ k d more. get_or-set_other c.loop-i.self.seats.items c.loop-i.i k _ d (behind c.loop-i.i k more) ∙ c.loop-i.invariant.rest k d (omega (arith, more));
    }

pub returns-in_err-answered-clause-taken : goal.returns-in_err-answered-clause-taken
returns-in_err-answered-clause-taken g c =
    let n = c.loop-i.invariant.taken in
    let k = c.answer.ensures.taken in (
      n.0 + k.0,
      omega (arith, n.1, k.1, c.loop-i-test.true, c.len.ensures, c.loop-i.self.within),
      many_then offered n.0 k.0 c.args.served.now c.loop-i.served c.answer.new.served n.2 k.2,
    )

pub returns-clause-taken : goal.returns-clause-taken
returns-clause-taken g c =
    let n = c.loop-i.invariant.taken in
    (n.0, omega (arith, n.1, c.loop-i.invariant.within, c.loop-i.self.within), n.2)
