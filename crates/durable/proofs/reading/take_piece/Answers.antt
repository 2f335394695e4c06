use Rattle.std.proofs.Common.{◌≡◌, ◌+◌, ◌≤◌, ◌<◌, ◌++◌, ◌∷◌, [], ℕ, Bool, List, Err, length, sym, ◌∙◌, ap, subst, arith, length-drop, append_assoc}
use Rattle.durable.specs.Items.{Item, item_blocks}
use Rattle.durable.specs.Reading.{AreRead, TakesItem}
use Rattle.durable.specs.declared.fault.RecordFault.TheVariants.{Damaged}
use Rattle.durable.specs.declared.reading.Taken.{Taken}
use Rattle.durable.specs.declared.reading.Taken.TheVariants.{Whole, Ended, CutOff}
use Rattle.durable.specs.declared.recorded.Recorded.{Recorded}
use Rattle.durable.proofs.Piece.{split_more}
use Rattle.durable.proofs.Results.{passed_on}
use Rattle.durable.proofs.Taking.{all_behind}
use Rattle.durable.proofs.reading.take_piece.Goals as goal

-- what the items at a gate were taken as
taken_as : (cluster : ℕ) (bytes : List ℕ) (last : Bool) (old new : Recorded) (taken shape : Taken) → TakesItem cluster bytes last old new taken → taken ≡ shape → TakesItem cluster bytes last old new shape
taken_as cluster bytes last old new taken shape takes is = subst (λ (t : Taken). TakesItem cluster bytes last old new t) is takes

-- the gate moves in the piece
within : {old now new rest piece : ℕ} → now + rest ≡ old + piece → 0 < rest → rest ≤ piece → new ≡ now → (old ≤ new) × (new < old + piece)
within place some shorter same = (omega (arith, place, shorter, same), omega (arith, place, some, same))

pub returns-in_err-size-clause-damaged : goal.returns-in_err-size-clause-damaged
returns-in_err-size-clause-damaged c = λ is.
    let fault = c.in_err-size.field-0.0 in
    let refused = c.in_err-size.ensures.damaged (ap Err (passed_on c.from_residual.result fault Damaged c.from_residual.ensures.1 is)) in
    record {
      now = c.loop-rest.recorded;
      rest = c.loop-rest.rest.now;
      place = refused.0;
      some = c.loop-rest.invariant.some;
      taken = c.loop-rest.invariant.taken;
      none = refused.1;
    }

pub returns-in-Ended-clause-within : goal.returns-in-Ended-clause-within
returns-in-Ended-clause-within c =
    let same = (taken_as c.args.cluster c.loop-rest.rest.now c.args.is_last c.loop-rest.recorded c.take_item.new.recorded c.in_ok-size.field-0 Ended c.in_ok-size.ensures.taken c.in-Ended.is).1 in
    within c.loop-rest.invariant.place c.loop-rest.invariant.some c.loop-rest.invariant.shorter (ap (λ (r : Recorded). r.gate) same)

pub returns-in-CutOff-clause-within : goal.returns-in-CutOff-clause-within
returns-in-CutOff-clause-within c =
    let same = (taken_as c.args.cluster c.loop-rest.rest.now c.args.is_last c.loop-rest.recorded c.take_item.new.recorded c.in_ok-size.field-0 (CutOff c.in-CutOff.least) c.in_ok-size.ensures.taken c.in-CutOff.is).2 in
    within c.loop-rest.invariant.place c.loop-rest.invariant.some c.loop-rest.invariant.shorter (ap (λ (r : Recorded). r.gate) same)

pub loop-rest-preserved : goal.loop-rest-preserved
loop-rest-preserved c =
    let rest = c.loop-rest.rest.now in
    let size = c.in-Whole.size in
    let old = c.loop-rest.recorded in
    let new = c.take_item.new.recorded in
    let item = taken_as c.args.cluster rest c.args.is_last old new c.in_ok-size.field-0 (Whole size) c.in_ok-size.ensures.taken c.in-Whole.is in
    let left = all_behind size rest in
    record {
      place = omega (arith, ap length left, length-drop size rest, c.loop-rest.invariant.place, item.0, item.1);
      some = omega (arith, ap length left, length-drop size rest, item.0);
      shorter = omega (arith, ap length left, length-drop size rest, c.loop-rest.invariant.shorter);
      taken = λ before read.
          let t = c.loop-rest.invariant.taken before read in
          let one = item.3 (before ++ t.0) t.1 in (
            t.0 ++ one.0 ∷ [],
            subst (λ (l : List Item). AreRead c.args.cluster l new) (append_assoc before t.0 (one.0 ∷ [])) one.1,
            split_more c.args.piece.now rest t.0 one.0 size t.2 one.2 ∙ ap (λ (l : List ℕ). item_blocks (t.0 ++ one.0 ∷ []) ++ l) (sym left),
          );
    }
