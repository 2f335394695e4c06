use Rattle.std.proofs.Common.{refl}
use Rattle.durable.specs.Reading.{meaning}
use Rattle.durable.specs.declared.fault.RecordFault.TheVariants.{Damaged}
use Rattle.durable.proofs.Results.{passed_on}
use Rattle.durable.proofs.Taking.{one_taken, one_refused, refused_damaged}
use Rattle.durable.proofs.reading.take_entry.Goals as goal

pub returns-in-Damaged-clause-damaged : goal.returns-in-Damaged-clause-damaged
returns-in-Damaged-clause-damaged c = λ _. (refl, (c.in-Damaged.ensures.0, λ before entry rest at history. c.in-Damaged.ensures.1 entry rest (history before entry _ refl).in_range))

pub returns-in_err-take-in-Found-clause-damaged : goal.returns-in_err-take-in-Found-clause-damaged
returns-in_err-take-in-Found-clause-damaged c = λ is.
    let found = c.in-Found.ensures in
    let fault = c.in_err-take-in-Found.field-0.0 in
    let is_damaged = passed_on c.from_residual.result fault Damaged c.from_residual.ensures.1 is in
    let entry = meaning c.in-Found.entry in (
      (refused_damaged entry c.args.recorded.now c.take.new.self fault c.take.result c.take.ensures c.in_err-take-in-Found.was is_damaged).0,
      one_refused c.args.cluster c.args.bytes.now c.in-Found.size entry c.args.recorded.now c.take.new.self fault c.take.result found.0 found.3 c.take.ensures c.in_err-take-in-Found.was is_damaged,
    )

pub returns-in_ok-take-in-Found-clause-taken : goal.returns-in_ok-take-in-Found-clause-taken
returns-in_ok-take-in-Found-clause-taken c =
    let found = c.in-Found.ensures in
    let entry = meaning c.in-Found.entry in
    (entry, found.0, one_taken c.args.cluster c.args.bytes.now c.in-Found.size entry c.args.recorded.now c.take.new.self _ found.0 found.1 found.2 found.3 c.in_ok-take-in-Found.ensures refl)
