use Rattle.std.proofs.Common.{◌≡◌, inl, List, [], ◌∷◌, ◌++◌, ℕ, length, sym, ◌∙◌, ap, subst, arith}
use Rattle.durable.specs.Entries.{Floor}
use Rattle.durable.specs.Formatting.{blank_head, floor_bytes}
use Rattle.durable.specs.Spelling.{head}
use Rattle.durable.specs.Standing.{StandsFor}
use Rattle.durable.proofs.Floors.{empty_of, floor_is, mark_is, floor_torn, whole, mark_torn, then_blank, then_floor, then_mark}
use Rattle.durable.proofs.Results.{on_err}
use Rattle.durable.proofs.record.Record.format_above.Goals as goal

pub returns-in_err-write_blank-clause-in_part : goal.returns-in_err-write_blank-clause-in_part
returns-in_err-write_blank-clause-in_part g c = on_err c.from_residual-in_err-write_blank.result (λ d stands empty.
    let left = c.in_err-write_blank.ensures.torn d (c.in_ok-len.ensures.state d stands) empty in
    (left.0, left.1, then_blank c.args.node c.args.cluster c.args.floor d left.0 left.2, inl left.3))

pub returns-in_err-write_through-clause-in_part : goal.returns-in_err-write_through-clause-in_part
returns-in_err-write_through-clause-in_part g c = on_err c.from_residual-in_err-write_through.result (λ d stands empty.
    let node = c.args.node in
    let cluster = c.args.cluster in
    let size = length c.floor_batch-batch.result in
    let blank = c.in_ok-write_blank.ensures.done d (c.in_ok-len.ensures.state d stands) empty in
    let left = c.in_err-write_through.ensures.torn blank.0 blank.1 blank.3 (omega (arith, ap length blank.4)) in
    (left.0, left.1, then_floor node cluster c.args.floor d blank.0 blank.2 left.0 size blank.4 left.2, floor_torn node cluster c.args.floor blank.0.seen left.0.seen size blank.4 left.3))

pub returns-in_err-write_through-2-clause-in_part : goal.returns-in_err-write_through-2-clause-in_part
returns-in_err-write_through-2-clause-in_part g c = on_err c.from_residual-in_err-write_through-2.result (λ d stands empty.
    let node = c.args.node in
    let cluster = c.args.cluster in
    let floor = c.args.floor in
    let instance = c.floor_batch-batch.ensures.in_range in
    let size = length c.floor_batch-batch.result in
    let blank = c.in_ok-write_blank.ensures.done d (c.in_ok-len.ensures.state d stands) empty in
    let floored = c.in_ok-write_through.ensures.done blank.0 blank.1 blank.3 (omega (arith, ap length blank.4)) in
    let is : floored.0.seen ≡ blank_head node cluster ++ floor_bytes floor = floored.4 ∙ floor_is node cluster floor blank.0.seen c.floor_batch-batch.result blank.4 c.floor_batch-batch.ensures.bytes in
    let left = c.in_err-write_through-2.ensures.torn floored.0 floored.1 floored.3 (omega arith) in (
      left.0,
      left.1,
      then_mark node cluster floor instance d floored.0 left.0 (then_floor node cluster floor d blank.0 blank.2 floored.0 size blank.4 floored.2) is left.2,
      mark_torn node cluster floor instance floored.0.seen left.0.seen is left.3,
    ))

pub returns-clause-formatted : goal.returns-clause-formatted
returns-clause-formatted g c = λ d stands.
    let node = c.args.node in
    let cluster = c.args.cluster in
    let floor = c.args.floor in
    let instance = c.floor_batch-batch.ensures.in_range in
    let size = length c.floor_batch-batch.result in
    let empty : d.seen ≡ [] = empty_of d.seen (omega (arith, c.in_ok-len.ensures.len d stands)) in
    let blank = c.in_ok-write_blank.ensures.done d (c.in_ok-len.ensures.state d stands) empty in
    let floored = c.in_ok-write_through.ensures.done blank.0 blank.1 blank.3 (omega (arith, ap length blank.4)) in
    let floored_is : floored.0.seen ≡ blank_head node cluster ++ floor_bytes floor = floored.4 ∙ floor_is node cluster floor blank.0.seen c.floor_batch-batch.result blank.4 c.floor_batch-batch.ensures.bytes in
    let marked = c.in_ok-write_through-2.ensures.done floored.0 floored.1 floored.3 (omega arith) in
    let is : marked.0.seen ≡ head node cluster ++ floor_bytes floor = marked.4 ∙ mark_is node cluster floor floored.0.seen floored_is in (
      empty,
      marked.0,
      marked.1,
      marked.3,
      is,
      subst (λ (file : List ℕ). StandsFor node cluster file (Floor floor ∷ [])) (sym is) (whole node cluster floor instance),
      then_mark node cluster floor instance d floored.0 marked.0 (then_floor node cluster floor d blank.0 blank.2 floored.0 size blank.4 floored.2) floored_is marked.2,
      omega (arith, marked.5, floored.5, blank.5),
    )
