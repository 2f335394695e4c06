use Rattle.std.proofs.Common.{◌≡◌, length, get_or, arith, rules}
use Rattle.std.proofs.lemmas.Grind.{common_steps}
use Rattle.durable.specs.Reading.{meaning}
use Rattle.durable.specs.Spelling.{payload}
use Rattle.durable.proofs.Blocks.{block_front}
use Rattle.durable.proofs.parsing.next_entry.Goals as goal

pub returns-in-Some : goal.returns-in-Some
returns-in-Some c =
    let size = c.from_be_bytes-size.result in
    let entry = meaning c.in-Some.entry in
    let spelled = c.in-Some.ensures.1 in
    let within = c.if-rest-size.false in
    let first : get_or c.args.bytes.now 0 0 ≡ 1 = search rules in
    let is : size ≡ length (payload entry) = grind (arith, common_steps, spelled, within) in (
      c.in-Some.ensures.0,
      omega (arith, is),
      grind (arith, common_steps, within),
      block_front c.args.bytes.now (payload entry) size c.in-1.len_at_least (λ k. omega (arith, c.type_inv.bytes k)) first c.from_be_bytes-size.ensures is spelled,
    )
