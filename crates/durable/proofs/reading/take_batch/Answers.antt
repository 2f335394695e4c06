use Rattle.std.proofs.Common.{◌≡◌, ◌++◌, ◌∷◌, ℕ, List, [], Err, length, drop, sym, ◌∙◌, ap, arith, length-drop, append_assoc, rules}
use Rattle.std.proofs.lemmas.Grind.{common_steps}
use Rattle.std.proofs.lemmas.List.{append-nil}
use Rattle.durable.specs.Spelling.{block, blocks}
use Rattle.durable.specs.declared.fault.RecordFault.TheVariants.{Damaged}
use Rattle.durable.proofs.Logs.{blocks-push}
use Rattle.durable.proofs.Results.{passed_on}
use Rattle.durable.proofs.Taking.{all_behind, behind_block, more_taken, none_taken, some_taken, not_ended, not_refused}
use Rattle.durable.proofs.reading.take_batch.Goals as goal

pub returns-in_err-size-clause-damaged : goal.returns-in_err-size-clause-damaged
returns-in_err-size-clause-damaged c = λ is before others at history same.
    let inside = c.loop-rest.invariant.taken in
    let fault = c.in_err-size.field-0.0 in
    let refused = c.in_err-size.ensures.damaged (ap Err (passed_on c.from_residual.result fault Damaged c.from_residual.ensures.1 is)) in
    not_refused c.args.cluster c.args.blocks.now c.loop-rest.rest.now inside.0 inside.1 c.args.recorded.now c.loop-rest.recorded inside.2 before others at history same (search rules) refused.1

pub returns-in-None-clause-damaged : goal.returns-in-None-clause-damaged
returns-in-None-clause-damaged c = λ _ before others at history same.
    let inside = c.loop-rest.invariant.taken in
    let closed = none_taken c.args.cluster c.loop-rest.rest.now c.loop-rest.recorded c.take_entry.new.recorded c.in_ok-size.field-0 c.in_ok-size.ensures.taken c.in-None.is in
    not_ended c.args.cluster c.args.blocks.now c.loop-rest.rest.now inside.0 inside.1 c.args.recorded.now c.loop-rest.recorded inside.2 before others at history same (grind (arith, common_steps, c.is_empty.ensures, c.loop-rest-test.true)) closed.0

pub loop-rest-preserved : goal.loop-rest-preserved
loop-rest-preserved c =
    let inside = c.loop-rest.invariant.taken in
    let rest = c.loop-rest.rest.now in
    let size = c.in-Some.size in
    let one = some_taken c.args.cluster rest c.loop-rest.recorded c.take_entry.new.recorded c.in_ok-size.field-0 size c.in_ok-size.ensures.taken c.in-Some.is in
    let entry = one.0 in
    let takes = one.2 in
    let left = all_behind size rest in
    let whole : rest ≡ block entry ++ drop size rest = behind_block rest (block entry) size (takes.spelled ∙ append-nil (block entry)) in
    record {
      place = omega (arith, ap length left, length-drop size rest, c.loop-rest.invariant.place, takes.gate, takes.within);
      taken = (
        inside.0 ++ entry ∷ [],
        inside.1 ∙ ap (λ (l : List ℕ). blocks inside.0 ++ l) whole ∙ sym (append_assoc (blocks inside.0) (block entry) (drop size rest))
            ∙ (λ i. sym (blocks-push inside.0 entry) i ++ sym left i),
        more_taken c.args.cluster inside.0 (entry ∷ []) rest size c.args.recorded.now c.loop-rest.recorded c.take_entry.new.recorded inside.2 takes,
      );
    }
