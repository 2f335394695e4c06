use Rattle.std.proofs.Common.{◌≡◌, ◌⊎◌, inl, inr, ⊎_elim, ◌≤◌, ℕ, Bool, true, List, [], Err, length, take, refl, sym, ◌∙◌, ap, arith, length-take}
use Rattle.std.proofs.Math.Seq.{take-length}
use Rattle.std.proofs.lemmas.List.{append-nil}
use Rattle.durable.specs.Items.{Put}
use Rattle.durable.specs.Spelling.{block}
use Rattle.durable.specs.declared.fault.RecordFault.TheVariants.{Damaged}
use Rattle.durable.proofs.Piece.{read_before, wrong_entry, no_gate}
use Rattle.durable.proofs.Results.{passed_on}
use Rattle.durable.proofs.Taking.{some_taken, put_read}
use Rattle.durable.proofs.reading.take_put.Goals as goal

-- all of what follows is seen, or enough of it
seen : {last : Bool} {later : List ℕ} {n : ℕ} → (last ≡ true → later ≡ []) → (last ≡ true) ⊎ (32784 ≤ n) → (later ≡ []) ⊎ (32784 ≤ n)
seen ends whole = ⊎_elim (λ is. inl (ends is)) (λ long. inr long) whole

pub returns-in_err-take_entry-clause-damaged : goal.returns-in_err-take_entry-clause-damaged
returns-in_err-take_entry-clause-damaged c = λ is.
    let fault = c.in_err-take_entry.field-0.0 in
    let refused = c.in_err-take_entry.ensures.damaged (ap Err (passed_on c.from_residual.result fault Damaged c.from_residual.ensures.1 is)) in (
      refused.0,
      λ before items later read last log spelled.
          wrong_entry c.args.cluster before c.args.bytes.now later items log spelled (seen last c.requires.whole) refused.1.0 c.requires.unsummed
          (λ e rest history same. refused.1.1 _ e rest (read_before c.args.cluster before c.args.recorded.now read) history same),
    )

pub returns-then-size-bytes-clause-taken : goal.returns-then-size-bytes-clause-taken
returns-then-size-bytes-clause-taken c =
    let bytes = c.args.bytes.now in
    let size = c.in-Some.size in
    let old = c.args.recorded.now in
    let one = some_taken c.args.cluster bytes old c.take_entry.new.recorded c.in_ok-take_entry.field-0 size c.in_ok-take_entry.ensures.taken c.in-Some.is in
    let e = one.0 in
    let here : take size bytes ≡ block e = one.2.spelled ∙ append-nil (block e) in (
      c.if-size-bytes.true,
      one.2.gate,
      omega (arith, ap length here, length-take size bytes, one.2.within),
      λ before read. (Put e, put_read c.args.cluster before bytes size e old c.take_entry.new.recorded read one.2, here),
    )

pub returns-else-size-bytes-clause-damaged : goal.returns-else-size-bytes-clause-damaged
returns-else-size-bytes-clause-damaged c = λ _.
    let bytes = c.args.bytes.now in
    let size = c.in-Some.size in
    let one = some_taken c.args.cluster bytes c.args.recorded.now c.take_entry.new.recorded c.in_ok-take_entry.field-0 size c.in_ok-take_entry.ensures.taken c.in-Some.is in
    let e = one.0 in
    let all : size ≡ length bytes = omega (arith, one.2.within, c.if-size-bytes.false) in
    let is : bytes ≡ block e = sym (take-length bytes) ∙ ap (λ (k : ℕ). take k bytes) (sym all) ∙ one.2.spelled ∙ append-nil (block e) in
    (refl, λ before items later read last log spelled. no_gate c.args.cluster before bytes later items log spelled (seen last c.requires.whole) e one.1 is)
