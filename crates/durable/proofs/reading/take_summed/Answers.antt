use Rattle.std.proofs.Common.{◌≡◌, ◌+◌, ◌-◌, ◌<◌, ◌++◌, ℕ, List, Err, length, take, drop, refl, sym, ◌∙◌, ap, arith, length-take, length-drop}
use Rattle.std.proofs.Math.Seq.{take-length}
use Rattle.std.proofs.lemmas.Bool.{false≢true}
use Rattle.durable.specs.Items.{Batch, sum_of, sum_front}
use Rattle.durable.specs.Spelling.{blocks}
use Rattle.durable.specs.declared.fault.RecordFault.TheVariants.{Damaged}
use Rattle.durable.proofs.Piece.{read_before, sum_and_blocks, too_long, wrong_sum, wrong_batch}
use Rattle.durable.proofs.Results.{same_error}
use Rattle.durable.proofs.Taking.{batch_read}
use Rattle.durable.proofs.reading.take_summed.Goals as goal

part : (n : ℕ) (bytes : List ℕ) → take (18 + n - 18) bytes ≡ take n bytes
part n bytes = ap (λ (k : ℕ). take k bytes) (omega arith)

pub returns-then-is_last-clause-damaged : goal.returns-then-is_last-clause-damaged
returns-then-is_last-clause-damaged c = λ _. (
  refl,
  λ before items later read last log spelled.
      too_long c.args.cluster before c.args.bytes.now later items log spelled c.args.sum.size c.args.sum.sum c.requires.at (last c.if-is_last.true) (λ long. omega (arith, long, c.if-bytes-end.true)),
)

pub returns-then-not-is_of-clause-damaged : goal.returns-then-not-is_of-clause-damaged
returns-then-not-is_of-clause-damaged c = λ _. (
  refl,
  λ before items later read last log spelled.
      wrong_sum c.args.cluster before c.args.bytes.now later items log spelled c.args.sum.size c.args.sum.sum c.requires.at (omega (arith, c.if-bytes-end.false))
      (λ is. false≢true (c.if-not-is_of.ensures.1 (is ∙ ap (λ (l : List ℕ). sum_of l) (sym (part c.args.sum.size (drop 18 c.args.bytes.now)))))),
)

pub returns-in-Err-clause-damaged : goal.returns-in-Err-clause-damaged
returns-in-Err-clause-damaged c = λ is.
    let refused = c.in-Err.ensures.damaged (ap Err (same_error (Err c.in-Err.fault) c.in-Err.fault Damaged refl is)) in (
      refl,
      λ before items later read last log spelled.
          wrong_batch c.args.cluster before c.args.bytes.now later items log spelled c.args.sum.size c.args.sum.sum c.requires.at (omega (arith, c.if-bytes-end.false))
          (λ es history same. refused _ es (read_before c.args.cluster before c.args.recorded.now read) history (part c.args.sum.size (drop 18 c.args.bytes.now) ∙ same)),
    )

pub returns-in-Ok-clause-taken : goal.returns-in-Ok-clause-taken
returns-in-Ok-clause-taken c =
    let size = c.args.sum.size in
    let sum = c.args.sum.sum in
    let bytes = c.args.bytes.now in
    let at = c.requires.at in
    let long : 18 + size < length bytes = omega (arith, c.if-bytes-end.false) in
    let mine = take (18 + size - 18) (drop 18 bytes) in
    let mine_size : length mine ≡ size = omega (arith, length-take (18 + size - 18) (drop 18 bytes), length-drop 18 bytes, long) in
    let taken = c.in-Ok.ensures.taken in
    let es = taken.0 in
    let same : mine ≡ blocks es = sym (take-length mine) ∙ taken.1.spelled in
    let is_sum : sum ≡ sum_of (blocks es) = c.if-not-is_of.ensures.0 refl ∙ ap (λ (l : List ℕ). sum_of l) same in (
      long,
      omega (arith, taken.1.gate, mine_size),
      omega arith,
      λ before read. (
        Batch es,
        batch_read c.args.cluster before mine es c.args.recorded.now c.take_batch.new.recorded _ read taken.1 refl (omega (arith, mine_size, at.some)) (omega (arith, mine_size, at.counted)) same,
        sum_and_blocks bytes size sum at ∙ ap (λ (l : List ℕ). sum_front size sum ++ l) (sym (part size (drop 18 bytes)))
            ∙ (λ i. sum_front (its_size mine_size same i) (is_sum i) ++ same i),
      ),
    )
  where
    its_size : {n : ℕ} {l m : List ℕ} → length l ≡ n → l ≡ m → n ≡ length m
    its_size is same = sym is ∙ ap length same
