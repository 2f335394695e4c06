use Rattle.std.proofs.Common.{◌≡◌, ◌∙◌, ap, ◌+◌, ◌<◌, ℕ, length, take, drop, arith}
use Rattle.std.proofs.lemmas.Grind.{common_steps}
use Rattle.durable.proofs.CutShort.{long_enough, sum_there, longer, goes_open, was_cut}
use Rattle.durable.proofs.cutting.has_batch_after.Goals as goal

pub returns-then-left-clause-told : goal.returns-then-left-clause-told
returns-then-left-clause-told g c = λ d stands len_is. (
  λ no. cc,
  λ cut. absurd (omega (arith, long_enough c.args.gate d.seen cut, c.if-left.true, c.saturating_sub-left.ensures, len_is)),
)

pub returns-in_default-clause-told : goal.returns-in_default-clause-told
returns-in_default-clause-told g c = λ d stands len_is.
    let gate = c.args.gate in
    let measured = stands in
    let size = len_is in
    let front = c.in_ok-read_at.ensures.read d measured (omega (arith, c.if-left.false, c.saturating_sub-left.ensures, size)) in (
      λ no. cc,
      λ cut. absurd (sum_there gate d.seen cut c.read_at.new.buf front c.in_default.ensures),
    )

pub returns-then-left-sum-clause-told : goal.returns-then-left-sum-clause-told
returns-then-left-sum-clause-told g c = λ d stands len_is.
    let gate = c.args.gate in
    let measured = stands in
    let size = len_is in
    let front = c.in_ok-read_at.ensures.read d measured (omega (arith, c.if-left.false, c.saturating_sub-left.ensures, size)) in (
      λ no. cc,
      λ cut. absurd (omega (arith, longer gate d.seen cut c.read_at.new.buf c.in-Some.sum.size c.in-Some.sum.sum front c.in-Some.ensures, c.if-left-sum.true, c.saturating_sub-left.ensures, size)),
    )

pub returns-clause-told : goal.returns-clause-told
returns-clause-told g c = λ d stands len_is.
    let gate = c.args.gate in
    let measured = stands in
    let len = len_is in
    let front = c.in_ok-read_at.ensures.read d measured (omega (arith, c.if-left.false, c.saturating_sub-left.ensures, len)) in
    let read = c.in_ok-read_at.ensures.state d measured in
    let size = c.in-Some.sum.size in
    let sum = c.in-Some.sum.sum in
    let room : length c.deref_mut.result.now ≡ size + 1 = grind (arith, common_steps, c.deref_mut.ensures.len, c.in_ok-resize.ensures.len) in
    let long : gate + 18 + size < length d.seen = omega (arith, c.if-left-sum.false, c.if-left.false, c.saturating_sub-left.ensures, len) in
    let batch = c.in_ok-read_at-2.ensures.read d read (omega (arith, room, long)) in
    let batch_is : c.read_at-2.new.buf ≡ take (size + 1) (drop (gate + 18) d.seen) = batch ∙ ap (λ (k : ℕ). take k (drop (gate + 18) d.seen)) room in
    let told = c.goes_on.ensures in (
      λ yes.
          let both = told.0 yes in
          was_cut gate d.seen c.read_at.new.buf c.read_at-2.new.buf size sum front c.in-Some.ensures long batch_is both.0 both.1,
      λ cut. told.1 (goes_open gate d.seen cut c.read_at.new.buf c.read_at-2.new.buf size sum front c.in-Some.ensures batch_is),
    )
