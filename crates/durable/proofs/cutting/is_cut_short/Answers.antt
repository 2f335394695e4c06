use Rattle.std.proofs.Common.{◌≡◌, ◌≢◌, ◌↔◌, not, IsTrue, eqb, ⊎_elim, ℕ, ◌<◌, List, sym, ◌∙◌, ap, length, get_or, take, drop, arith}
use Rattle.std.proofs.lemmas.Bool.{false≢true}
use Rattle.std.proofs.lemmas.Bool.Decides.{eqb_tells}
use Rattle.std.proofs.lemmas.List.{drop_more}
use Rattle.durable.specs.Cutting.{HasBatchAfter}
use Rattle.durable.proofs.CutShort.{long_enough}
use Rattle.durable.proofs.cutting.is_cut_short.Goals as goal

-- the byte at a place
byte_at : (file buf : List ℕ) (at : ℕ) → at < length file → buf ≡ take 1 (drop at file) → get_or buf 0 0 ≡ get_or file at 0
byte_at file buf at there is = ap (λ (l : List ℕ). get_or l 0 0) is ∙ ap (λ (l : List ℕ). get_or (take 1 l) 0 0) (drop_more file at 0 there)

-- the code's test of a byte is that it is another one
is_other : (x : ℕ) → IsTrue (not (eqb x 1)) ↔ (x ≢ 1)
is_other x = ⊎_elim
    (λ same. ((λ yes _. false≢true (sym (ap not same.0) ∙ yes)), (λ other. absurd (other same.1))))
    (λ another. ((λ _. another.1), (λ _. ap not another.0)))
    (eqb_tells x 1)

pub returns-clause-told : goal.returns-clause-told
returns-clause-told g c = λ d stands len_is.
    let gate = c.args.gate in
    let told = c.in_ok-has_batch_after.ensures.told d stands len_is in
    let after : HasBatchAfter gate d.seen = told.0 c.if-not-branch.false in
    let there = long_enough gate d.seen after in
    let read = c.in_ok-read_at.ensures.read d (c.has_batch_after.ensures.state d stands) (omega (arith, there)) in
    let byte = byte_at d.seen c.read_at.new.buf gate (omega (arith, there)) read in
    let other = is_other (get_or c.read_at.new.buf 0 0) in (
      λ yes. (after, λ one. other.0 yes (byte ∙ one)),
      λ cut. other.1 (λ one. cut.1 (sym byte ∙ one)),
    )
