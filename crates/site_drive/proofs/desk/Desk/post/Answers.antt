use Rattle.std.proofs.Common.{◌++◌, ◌∷◌, [], take, sym, ap, subst, ◌∙◌, append_assoc}
use Rattle.durable.proofs.Results.{on_err}
use Rattle.site_ids.specs.Lists.{In}
use Rattle.wire.specs.Spelling.{spelled}
use Rattle.site_drive.specs.Posting.{letters_of, spelled_of}
use Rattle.site_drive.proofs.Giving.{in_at, take_past}
use Rattle.site_drive.proofs.Posting.{one_spelled, spelled_begins}
use Rattle.site_drive.proofs.desk.Desk.post.Goals as goal

pub loop-to-preserved : goal.loop-to-preserved
loop-to-preserved c = λ fits.
    let items = c.as_slice-to-items.result.now in
    let x = c.loop-to-item.result in
    let i = c.loop-to.to-index in
    let before = letters_of c.args.letters.now.items in
    let one = (x.0, spelled x.1) ∷ [] in
    c.in_ok-put.ensures.ok (fits x (in_at items i x c.loop-to-test.true c.loop-to-item.is))
    ∙ ap (λ l. l ++ one) (c.loop-to.invariant fits)
    ∙ append_assoc before (spelled_of (take i items)) one
    ∙ ap (λ l. before ++ l) (sym (one_spelled items i x c.loop-to-test.true c.loop-to-item.is))

pub returns-in_err-put-clause-refused : goal.returns-in_err-put-clause-refused
returns-in_err-put-clause-refused c = on_err c.from_residual.result λ fits.
    let same = c.as_slice-to-items.ensures.value in
    let i = c.loop-to.to-index in
    let before = letters_of c.args.letters.now.items in (
      i,
      c.in_err-put.ensures.refused
          ∙ c.loop-to.invariant (λ x k. fits x (subst (λ l. In l x) same k))
          ∙ ap (λ l. before ++ l) (spelled_begins c.as_slice-to-items.result.now i)
          ∙ ap (λ l. before ++ take i (spelled_of l)) same,
    )

pub returns-clause-ok : goal.returns-clause-ok
returns-clause-ok c = λ fits.
    let same = c.as_slice-to-items.ensures.value in
    let before = letters_of c.args.letters.now.items in
    c.loop-to.invariant (λ x k. fits x (subst (λ l. In l x) same k))
    ∙ ap (λ l. before ++ spelled_of l) (take_past c.as_slice-to-items.result.now c.loop-to.to-index c.loop-to-test.false)
    ∙ ap (λ l. before ++ spelled_of l) same
