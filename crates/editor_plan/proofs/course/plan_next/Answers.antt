use Rattle.std.proofs.Common.{◌≡◌, true, sym, ◌∙◌, subst, rules}
use Rattle.editor_ledger.specs.Books.{Book}
use Rattle.editor_ledger.specs.Steps.{is_idle}
use Rattle.editor_plan.proofs.Planning.{planned_idle}
use Rattle.editor_plan.proofs.course.plan_next.Goals as goal

pub returns-in_err-plan_release-clause-err : goal.returns-in_err-plan_release-clause-err
returns-in_err-plan_release-clause-err c =
    let planned = c.in_ok-plan_texts.ensures.ok in
    let idle : is_idle c.plan_texts.new.ledger ≡ true = sym c.is_idle.ensures ∙ c.if-is_idle.true in
    let same = (planned_idle _ c.args.ledger.now (subst (λ (b : Book). is_idle b ≡ true) planned idle)).0 in
    let stays : c.plan_release.new.self ≡ c.args.ledger.now = c.in_err-plan_release.ensures.err ∙ planned ∙ same in
    search (rules, stays)
