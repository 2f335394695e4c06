use Rattle.std.proofs.Common.{ℕ, List, map, Bor, ap, sym, ◌∙◌, subst}
use Rattle.editor_ledger.specs.Books.{Book}
use Rattle.editor_plan.specs.Courses.{stage_of, IsDone}
use Rattle.editor_plan.proofs.Planning.{done_is}
use Rattle.editor_plan.proofs.course.advance.Goals as goal

pub returns-clause-done : goal.returns-clause-done
returns-clause-done c done =
    let next = c.in_ok-plan_next.ensures.ok in
    let wanted : List (List ℕ) = map (λ (t : Bor (List ℕ)). t.now) c.args.wanted.now in
    subst (λ (b : Book). IsDone wanted c.args.ledger.now b) (sym next) (done_is wanted c.args.ledger.now (ap stage_of (sym next) ∙ sym c.stage_of.ensures ∙ done))
