use Rattle.std.proofs.Common.{ℕ, not, eqb, filter, ap, ◌∙◌, rules}
use Rattle.std.proofs.lemmas.Fn.{filter_same}
use Rattle.editor_plan.proofs.flight.Flight.leave.Goals as goal

pub returns : goal.returns
returns c =
    filter_same _ (λ (n : ℕ). not (eqb n c.args.number)) _ (λ x b f says. (search (rules, says), search (rules, says))) _ _ c.retain.ensures.filtered
    ∙ ap (filter (λ (n : ℕ). not (eqb n c.args.number))) c.self.view_is
