use Rattle.std.proofs.Common.{List, ℕ, ap, ◌∙◌}
use Rattle.std.specs.List.{list_any}
use Rattle.std.proofs.Math.Dec.{eqb}
use Rattle.proposer.proofs.Answering.{contains_in}
use Rattle.proposer.proofs.open_attempt.OpenAttempt.has_promise_of.Goals as goal

pub returns : goal.returns
returns c =
    contains_in c.args.from c.args.self.now.promised.items c.contains.result (c.contains.ensures.value ∙ ap (λ (xs : List ℕ). list_any (λ y. eqb y c.args.from) xs) c.deref.ensures.value)
