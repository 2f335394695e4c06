use Rattle.std.proofs.Common.{subst}
use Rattle.std.specs.Prelude.{List}
use Rattle.learner.specs.declared.tally.Tally.{Tally}
use Rattle.learner.specs.Tallies.{HasNoneOf}
use Rattle.learner.proofs.TallyLemmas.{first_marked, told_pushed}
use Rattle.learner.proofs.tally.add_to.Goals as goal

pub returns-in-Some-clause-added : goal.returns-in-Some-clause-added
returns-in-Some-clause-added c =
    first_marked c.args.tallies.now.items c.deref.result.now c.in-Some.at c.index_mut-tally.result.now c.with-tally.result c.args.from c.args.ballot c.args.value.now c.deref.ensures.value c.in-Some.ensures c.index_mut-tally.ensures.value
    c.with-tally.ensures

pub returns-in_ok-push-in-None-clause-added : goal.returns-in_ok-push-in-None-clause-added
returns-in_ok-push-in-None-clause-added c =
    let none = subst (λ (xs : List Tally). HasNoneOf xs c.args.ballot c.args.value.now) c.deref.ensures.value c.in-None.ensures in
    let one = c.in_ok-started-in-None.ensures in
    rw c.in_ok-push-in-None.ensures.items (told_pushed c.args.tallies.now.items c.in_ok-started-in-None.field-0 c.args.from c.args.ballot c.args.value.now none one.0 one.1)
