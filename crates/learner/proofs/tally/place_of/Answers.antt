use Rattle.std.proofs.Common.{◌∙◌, ap, sym, subst, Some, rules}
use Rattle.std.specs.Prelude.{List}
use Rattle.std.proofs.lemmas.List.{take_all}
use Rattle.std.proofs.lemmas.Option.{slice_get-get_or}
use Rattle.learner.specs.declared.tally.Tally.{Tally}
use Rattle.learner.specs.Tallies.{HasNoneOf}
use Rattle.learner.proofs.TallyLemmas.{none_yet}
use Rattle.learner.proofs.tally.place_of.Goals as goal

pub returns-then-is_of : goal.returns-then-is_of
returns-then-is_of c =
    let x = c.index-tallies-at.result in
    (x, slice_get-get_or c.args.tallies.now c.loop-at.at x c.loop-at-test.true ∙ ap Some (sym c.index-tallies-at.is), c.is_of.ensures.0 (search rules), c.loop-at.invariant)

pub loop-at-preserved : goal.loop-at-preserved
loop-at-preserved c =
    none_yet c.args.tallies.now c.loop-at.at c.index-tallies-at.result c.args.ballot c.args.value.now c.loop-at-test.true c.index-tallies-at.is (λ e. search (rules, c.is_of.ensures.1 e)) c.loop-at.invariant

pub returns : goal.returns
returns c = subst (λ (xs : List Tally). HasNoneOf xs c.args.ballot c.args.value.now) (take_all c.loop-at.at c.args.tallies.now c.loop-at-test.false) c.loop-at.invariant
