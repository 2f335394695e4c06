use Rattle.std.proofs.Common.{sym, subst}
use Rattle.std.specs.Prelude.{◌↔◌}
use Rattle.std.proofs.lemmas.Option.{get_or_from_slice_get}
use Rattle.learner.specs.declared.tally.Tally.{Tally}
use Rattle.learner.specs.Masks.{HasNode}
use Rattle.learner.specs.Tallies.{HasTold}
use Rattle.learner.proofs.TallyLemmas.{first_told, none_told}
use Rattle.learner.proofs.tally.nodes_of.Goals as goal

pub returns-in-Some : goal.returns-in-Some
returns-in-Some c p =
    let first = c.in-Some.ensures in
    let told = first_told c.args.tallies.now c.in-Some.at p c.args.ballot c.args.value.now first.0 first.1 first.2 first.3 in
    subst (λ (x : Tally). HasNode x.nodes p ↔ HasTold c.args.tallies.now p c.args.ballot c.args.value.now) (sym (get_or_from_slice_get c.args.tallies.now c.in-Some.at first.0 c.index-tallies-at.result first.1)) told

pub returns-in-None : goal.returns-in-None
returns-in-None c p = (λ h. absurd (c.none.ensures p h), λ h. absurd (none_told c.args.tallies.now p c.args.ballot c.args.value.now c.in-None.ensures h))
