-- The set of votes that were reported to a learner.
use Rattle.std.specs.Prelude.{◌≡◌, ◌⊎◌, ℕ, List, [], Vec}
use Rattle.std.specs.BTreeMap.{BTreeMap, get}
use Rattle.std.specs.Option.{option_map_or}
use Rattle.std.specs.Ordering.{nat_cmp}
use Rattle.learner.specs.declared.tally.Tally.{Tally}
use Rattle.learner.specs.declared.learner.Learner.{Learner}
use Rattle.learner.specs.Tallies.{HasTold}
use Rattle.learner.specs.ToldVotes.{ToldVote}

-- the tallies at an instance
abbrev pub tallies_in : {A : Type 0} → BTreeMap ℕ (Vec Tally A) → ℕ → List Tally
tallies_in tallies i = option_map_or (λ here. here.items) (get nat_cmp tallies i) []

abbrev pub tallies_at : Learner → ℕ → List Tally
tallies_at learner i = tallies_in learner.tallies i

-- the vote is one of the set
abbrev pub IsTold : Learner → ToldVote → Type 0
IsTold learner t = HasTold (tallies_at learner t.instance) t.voter t.ballot t.value

-- the vote is one of the set, or it is this one
abbrev pub IsToldWith : Learner → ToldVote → ToldVote → Type 0
IsToldWith learner one t = IsTold learner t ⊎ (t ≡ one)
