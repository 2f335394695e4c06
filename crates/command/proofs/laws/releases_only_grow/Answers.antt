use Rattle.command.proofs.ReleaseLemmas.{next_begins, release_stays, shortest_is}
use Rattle.command.proofs.EffectiveLemmas.{effective_grows}
use Rattle.command.proofs.laws.releases_only_grow.Goals as goal

pub returns-clause-begins : goal.returns-clause-begins
returns-clause-begins c = next_begins

pub returns-clause-stays : goal.returns-clause-stays
returns-clause-stays c = release_stays

pub returns-clause-grows : goal.returns-clause-grows
returns-clause-grows c = effective_grows

pub returns-clause-shortest : goal.returns-clause-shortest
returns-clause-shortest c = shortest_is
