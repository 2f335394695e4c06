use Rattle.release.proofs.Answering.{list_begins, answer_stays, releases_stay, answer_is_none}
use Rattle.release.proofs.laws.answers_stay.Goals as goal

pub returns-clause-begins : goal.returns-clause-begins
returns-clause-begins c = list_begins

pub returns-clause-stays : goal.returns-clause-stays
returns-clause-stays c = answer_stays

pub returns-clause-releases : goal.returns-clause-releases
returns-clause-releases c = releases_stay

pub returns-clause-none : goal.returns-clause-none
returns-clause-none c = answer_is_none
