use Rattle.world.proofs.Answering.{follows_itself, follows_on, answers_are_one}
use Rattle.world.proofs.laws.worlds_answer_as_one.Goals as goal

pub returns-clause-itself : goal.returns-clause-itself
returns-clause-itself c = follows_itself

pub returns-clause-on : goal.returns-clause-on
returns-clause-on c = follows_on

pub returns-clause-one : goal.returns-clause-one
returns-clause-one c = answers_are_one
