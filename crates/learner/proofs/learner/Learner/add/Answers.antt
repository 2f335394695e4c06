use Rattle.learner.proofs.Adding.{added, refused}
use Rattle.learner.proofs.learner.Learner.add.Goals as goal

pub returns-clause-added : goal.returns-clause-added
returns-clause-added c =
    added c.args.self.now (record c.args.self.now { tallies = c.add_at.new.tallies }) c.args.from c.number-at.result c.args.instance c.args.ballot c.args.value.now c.add_at.result c.number-at.ensures.is c.add_at.ensures.added
    c.add_at.ensures.others

pub returns-clause-refused : goal.returns-clause-refused
returns-clause-refused c = refused c.args.self.now (record c.args.self.now { tallies = c.add_at.new.tallies }) c.number-at.result c.add_at.result c.add_at.ensures.refused c.add_at.ensures.others
