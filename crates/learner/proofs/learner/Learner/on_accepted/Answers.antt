use Rattle.std.proofs.Common.{rules}
use Rattle.learner.specs.ToldVotes.{told_vote}
use Rattle.learner.specs.Votes.{IsTold, IsToldWith}
use Rattle.learner.proofs.Counting.{same_majority}
use Rattle.learner.proofs.learner.Learner.on_accepted.Goals as goal
use Rattle.learner.proofs.learner.Learner.on_accepted.Goals.{then-completes+in_ok-try_clone, else-completes}

pub returns-clause-chosen : goal.returns-clause-chosen
returns-clause-chosen c =
    let IsOld = IsToldWith c.args.self.now (told_vote c.args.from c.args.instance c.args.ballot c.args.value.now) in
    let into = same_majority c.args.self.now.cluster IsOld (IsTold c.add.new.self) c.args.instance c.args.ballot c.args.value.now (λ t. (c.in_ok-add.ensures.added t).1) in
    let back = same_majority c.args.self.now.cluster (IsTold c.add.new.self) IsOld c.args.instance c.args.ballot c.args.value.now (λ t. (c.in_ok-add.ensures.added t).0) in
    elim c.if-completes.branch [
      | then-completes+in_ok-try_clone w ↦ rw w.chosen-is (w.in_ok-try_clone.ensures, into (w.if-completes.ensures.0 (search rules)))
      | else-completes w ↦ rw w.chosen-is (λ m. search (rules, w.if-completes.ensures.1 (back m)))
    ]
