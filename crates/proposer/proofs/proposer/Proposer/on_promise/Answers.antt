use Rattle.std.proofs.Common.{rules, arith, subst, Option, Ok, Some, List, ℕ}
use Rattle.std.proofs.lemmas.Grind.{common_steps}
use Rattle.proposer.specs.Best.{vote_told}
use Rattle.proposer.specs.Standing.{Answered}
use Rattle.proposer.proofs.Taking.{none_taken, waiting_taken, proposal_taken}
use Rattle.proposer.proofs.proposer.Proposer.on_promise.Goals as goal

pub returns-in_default-clause-step : goal.returns-in_default-clause-step
returns-in_default-clause-step c attempts h =
    none_taken c.args.self.now.cluster c.args.self.now.attempts c.get_mut.follows.lender-at-none attempts c.args.from c.args.instance c.args.ballot (vote_told c.args.prior)
    (search rules) (λ j. grind (arith, common_steps)) h

pub returns-in_default-place-clause-step : goal.returns-in_default-place-clause-step
returns-in_default-place-clause-step c attempts h =
    none_taken c.args.self.now.cluster c.args.self.now.attempts (c.get_mut.follows.lender c.in-Some.place.now) attempts c.args.from c.args.instance c.args.ballot (vote_told c.args.prior)
    (search rules) (λ j. grind (arith, common_steps)) h

pub returns-in-Some-2-clause-step : goal.returns-in-Some-2-clause-step
returns-in-Some-2-clause-step c attempts h = (
  λ _. c.args.instance,
  λ _. c.args.ballot,
  proposal_taken c.args.self.now.cluster c.args.self.now.attempts (c.get_mut.follows.lender (Some c.on_promise.new.self)) attempts c.args.from c.args.instance c.args.ballot (vote_told c.args.prior) c.in-Some-2.value c.in-Some-place.attempt c.on_promise.new.self
      (search rules) (λ a s. subst (λ (o : Option (List ℕ)). Answered c.args.self.now.cluster a c.args.from c.args.ballot (vote_told c.args.prior) (Ok o) c.on_promise.new.self) c.in-Some-2.is (c.in_ok-value.ensures a s)) (grind (arith, common_steps)) (λ j apart. grind (arith, common_steps)) h,
)

pub returns-in-None-clause-step : goal.returns-in-None-clause-step
returns-in-None-clause-step c attempts h =
    waiting_taken c.args.self.now.cluster c.args.self.now.attempts (c.get_mut.follows.lender (Some c.on_promise.new.self)) attempts c.args.from c.args.instance c.args.ballot (vote_told c.args.prior) c.in-Some-place.attempt c.on_promise.new.self
    (search rules) (λ a s. subst (λ (o : Option (List ℕ)). Answered c.args.self.now.cluster a c.args.from c.args.ballot (vote_told c.args.prior) (Ok o) c.on_promise.new.self) c.in-None.is (c.in_ok-value.ensures a s)) (grind (arith, common_steps)) (λ j apart. grind (arith, common_steps)) h
