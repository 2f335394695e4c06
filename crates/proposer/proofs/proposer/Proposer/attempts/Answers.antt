use Rattle.std.proofs.Common.{ap, arith}
use Rattle.proposer.proofs.CountingOpen.{open_keys, count_some, all_counted, all_distinct, all_found}
use Rattle.proposer.proofs.Taking.{both_there}
use Rattle.proposer.proofs.proposer.Proposer.attempts.Goals as goal

pub returns : goal.returns
returns c = λ attempts h.
    let entries = c.args.self.now.attempts.entries in
    let ordered = c.values-attempt-items.ensures.ordered in
    record {
      instances = open_keys entries;
      distinct = all_distinct entries ordered;
      open_there = λ i.
          let found = all_found entries ordered i in
          let there = both_there c.args.self.now.cluster _ (attempts i) (h i) in
          (λ k. there.0 (found.0 k), λ some. found.1 (there.1 some));
      counted = omega (arith, all_counted entries, c.loop-attempt.invariant.counted, ap count_some c.in-None.ensures.steps.0);
    }
