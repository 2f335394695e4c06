use Rattle.std.proofs.Common.{sym, rules}
use Rattle.durable.proofs.Push.{history-none}
use Rattle.test_record.proofs.Histories.{may_follow, one_more}
use Rattle.test_record.proofs.history.is_history.Goals as goal

pub loop-at-init : goal.loop-at-init
loop-at-init c = history-none c.args.cluster

pub returns-then-not-may_follow : goal.returns-then-not-may_follow
returns-then-not-may_follow c = (
  λ e. absurd (search rules),
  λ history. search (rules, c.may_follow.ensures.1 (may_follow c.args.cluster c.args.entries.now c.loop-at.at c.index-entries-at.result c.loop-at-test.true (sym c.index-entries-at.is) history)),
)

pub loop-at-preserved : goal.loop-at-preserved
loop-at-preserved c =
    one_more c.args.cluster c.args.entries.now c.loop-at.at c.index-entries-at.result c.loop-at-test.true (sym c.index-entries-at.is) (c.may_follow.ensures.0 (search rules)) c.loop-at.invariant
