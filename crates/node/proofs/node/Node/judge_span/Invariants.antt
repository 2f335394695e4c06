use Rattle.durable.specs.Slots.{slot_at}
use Rattle.node.specs.Judgements.{IsJudgement}
use Rattle.node.proofs.node.Node.judge_span.Given as goal

-- this many of them are judged
abbrev pub invariant-loop-past : goal.invariant-loop-past
invariant-loop-past g l = IsJudgement (slot_at l.self.store.recorded.slots) l.self.me l.first l.ballot l.past l.judgement
