use Rattle.std.proofs.Common.{◌+◌, refl, sym, subst, arith}
use Rattle.durable.specs.Slots.{slot_at}
use Rattle.node.specs.Judgements.{IsJudgement}
use Rattle.node.proofs.Adding.{on_err}
use Rattle.node.proofs.Judging.{none_judged, judgement_more}
use Rattle.node.proofs.node.Node.judge_span.Goals as goal
use Rattle.node.proofs.node.Node.judge_span.Goals.{in-Some+in_ok-judge, in_default}

pub loop-past-init : goal.loop-past-init
loop-past-init g c = none_judged (slot_at c.args.self.now.store.recorded.slots) c.args.self.now.me c.args.first c.args.ballot _ refl c.new.ensures.items

-- each instance of a span is there
pub loop-past-preserved : goal.loop-past-preserved
loop-past-preserved g c =
    let l = c.loop-past in
    let slots = slot_at c.args.self.now.store.recorded.slots in
    elim c.match-plus.branch [
      | in-Some+in_ok-judge w ↦ subst (λ judgement. IsJudgement slots c.args.self.now.me c.args.first c.args.ballot (l.past + 1) judgement) (sym w.judgement-is)
          (judgement_more slots c.args.self.now.me c.args.first c.args.ballot l.past w.in-Some.at l.judgement _ l.invariant w.in-Some.ensures.0 w.in_ok-judge.ensures.ok)
      | in_default w ↦ absurd (w.in_default.ensures (omega (arith, c.requires.2), omega (arith, c.requires.3)))
    ]

pub returns-in_err-judge-clause-err : goal.returns-in_err-judge-clause-err
returns-in_err-judge-clause-err g c =
    let at = c.in-Some.ensures.0 in
    on_err c.from_residual.result (c.in-Some.at, (omega (arith, at), omega (arith, at)), c.in_err-judge.ensures.err)
