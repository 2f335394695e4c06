use Rattle.std.proofs.Common.{◌≡◌, ◌+◌, ℕ, suc, ap, ◌∙◌, arith}
use Rattle.node.specs.Again.{with_latest}
use Rattle.node.proofs.SendingAgain.{sent_short, sent_all, sent_more, open_past}
use Rattle.node.proofs.node.Node.sent_again.Goals as goal

pub returns-in_default : goal.returns-in_default
returns-in_default g c s stands first =
    let l = c.loop-past in
    sent_short c.args.self.now.me s c.args.first l.past l.invariant.count l.again.items stands.tidy first l.invariant.counted c.in_default.ensures
    (l.invariant.sent s.attempts stands.parts.attempts)

pub returns : goal.returns
returns g c s stands first =
    let l = c.loop-past in
    sent_all c.args.self.now.me s c.args.first l.past l.invariant.count l.again.items stands.tidy first l.invariant.counted (omega arith) (l.invariant.sent s.attempts stands.parts.attempts)

pub loop-past-preserved : goal.loop-past-preserved
loop-past-preserved g c =
    let l = c.loop-past in
    let at : c.in-Some.instance ≡ c.args.first + suc l.invariant.count = c.in-Some.ensures.0 ∙ ap (λ (n : ℕ). c.args.first + n) l.invariant.counted in
    record {
      count = suc l.invariant.count;
      counted = omega (arith, l.invariant.counted);
      sent = λ attempts are.
          c.in_ok-push_latest.ensures attempts are
          ∙ ap (λ (n : ℕ). with_latest c.args.self.now.me l.again.items n (attempts n)) at
          ∙ sent_more c.args.self.now.me (c.args.first + suc l.invariant.count) (open_past attempts c.args.first l.invariant.count) l.again.items (attempts (c.args.first + suc l.invariant.count)) (l.invariant.sent attempts are);
    }
