use Rattle.std.proofs.Common.{rules, subst, IsTrue, ◌↔◌}
use Rattle.server_pace.specs.Pacing.{Ticks, Waits, Yields}
use Rattle.server_pace.proofs.pace.Pace.notice.Goals as goal

-- due is what the calls answered, of what was noted first
pub returns-clause-due : goal.returns-clause-due
returns-clause-due c = record {
  fresh = c.is_fresh-fresh.ensures;
  kept = search rules;
  told = search rules;
  question = search rules;
  tick = subst (λ t. IsTrue c.is_due-tick.result ↔ Ticks t c.args.now c.args.self.now.patience c.args.self.now.times c.args.seen.stake) c.noted-self.ensures c.is_due-tick.ensures;
  answered = search rules;
  goes_on = search rules;
  waits = subst (λ y. IsTrue c.waits-waits.result ↔ Waits y c.args.self.now.me) c.note.ensures c.waits-waits.ensures;
  yields = subst (λ y. IsTrue c.is_due-yields.result ↔ Yields y c.args.self.now.times c.args.now c.args.self.now.me) c.note.ensures c.is_due-yields.ensures.due;
}
