use Rattle.std.proofs.Common.{◌≡◌, ℕ, suc, Option, map}
use Rattle.proposer.specs.Attempts.{Attempt}
use Rattle.proposer.specs.Standing.{Attempting}
use Rattle.node.specs.Calls.{resent}
use Rattle.node.proofs.SendingAgain.{open_past}
use Rattle.node.proofs.node.Node.sent_again.Given as goal

-- this many instances after the first were looked at
abbrev pub invariant-loop-past : goal.invariant-loop-past
invariant-loop-past g l = record {
  count : ℕ;
  counted : l.past ≡ suc count;
  sent : (attempts : ℕ → Option Attempt) → Attempting l.self.proposer attempts → l.again.items ≡ map (resent l.self.me) (open_past attempts l.first count);
}
