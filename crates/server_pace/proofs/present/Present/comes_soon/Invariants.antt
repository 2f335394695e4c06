use Rattle.std.proofs.Common.{◌≡◌, ◌-◌, ◌<◌}
use Rattle.server_pace.specs.Presence.{before}
use Rattle.server_pace.proofs.present.Present.comes_soon.Given as goal

-- so many of those so far come before this node
abbrev pub invariant-loop-number : goal.invariant-loop-number
invariant-loop-number l = (l.before ≡ before l.self.at l.times l.now l.to l.me (l.number - 1)) × (l.before < l.number)
