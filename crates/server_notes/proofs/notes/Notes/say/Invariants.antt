use Rattle.std.proofs.Common.{◌≡◌, ℕ, ◌<◌, None}
use Rattle.server_notes.specs.Due.{may_say}
use Rattle.server_notes.proofs.notes.Notes.say.Given as goal

-- none so far
abbrev pub invariant-loop-kind : goal.invariant-loop-kind
invariant-loop-kind l = ((k : ℕ) → k < l.kind → may_say l.fn.self.said l.now l.due k ≡ None) × (l.self ≡ l.fn.self)
