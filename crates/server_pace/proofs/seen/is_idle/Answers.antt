use Rattle.std.proofs.Common.{rules}
use Rattle.server_pace.proofs.OpenAttempts.{none_open, counted_none}
use Rattle.server_pace.proofs.seen.is_idle.Goals as goal

-- none is counted where none is open
pub returns : goal.returns
returns g c = λ s h.
    let are = c.attempts.ensures s h in (
      λ t. none_open s.attempts c.attempts.result are (search (rules, t)),
      λ idle. search (rules, counted_none s.attempts c.attempts.result are idle),
    )
