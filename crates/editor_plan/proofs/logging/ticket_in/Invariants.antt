use Rattle.std.proofs.Common.{◌≡◌, None, drop}
use Rattle.editor_plan.specs.Unlogged.{ticket_in}
use Rattle.editor_plan.proofs.logging.ticket_in.Given as goal

-- what is left gives what all gives
abbrev pub invariant-loop-released : goal.invariant-loop-released
invariant-loop-released l = ticket_in l.release l.last l.left (drop l.released-index l.log) l.found ≡ ticket_in l.release l.last l.last l.log None
