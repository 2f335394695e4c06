use Rattle.std.proofs.Common.{inl, refl}
use Rattle.server.proofs.Ending.{has_halted}
use Rattle.server.proofs.engine.sited.Goals as goal

pub returns-in-Ok-clause-said : goal.returns-in-Ok-clause-said
returns-in-Ok-clause-said g c = inl (record { placed = c.in-Ok.ensures.said.0; written = c.in-Ok.ensures.said.1; noted = c.in-Ok.ensures.said.2; status_is = refl })

pub returns-in-Err-clause-said : goal.returns-in-Err-clause-said
returns-in-Err-clause-said g c = has_halted _ _ _ _ _ _ _ _ _ _ _ _ _ c.in-Err.ensures.said c.say-status.ensures.said.1 c.say-status.ensures.said.2 c.say_why.ensures c.say-status.ensures.status
