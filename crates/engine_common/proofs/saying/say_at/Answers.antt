use Rattle.std.proofs.Common.{◌∙◌, inl, inr, refl}
use Rattle.engine_common.proofs.saying.say_at.Goals as goal

pub returns-in-Ok-clause-said : goal.returns-in-Ok-clause-said
returns-in-Ok-clause-said g c = (c.as_str.result.now, inl (c.as_str.ensures.value ∙ c.in-Ok.ensures.ok), c.say.ensures.said)

pub returns-in-Err-clause-said : goal.returns-in-Err-clause-said
returns-in-Err-clause-said g c = (_, inr refl, c.say-in-Err.ensures.said)
