use Rattle.std.proofs.lemmas.Result.{IfOk-weaker}
use Rattle.engine_page.proofs.input.fault_at.Goals as goal

-- what was told is the line of the fault that the value reads as
pub returns : goal.returns
returns c = IfOk-weaker c.fault_input.result _ _ (λ line told. (c.in-Err.fault, c.in-Err.ensures.err told.0, told.1)) c.fault_input.ensures
