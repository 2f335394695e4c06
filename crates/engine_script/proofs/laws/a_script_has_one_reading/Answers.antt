use Rattle.engine_script.proofs.ScriptLemmas.{one_script_line}
use Rattle.engine_script.proofs.laws.a_script_has_one_reading.Goals as goal

pub returns : goal.returns
returns c = one_script_line
