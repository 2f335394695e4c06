use Rattle.engine_script.proofs.ScriptLemmas.{no_line_yet, bad_head}
use Rattle.engine_script.proofs.script.line_in.Goals as goal

pub returns-in_default : goal.returns-in_default
returns-in_default c = no_line_yet c.args.bytes.now c.in_default.ensures

pub returns-in-None : goal.returns-in-None
returns-in-None c = bad_head c.args.bytes.now _ _ c.in-Some.ensures c.in-None.ensures c.in_default-post_in.ensures
