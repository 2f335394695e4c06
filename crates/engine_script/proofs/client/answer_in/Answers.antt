use Rattle.std.proofs.Common.{[], append-nil}
use Rattle.engine_script.proofs.client.answer_in.Goals as goal

pub returns-in-Err : goal.returns-in-Err
returns-in-Err c head rest is = c.in-Err.ensures.no_room [] head rest (rw append-nil is)
