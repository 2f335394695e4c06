use Rattle.std.proofs.Common.{rules}
use Rattle.server_notes.proofs.silence.Silence.is_long.Goals as goal

pub returns-then-length-ge-LONG : goal.returns-then-length-ge-LONG
returns-then-length-ge-LONG c = search rules
