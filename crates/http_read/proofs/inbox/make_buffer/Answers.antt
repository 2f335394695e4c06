use Rattle.std.proofs.Common.{rules}
use Rattle.std.proofs.lemmas.List.{places}
use Rattle.http_read.proofs.Held.{filled_front}
use Rattle.http_read.proofs.inbox.make_buffer.Goals as goal

pub returns-in_ok-resize-clause-front : goal.returns-in_ok-resize-clause-front
returns-in_ok-resize-clause-front c =
    filled_front c.args.buffer.now.items _ _ 16384 _ c.in_ok-resize.ensures.items (search (rules, places)) (search (rules, places))
