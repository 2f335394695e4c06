use Rattle.http_read.proofs.FoundHeads.{found_head, found_full}
use Rattle.http_read.proofs.heads.find_head.Goals as goal

pub returns-in-Head : goal.returns-in-Head
returns-in-Head c =
    found_head c.args.held.now _ _ c.in-Head.found c.first_bytes-bytes.ensures.window (rw c.in-Head.is at c.in_ok-found.ensures)

pub returns-then-held-gt-HEAD_LIMIT : goal.returns-then-held-gt-HEAD_LIMIT
returns-then-held-gt-HEAD_LIMIT c =
    found_full c.args.held.now _ c.look_within.new.spans.items c.look_within.new.spans.items _ c.first_bytes-bytes.ensures.window (rw c.in-Open.is at c.in_ok-found.ensures)
    c.if-held-gt-HEAD_LIMIT.true c.overlong.ensures
