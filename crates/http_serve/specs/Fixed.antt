-- The answer to a submission, except for a fault's line.
use Rattle.std.specs.Prelude.{codes}
use Rattle.http_serve.specs.declared.fixed.FixedReply.{FixedReply}
use Rattle.http_serve.specs.declared.fixed.FixedReply.TheVariants.{Queued, Already, Busy, Stopped}
use Rattle.http_serve.specs.Replies.{Reply}
use Rattle.http_serve.specs.Responses.{plain}

abbrev pub fixed_reply : FixedReply → Reply
fixed_reply Queued = plain 202 (codes "queued")
fixed_reply Already = plain 200 (codes "already")
fixed_reply Busy = plain 503 (codes "busy")
fixed_reply Stopped = plain 503 (codes "stopped")
