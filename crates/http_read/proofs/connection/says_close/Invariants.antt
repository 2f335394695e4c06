use Rattle.std.proofs.Common.{◌≡◌, length}
use Rattle.http_read.specs.Checks.{says_close}
use Rattle.http_read.proofs.connection.says_close.Given as goal

abbrev pub invariant-loop-part : goal.invariant-loop-part
invariant-loop-part l = says_close l.fn.value ≡ says_close l.rest

abbrev pub decreases-loop-part : goal.decreases-loop-part
decreases-loop-part l = length l.rest
