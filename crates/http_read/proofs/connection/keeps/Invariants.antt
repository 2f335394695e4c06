use Rattle.std.proofs.Common.{◌≡◌, codes, drop}
use Rattle.std.specs.List.{list_any}
use Rattle.http_read.specs.Checks.{says_close, values_of}
use Rattle.http_read.specs.Spans.{covered}
use Rattle.http_read.proofs.connection.keeps.Given as goal

abbrev pub invariant-loop-i : goal.invariant-loop-i
invariant-loop-i l =
    list_any says_close (values_of (codes "connection") (covered l.bytes l.fields))
    ≡ list_any says_close (values_of (codes "connection") (covered l.bytes (drop l.i l.fields)))
