use Rattle.std.proofs.Common.{◌≡◌, ◌≤◌, length, take}
use Rattle.http_read.specs.Checks.{values_of}
use Rattle.http_read.specs.Spans.{covered}
use Rattle.http_read.proofs.fields.count_named.Given as goal

abbrev pub invariant-loop-i : goal.invariant-loop-i
invariant-loop-i l = (l.count ≤ l.i) × (l.count ≡ length (values_of l.name (covered l.bytes (take l.i l.fields))))
