use Rattle.std.proofs.Common.{◌≡◌, ◌++◌, drop}
use Rattle.durable.specs.Spelling.{head, blocks}
use Rattle.test_record.specs.Meaning.{meanings}
use Rattle.test_record.proofs.spelling.spelled.Given as goal

-- what is spelled so far, and the entries that are left
abbrev pub invariant-loop-entry : goal.invariant-loop-entry
invariant-loop-entry l = l.bytes.items ++ blocks (meanings (drop l.entry-index l.entries)) ≡ head l.fn.node l.fn.cluster ++ blocks (meanings l.entries)
