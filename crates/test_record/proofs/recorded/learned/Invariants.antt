use Rattle.std.proofs.Common.{◌≡◌, drop}
use Rattle.durable.specs.Entries.{learned_at}
use Rattle.test_record.specs.Meaning.{meanings}
use Rattle.test_record.proofs.recorded.learned.Given as goal

-- nothing so far, so it is learned among the entries that are left
abbrev pub invariant-loop-entry : goal.invariant-loop-entry
invariant-loop-entry l = learned_at l.instance (meanings (drop l.entry-index l.entries)) ≡ learned_at l.instance (meanings l.entries)
