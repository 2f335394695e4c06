use Rattle.std.proofs.Common.{◌≡◌, drop}
use Rattle.std.specs.Prelude.{option_copied}
use Rattle.durable.specs.Entries.{vote_after, last_vote}
use Rattle.test_record.specs.Meaning.{meanings}
use Rattle.test_record.proofs.recorded.last_vote.Given as goal

-- the last vote so far, and the entries that are left
abbrev pub invariant-loop-entry : goal.invariant-loop-entry
invariant-loop-entry l = vote_after l.instance (option_copied l.last) (meanings (drop l.entry-index l.entries)) ≡ last_vote l.instance (meanings l.entries)
