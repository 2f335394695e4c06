use Rattle.std.proofs.Common.{rules}
use Rattle.test_record.specs.Meaning.{meaning}
use Rattle.test_record.proofs.Promises.{unraised, raised_higher, raised_lower}
use Rattle.test_record.proofs.recorded.promise_with.Goals as goal

pub returns-in_default : goal.returns-in_default
returns-in_default c = λ earlier is. unraised earlier (meaning c.args.entry.now) c.args.instance c.args.promised c.in_default.ensures is

pub returns-then-is_free_at : goal.returns-then-is_free_at
returns-then-is_free_at c = λ earlier is.
    raised_higher earlier (meaning c.args.entry.now) c.args.instance c.in-Some.ballot c.args.promised c.in-Some.ensures (c.is_free_at.ensures.0 (search rules)) is

pub returns-else-is_free_at : goal.returns-else-is_free_at
returns-else-is_free_at c = λ earlier is.
    raised_lower earlier (meaning c.args.entry.now) c.args.instance c.in-Some.ballot c.args.promised c.in-Some.ensures (λ free. search (rules, c.is_free_at.ensures.1 free)) is
