-- What the entries of the code mean.
use Rattle.std.specs.Prelude.{List, map}
use Rattle.durable.specs.Entries.{Entry, Round, Promised, PromisedSpan, Voted, Learned, Floor}
use Rattle.test_record.specs.declared.entry.Entry.{Entry as Value}
use Rattle.test_record.specs.declared.entry.Entry.TheVariants as values

abbrev pub meaning : Value → Entry
meaning (values.Round r) = Round r
meaning (values.Promised i b) = Promised i b
meaning (values.PromisedSpan i k b) = PromisedSpan i k b
meaning (values.Voted i vote) = Voted i vote.ballot vote.value
meaning (values.Learned i value) = Learned i value
meaning (values.Floor floor) = Floor floor

abbrev pub meanings : List Value → List Entry
meanings entries = map meaning entries
