use Rattle.std.proofs.Common.{refl}
use Rattle.durable.specs.Items.{entries_of}
use Rattle.durable.proofs.Keeping.{never_refused}
use Rattle.durable.proofs.Refusals.{by_device_or_memory}
use Rattle.durable.proofs.record.Record.open.Goals as goal

pub returns-in-Ok-clause-opened : goal.returns-in-Ok-clause-opened
returns-in-Ok-clause-opened g c =
    let read = c.in-Ok.ensures.read in (
      entries_of read.0,
      record {
        history = read.1.log.history;
        kept = read.1.kept;
        running = refl;
        none_staged = c.new.ensures;
        ready = λ d stands.
            let found = read.2 d stands in
            record {
              stored = record {
                stands = found.0;
                settled = record { all_synced = refl; none_written = refl };
                reads = record { stands = record { items = read.0; laid = found.1; same = refl }; ends = read.1.gate };
                running = refl;
                none_staged = c.new.ensures;
              };
              kept = read.1.kept;
            };
      },
    )

pub returns-in-Err-clause-never : goal.returns-in-Err-clause-never
returns-in-Err-clause-never g c = λ d entries in_flight stands keeps.
    by_device_or_memory c.in-Err.fault c.args.node c.args.cluster d.seen (c.in-Err.ensures.refused d stands).1 (never_refused c.args.node c.args.cluster entries in_flight d keeps)
