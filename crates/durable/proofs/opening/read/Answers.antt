use Rattle.std.proofs.Common.{◌≡◌, ◌⊎◌, inl, Result, Err, IfErr, ◌∙◌, ap, subst}
use Rattle.site_disk.specs.Model.{DiskState, after_sync}
use Rattle.durable.specs.Standing.{IsRefusal}
use Rattle.durable.specs.declared.fault.RecordFault.{RecordFault}
use Rattle.durable.specs.declared.fault.RecordFault.TheVariants.{Device}
use Rattle.durable.proofs.Logs.{log-none}
use Rattle.durable.proofs.Refusals.{refused_entries, items_refused, laid_whole}
use Rattle.durable.proofs.Results.{passes_on}
use Rattle.durable.proofs.opening.read.Goals as goal

pub read_items-requires-clause-fresh : goal.read_items-requires-clause-fresh
read_items-requires-clause-fresh g c = record { log = log-none c.args.cluster; gate = c.new-recorded.ensures.gate; kept = c.new-recorded.ensures.kept }

pub returns-in_err-read_items-clause-refused : goal.returns-in_err-read_items-clause-refused
returns-in_err-read_items-clause-refused g c =
    let P : RecordFault → Type 0 = λ fault. (d : DiskState) → g.D.Disk.stands_for c.args.disk.now d
    → (g.D.Disk.stands_for c.read_items.new.disk (after_sync d) ⊎ (g.D.Disk.stands_for c.read_items.new.disk d × (fault ≡ Device))) × IsRefusal fault c.args.node c.args.cluster d.seen in
    let refused : IfErr c.read_items.result P = refused_entries c.read_items.result P c.read_items.ensures.others (λ fault is why d stands.
    let found = c.in_ok-len.ensures.read d stands in (
      inl (c.read_items.ensures.state _ found.0),
      items_refused c.args.node c.args.cluster d.seen found.1 fault why (λ damaged. (_, c.read_items.ensures.damaged (is ∙ ap Err damaged) _ found.0 found.2)),
    )) in
    passes_on P c.from_residual-in_err-read_items.result c.in_err-read_items.field-0.0 c.from_residual-in_err-read_items.ensures.1 (subst (λ (r : Result _ RecordFault). IfErr r P) c.in_err-read_items.was refused)

pub returns-clause-read : goal.returns-clause-read
returns-clause-read g c =
    let read = c.in_ok-read_items.ensures.read in (
      read.0,
      read.1,
      λ d stands.
          let found = c.in_ok-len.ensures.read d stands in
          let here = c.in_ok-read_items.ensures.state _ found.0 in (
            c.in_ok-cut_short.ensures.state _ here,
            laid_whole c.args.node c.args.cluster d.seen found.1 read.0 read.1.log (read.2 _ found.0 found.2),
            c.in_ok-cut_short.ensures.told _ here found.2,
          ),
    )
