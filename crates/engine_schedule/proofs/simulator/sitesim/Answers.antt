use Rattle.std.proofs.Common.{subst}
use Rattle.http_read.specs.Bytes.{end_of}
use Rattle.engine_schedule.specs.Stepping.{HasBegun}
use Rattle.engine_schedule.proofs.simulator.sitesim.Goals as goal

pub returns-in-Ok : goal.returns-in-Ok
returns-in-Ok g c = c.run_lines-status.ensures _ _ (subst (λ held. HasBegun (end_of g.R.Read.remaining c.args.reader.now c.begin.new.reader) c.in-Ok.simulation held c.begin.new.feed) c.new-feed.ensures c.in-Ok.ensures)
