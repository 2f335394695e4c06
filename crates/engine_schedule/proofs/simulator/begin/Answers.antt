use Rattle.std.proofs.Common.{rules, ◌∙◌, ◌⊎◌, sym, ap, Err}
use Rattle.std.specs.Io.KnownBytes.{IsAtEnd}
use Rattle.std.proofs.lemmas.Result.{err_from_is_err_and}
use Rattle.http_read.specs.Bytes.{end_of}
use Rattle.site_ids.specs.Ids.{IsNode}
use Rattle.engine_common.specs.Founds.{IsDecided}
use Rattle.engine_common.proofs.Founds.{unfound}
use Rattle.engine_schedule.specs.Schedule.{spelled_nodes}
use Rattle.engine_schedule.proofs.Simulating.{begin_fault}
use Rattle.engine_common.proofs.Fed.{used_front}
use Rattle.engine_schedule.proofs.simulator.begin.Goals as goal

pub returns-in_err-fill : goal.returns-in_err-fill
returns-in_err-fill g c =
    let p = err_from_is_err_and c.from_residual.result c.from_residual.ensures.1 in
    begin_fault (end_of g.R.Read.remaining c.args.reader.now c.fill.new.reader) c.args.feed.now c.fill.new.feed c.in_err-fill.field-0.0 c.from_residual.result (p.1 ∙ ap Err p.2) c.in_err-fill.ensures

pub returns-in_default : goal.returns-in_default
returns-in_default g c =
    let f = c.in_ok-fill.ensures in
    let decided : IsDecided (IsNode 9) spelled_nodes c.fill.new.feed ⊎ IsAtEnd (end_of g.R.Read.remaining c.args.reader.now c.fill.new.reader).after = search rules in
    (c.fill.new.feed, f.0, unfound (IsNode 9) spelled_nodes c.fill.new.feed (λ n. n) c.nodes_in.result decided (rw c.held-held.ensures at c.nodes_in.ensures) c.in_default.not-Line)

pub returns : goal.returns
returns g c =
    let f = c.in_ok-fill.ensures in
    record {
      n = c.in-Line.cluster;
      held = c.fill.new.feed;
      grown = f.0;
      sound = f.1;
      node = c.in-Line.ensures.0;
      whole = used_front (spelled_nodes c.in-Line.cluster) c.in-Line.rest.now c.fill.new.feed c.held-held.result.now c.pass.new.self (c.held-held.ensures ∙ (sym c.held-held.ensures ∙ c.in-Line.ensures.1)) c.held-held.ensures c.pass.ensures;
      fresh = c.in_ok-new.ensures;
    }

pub returns-in_err-new : goal.returns-in_err-new
returns-in_err-new g c =
    let p = err_from_is_err_and c.from_residual-in_err-new.result c.from_residual-in_err-new.ensures.1 in
    rw (p.1 ∙ ap Err p.2) (c.in_ok-fill.ensures.0.more, c.in_ok-fill.ensures.0.taken)
