use Rattle.std.proofs.Common.{rules, ◌∙◌, ◌⊎◌, ap, sym, subst, Err, List, ℕ}
use Rattle.std.specs.Io.KnownBytes.{IsAtEnd}
use Rattle.std.proofs.lemmas.Result.{err_from_is_err_and}
use Rattle.http_read.specs.Bytes.{end_of}
use Rattle.engine_common.specs.Feeds.{Grown}
use Rattle.engine_common.specs.Founds.{IsDecided}
use Rattle.engine_common.proofs.Fed.{used_front, some_held, none_held}
use Rattle.engine_common.proofs.Founds.{unfound}
use Rattle.engine_script.specs.Script.{spelled, Fits}
use Rattle.engine_script.specs.ScriptView.{line_view}
use Rattle.engine_script.proofs.ScriptRuns.{read_fault, line_fault, at_end, bad_line}
use Rattle.engine_script.proofs.cluster.next.Goals as goal

pub happen-requires : goal.happen-requires
happen-requires g c = c.in-Line.ensures.0

pub returns-in_err-fill : goal.returns-in_err-fill
returns-in_err-fill g c =
    let p = err_from_is_err_and c.from_residual.result c.from_residual.ensures.1 in
    read_fault (end_of g.R.Read.remaining c.args.reader.now c.fill.new.reader) c.args.feed.now c.fill.new.feed c.in_err-fill.field-0.0 c.from_residual.result (p.1 ∙ ap Err p.2) c.in_err-fill.ensures

pub returns-then-is_empty : goal.returns-then-is_empty
returns-then-is_empty g c =
    let f = c.in_ok-fill.ensures in
    let empty = none_held _ _ c.is_empty.result c.if-is_empty.true c.is_empty.ensures c.held-held.ensures in
    let decided : IsDecided Fits spelled c.fill.new.feed ⊎ IsAtEnd (end_of g.R.Read.remaining c.args.reader.now c.fill.new.reader).after = search rules in
    (subst (λ (xs : List ℕ). Grown (end_of g.R.Read.remaining c.args.reader.now c.fill.new.reader) c.args.feed.now xs) empty f.0, f.1, at_end (end_of g.R.Read.remaining c.args.reader.now c.fill.new.reader) c.fill.new.feed decided empty)

pub returns-in_default : goal.returns-in_default
returns-in_default g c =
    let f = c.in_ok-fill.ensures in
    let some = some_held _ _ c.is_empty.result c.if-is_empty.false c.is_empty.ensures c.held-held.ensures in
    let decided : IsDecided Fits spelled c.fill.new.feed ⊎ IsAtEnd (end_of g.R.Read.remaining c.args.reader.now c.fill.new.reader).after = search rules in
    (c.fill.new.feed, f.0, bad_line (end_of g.R.Read.remaining c.args.reader.now c.fill.new.reader) c.fill.new.feed (unfound Fits spelled c.fill.new.feed line_view c.line_in.result decided (rw c.held-held.ensures at c.line_in.ensures) c.in_default.not-Line) some)

pub returns-in_err-text : goal.returns-in_err-text
returns-in_err-text g c =
    let f = c.in_ok-fill.ensures in
    let p = err_from_is_err_and c.from_residual-in_err-text.result c.from_residual-in_err-text.ensures.1 in
    line_fault (end_of g.R.Read.remaining c.args.reader.now c.fill.new.reader) c.args.feed.now c.fill.new.feed c.fill.new.feed (line_view c.in-Line.line) c.in-Line.rest.now c.in_err-text.field-0.0 c.from_residual-in_err-text.result (p.1 ∙ ap Err p.2) f.0 c.in-Line.ensures.0 (sym c.held-held.ensures ∙ c.in-Line.ensures.1) c.in_err-text.ensures

pub returns : goal.returns
returns g c =
    let f = c.in_ok-fill.ensures in
    record {
      line = line_view c.in-Line.line;
      held = c.fill.new.feed;
      grown = f.0;
      sound = f.1;
      fits = c.in-Line.ensures.0;
      whole = used_front (spelled (line_view c.in-Line.line)) c.in-Line.rest.now c.fill.new.feed c.held-held.result.now c.pass.new.self (c.held-held.ensures ∙ (sym c.held-held.ensures ∙ c.in-Line.ensures.1)) c.held-held.ensures c.pass.ensures;
      prints = c.in_ok-text.ensures;
    }
