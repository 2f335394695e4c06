use Rattle.std.proofs.Common.{Bor, List, ℕ, ap, ◌∙◌, length, inl}
use Rattle.serde_json.specs.View.{view}
use Rattle.editor_common.specs.Outcomes.{kept}
use Rattle.editor_group.proofs.Naming.{as_many, passes_on}
use Rattle.editor_group.proofs.Telling.{ends_status}
use Rattle.editor_group.specs.Statuses.{EndsTelling}
use Rattle.editor_group.proofs.status.tell_status.Goals as goal

pub returns-clause-is : goal.returns-clause-is
returns-clause-is g c =
    ends_status (length c.args.urls.now) c.args.published.release c.range_of-range.result.last
    c.in_ok-well.well c.in_ok-shown.shown c.status_of.result (view c.from.result)
    (kept c.tell_all.new.outcome) (kept c.tell_commands.new.outcome) (kept c.put.new.self) _
    (c.deref-2.ensures.len ∙ c.in_ok-reports.ensures.is ∙ ap length c.nodes.ensures ∙ as_many _ _ _ c.in_ok-group.ensures.named)
    c.in_ok-well.ensures.is c.in_ok-tell_commands.ensures.is c.in_ok-shown.ensures.is
    c.shows_of-shows.result c.in_ok-put.ensures.ok c.from.ensures c.shows_of-shows.ensures c.status_of.ensures

pub returns-in_err-group-clause-faults : goal.returns-in_err-group-clause-faults
returns-in_err-group-clause-faults g c =
    let why = c.in_err-group.field-0.0 in
    passes_on (EndsTelling (λ (url : Bor (List ℕ)). url.now) c.args.urls.now) c.from_residual.result why c.from_residual.ensures.1 (inl c.in_err-group.ensures.refused)
