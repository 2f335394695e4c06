use Rattle.std.proofs.Common.{sym, ◌∙◌, ap, Err}
use Rattle.command.specs.Reading.{value_reading}
use Rattle.command.specs.Written.{line_of}
use Rattle.editor_command.proofs.refusal.refused.Goals as goal

pub returns-in-Ok : goal.returns-in-Ok
returns-in-Ok c =
    let ok = c.in-Ok.ensures.ok in
    record { order = ok.0; reads = ap value_reading (sym (c.deref.ensures.value ∙ c.in_ok-value.ensures)) ∙ ok.1 }

pub returns : goal.returns
returns c =
    let told = c.in_ok-refusal_of-in-Err.ensures in
    record {
      reads = ap value_reading (sym (c.deref.ensures.value ∙ c.in_ok-value.ensures)) ∙ c.in-Err.ensures.err told.0 ∙ ap Err (sym told.1);
      told = told.2 ∙ ap line_of (sym told.1);
    }
