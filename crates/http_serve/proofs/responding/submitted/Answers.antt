use Rattle.std.proofs.Common.{◌∙◌, ap, codes, refl, Ok, Err}
use Rattle.std.proofs.lemmas.Result.{IfOk-weaker}
use Rattle.command.specs.Written.{line_of}
use Rattle.http_serve.specs.declared.submission.Submission.TheVariants.{Queued, Already}
use Rattle.http_serve.specs.declared.submission.SubmitFault.TheVariants.{Command, Busy, Stopped}
use Rattle.http_serve.specs.Shown.{write_as, whole}
use Rattle.http_serve.specs.Responses.{plain}
use Rattle.http_serve.proofs.responding.submitted.Goals as goal

pub returns-in-Ok-Queued-clause-answered : goal.returns-in-Ok-Queued-clause-answered
returns-in-Ok-Queued-clause-answered g c =
    let outcome = rw c.in-Ok-Queued.field-0-is at c.in-Ok-Queued.ensures.outcome in
    (Ok Queued, plain 202 (codes "queued"), record { taken = outcome; stayed = tt }, refl, c.hold.ensures)

pub returns-in-Ok-Already-clause-answered : goal.returns-in-Ok-Already-clause-answered
returns-in-Ok-Already-clause-answered g c =
    let outcome = rw c.in-Ok-Already.field-0-is at c.in-Ok-Already.ensures.outcome in
    (Ok Already, plain 200 (codes "already"), record { taken = outcome; stayed = tt }, refl, c.hold-in-Ok-Already.ensures)

pub returns-in-Err-Busy-clause-answered : goal.returns-in-Err-Busy-clause-answered
returns-in-Err-Busy-clause-answered g c =
    let outcome = rw c.in-Err-Busy.field-0-is at c.in-Err-Busy.ensures.outcome in
    (Err Busy, plain 503 (codes "busy"), record { taken = outcome; stayed = c.in-Err-Busy.ensures.refused }, refl, c.hold-in-Err-Busy.ensures)

pub returns-in-Err-Stopped-clause-answered : goal.returns-in-Err-Stopped-clause-answered
returns-in-Err-Stopped-clause-answered g c =
    let outcome = rw c.in-Err-Stopped.field-0-is at c.in-Err-Stopped.ensures.outcome in
    (Err Stopped, plain 503 (codes "stopped"), record { taken = outcome; stayed = c.in-Err-Stopped.ensures.refused }, refl, c.hold-in-Err-Stopped.ensures)

pub returns-in_ok-line-in-Err-Command-clause-answered : goal.returns-in_ok-line-in-Err-Command-clause-answered
returns-in_ok-line-in-Err-Command-clause-answered g c =
    let outcome = rw c.in-Err-Command.field-0-is at c.in-Err-Command.ensures.outcome in
    IfOk-weaker c.plain.result _ _
    (λ v same. (
      Err (Command c.in-Err-Command.fault),
      plain 422 (line_of c.in-Err-Command.fault),
      record { taken = outcome; stayed = c.in-Err-Command.ensures.refused },
      refl,
      same ∙ ap (λ t. write_as (whole c.args.keep) (plain 422 t)) (c.as_str.ensures.value ∙ c.in_ok-line-in-Err-Command.ensures),
    ))
    c.plain.ensures
