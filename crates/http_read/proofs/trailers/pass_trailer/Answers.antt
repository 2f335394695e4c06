use Rattle.std.proofs.Common.{◌∙◌, ap, arith, length}
use Rattle.http_read.specs.Heads.{window}
use Rattle.http_read.proofs.FoundSections.{trailer_whole, trailer_many, trailer_long, section_fits_held}
use Rattle.http_read.proofs.trailers.pass_trailer.Goals as goal

pub pass-requires : goal.pass-requires
pass-requires c =
    section_fits_held c.args.inbox.now _ c.in-Whole.field-0 c.in-Whole.count
    (c.first_bytes.ensures.window ∙ ap window c.held-held.ensures) (rw c.in-Whole.is at c.in_ok-count.ensures)

pub returns-in-Whole-clause-shows : goal.returns-in-Whole-clause-shows
returns-in-Whole-clause-shows c =
    trailer_many c.args.inbox.now _ c.args.inbox.now c.in-Whole.field-0 c.in-Whole.count
    (c.first_bytes.ensures.window ∙ ap window c.held-held.ensures) (rw c.in-Whole.is at c.in_ok-count.ensures) c.if-count-gt-FIELD_LIMIT.true

pub returns-in-Whole-2-clause-shows : goal.returns-in-Whole-2-clause-shows
returns-in-Whole-2-clause-shows c =
    trailer_whole c.args.inbox.now _ _ c.in-Whole.field-0 c.in-Whole.count
    (c.first_bytes.ensures.window ∙ ap window c.held-held.ensures) (rw c.in-Whole.is at c.in_ok-count.ensures)
    c.if-count-gt-FIELD_LIMIT.false c.pass.ensures

pub returns-in-Open-clause-shows : goal.returns-in-Open-clause-shows
returns-in-Open-clause-shows c =
    trailer_long c.args.inbox.now _ c.args.inbox.now
    (c.first_bytes.ensures.window ∙ ap window c.held-held.ensures) (rw c.in-Open.is at c.in_ok-count.ensures)
    (omega (arith, c.if-held-gt-HEAD_LIMIT.true, ap length c.held-held.ensures))
