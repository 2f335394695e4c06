use Rattle.std.proofs.Common.{◌∙◌, ap, sym, refl, length}
use Rattle.std.specs.Prelude.{◌==◌}
use Rattle.http_read.specs.Checks.{is_chunked}
use Rattle.http_read.proofs.Commas.{tells_more}
use Rattle.http_read.proofs.codings.with_part.Goals as goal

pub returns : goal.returns
returns c = λ seen told.
    tells_more c.args.codings _ seen c.args.part.now told
    (ap (λ t. length t == 0) (sym c.trimmed-coding.ensures) ∙ sym c.is_empty.ensures ∙ c.if-is_empty.false)
    refl refl (c.is_chunks.ensures ∙ ap is_chunked c.trimmed-coding.ensures)
