use Rattle.std.proofs.Common.{◌≡◌, ◌∙◌, ap, string_bytes}
use Rattle.percent_encoding.specs.Iter.{encoded_text}
use Rattle.percent_encoding.specs.Percent.{percent_encode}
use Rattle.http_read.specs.declared.escaping.TheConstants.{ESCAPED}
use Rattle.http_serve.proofs.replies.own_line.Goals as goal

pub returns-in-Location : goal.returns-in-Location
returns-in-Location c =
    let escaped : encoded_text c.utf8_percent_encode-path.result ≡ percent_encode ESCAPED (string_bytes c.in-Location.path) =
    c.utf8_percent_encode-path.ensures.text ∙ ap (percent_encode ESCAPED) c.as_str.ensures.value in
    rw (c.in-Location.is, ← escaped) c.format.ensures.ok

pub returns-in-Allow : goal.returns-in-Allow
returns-in-Allow c = rw c.in-Allow.is c.format-in-Allow.ensures.ok
