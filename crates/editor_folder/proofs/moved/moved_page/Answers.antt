use Rattle.std.proofs.Common.{◌≡◌, ◌++◌, ◌∙◌, ap, string_bytes}
use Rattle.render.specs.Printed.{escaped}
use Rattle.editor_folder.proofs.moved.moved_page.Goals as goal

pub returns : goal.returns
returns c =
    let text = escaped c.args.target.now in
    let name : string_bytes c.escape_into.new.out ≡ text = c.in_ok-escape_into.ensures.ok ∙ ap (λ before. before ++ text) c.new-name.ensures.bytes in
    rw (← c.utf8_percent_encode-url.ensures.text, ← name) c.format.ensures.ok
