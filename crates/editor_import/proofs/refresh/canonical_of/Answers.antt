use Rattle.std.proofs.Common.{ap, ◌∙◌, codes}
use Rattle.editor_import.specs.Refreshes.{address_behind, or_else}
use Rattle.editor_import.proofs.refresh.canonical_of.Goals as goal

pub returns-in-None : goal.returns-in-None
returns-in-None c =
    let short = address_behind (codes "<link rel=canonical href=") (codes ">") c.args.page.now in
    c.address_behind-in-None.ensures
    ∙ ap (λ found. or_else found short) c.in-None.ensures
