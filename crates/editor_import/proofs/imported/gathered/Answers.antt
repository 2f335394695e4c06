use Rattle.editor_import.proofs.SortLemmas.{nothing}
use Rattle.editor_import.proofs.imported.gathered.Goals as goal

pub loop-file-init : goal.loop-file-init
loop-file-init c = nothing c.new.result.items c.new-2.result.items c.new.ensures.items c.new-2.ensures.items
