use Rattle.std.proofs.Common.{take}
use Rattle.editor_import.specs.Imports.{Sorts}
use Rattle.editor_import.proofs.imported.gathered.Given as goal

-- those so far
abbrev pub invariant-loop-file : goal.invariant-loop-file
invariant-loop-file l = Sorts (take l.file-index l.files) l.gathering.candidates.items l.gathering.left_out.items
