use Rattle.std.proofs.Common.{◌≡◌}
use Rattle.editor_folder.specs.Places.{line_of, column_of}
use Rattle.editor_folder.proofs.tags.push_tags.Given as goal

-- the place is that of the byte
abbrev pub invariant-loop-call : goal.invariant-loop-call
invariant-loop-call l = (l.place.line ≡ line_of l.text l.at) × (l.place.column ≡ column_of l.text l.at)
