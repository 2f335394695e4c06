use Rattle.std.proofs.Common.{◌≡◌}
use Rattle.editor_folder.specs.Places.{line_of, column_of}
use Rattle.editor_folder.proofs.tags.doubled_keys.Given as goal

-- the place is that of the byte
abbrev pub invariant-loop-key : goal.invariant-loop-key
invariant-loop-key l = (l.place.line ≡ line_of l.text l.at) × (l.place.column ≡ column_of l.text l.at)
