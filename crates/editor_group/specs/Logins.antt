-- Why no logins are read.
use Rattle.std.specs.Prelude.{◌≡◌, ℕ, List, Option, Some, None}
use Rattle.std.specs.Borrow.{Bor}
use Rattle.editor_common.specs.Faults.{IsInFile}
use Rattle.editor_common.specs.declared.editor_fault.EditorFault.{EditorFault}
use Rattle.editor_common.specs.declared.editor_fault.EditorFault.TheVariants.{OutOfMemory}

-- without a file only an allocation can fail; else the fault is the file's
abbrev pub EndsReading : Option (Bor (List ℕ)) → EditorFault → Type 0
EndsReading None why = why ≡ OutOfMemory
EndsReading (Some file) why = IsInFile file.now why
