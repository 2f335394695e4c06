-- The number and name of a fault of data.
use Rattle.std.specs.Prelude.{ℕ, List, codes}
use Rattle.context.specs.declared.fault.DataFault.{DataFault}
use Rattle.context.specs.declared.fault.DataFault.TheVariants.{NotJson, NotWhole, OutOfMemory}

abbrev pub label : DataFault → List ℕ
label NotJson = codes "1 NotJson"
label NotWhole = codes "2 NotWhole"
label OutOfMemory = codes "OutOfMemory"
