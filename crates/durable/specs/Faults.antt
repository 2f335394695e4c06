-- The number and name of a fault of a record.
use Rattle.std.specs.Prelude.{ℕ, List, codes}
use Rattle.durable.specs.declared.fault.RecordFault.{RecordFault}
use Rattle.durable.specs.declared.fault.RecordFault.TheVariants.{Device, OutOfMemory, NotARecord, WrongNode}
use Rattle.durable.specs.declared.fault.RecordFault.TheVariants.{Full, Damaged, Stopped}

abbrev pub label : RecordFault → List ℕ
label Device = codes "1 Device"
label OutOfMemory = codes "2 OutOfMemory"
label NotARecord = codes "3 NotARecord"
label WrongNode = codes "4 WrongNode"
label Full = codes "5 Full"
label Damaged = codes "6 Damaged"
label Stopped = codes "7 Stopped"
