-- How a fault of reading is reported.
use Rattle.http_read.specs.declared.fault.ReadFault.{ReadFault}
use Rattle.http_read.specs.declared.fault.ReadFault.TheVariants as reading
use Rattle.http_serve.specs.declared.fault.ServeFault.{ServeFault}
use Rattle.http_serve.specs.declared.fault.ServeFault.TheVariants.{Read, OutOfMemory, EndedEarly}

-- by the same name
abbrev pub of_reading : ReadFault → ServeFault
of_reading reading.Read = Read
of_reading reading.OutOfMemory = OutOfMemory
of_reading reading.EndedEarly = EndedEarly
