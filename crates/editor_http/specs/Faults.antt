-- How a fault of reading is reported for an answer.
use Rattle.engine_common.specs.declared.ends.InputFault.{InputFault}
use Rattle.engine_common.specs.declared.ends.InputFault.TheVariants as input
use Rattle.editor_http.specs.declared.fault.NodeAnswerFault.{NodeAnswerFault}
use Rattle.editor_http.specs.declared.fault.NodeAnswerFault.TheVariants.{Read, OutOfMemory}

abbrev pub fault_of : InputFault → NodeAnswerFault
fault_of input.Read = Read
fault_of input.OutOfMemory = OutOfMemory
