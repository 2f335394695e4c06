-- How a node reports the faults of the layers below it; a fault's number and name.
use Rattle.std.specs.Prelude.{◌≡◌, ℕ, List, Err, codes, ⊤}
use Rattle.durable.specs.declared.fault.RecordFault.{RecordFault}
use Rattle.durable.specs.declared.fault.RecordFault.TheVariants as stored
use Rattle.command.specs.declared.fault.CommandFault.{CommandFault}
use Rattle.command.specs.declared.fault.CommandFault.TheVariants as command
use Rattle.command.specs.Reading.{value_reading, TakesMemory}
use Rattle.command.specs.Written.{HasLine}
use Rattle.node.specs.declared.fault.NodeFault.{NodeFault}
use Rattle.node.specs.declared.fault.NodeFault.TheVariants.{OutOfMemory, Device, Stopped, QueueFull}
use Rattle.node.specs.declared.fault.NodeFault.TheVariants.{NotACommand, InstancesUsedUp, RoundsUsedUp}
use Rattle.node.specs.declared.fault.NodeFault.TheVariants.{Conflict}
use Rattle.node.specs.Nodes.{Value}

-- a full record is reported as out of memory
abbrev pub of_record : RecordFault → NodeFault
of_record stored.Device = Device
of_record stored.Stopped = Stopped
of_record _ = OutOfMemory

-- bytes that are not a command are reported as that, and a failed allocation as out of memory
abbrev pub of_command : CommandFault → NodeFault
of_command command.OutOfMemory = OutOfMemory
of_command command.TooLong = NotACommand command.TooLong
of_command command.Form = NotACommand command.Form
of_command command.Name = NotACommand command.Name
of_command command.Path = NotACommand command.Path
of_command (command.Template why) = NotACommand (command.Template why)
of_command (command.Data why) = NotACommand (command.Data why)

-- why a submitted value was not read
abbrev pub IsUnread : Value → NodeFault → Type 0
IsUnread v (NotACommand why) = (value_reading v ≡ Err why) × HasLine why
IsUnread v OutOfMemory = TakesMemory v
IsUnread v _ = ⊥

-- the number and name of a fault, as programs print them
abbrev pub label : NodeFault → List ℕ
label OutOfMemory = codes "1 OutOfMemory"
label Device = codes "2 Device"
label Stopped = codes "3 Stopped"
label QueueFull = codes "4 QueueFull"
label (NotACommand _) = codes "5 NotACommand"
label InstancesUsedUp = codes "6 InstancesUsedUp"
label RoundsUsedUp = codes "7 RoundsUsedUp"
label Conflict = codes "8 Conflict"

-- why a submission is refused. There is no other cause, and the fault of a command is not a failed allocation
abbrev pub IsSubmitCause : NodeFault → Type 0
IsSubmitCause (NotACommand why) = HasLine why
IsSubmitCause Stopped = ⊤
IsSubmitCause QueueFull = ⊤
IsSubmitCause OutOfMemory = ⊤
IsSubmitCause _ = ⊥
