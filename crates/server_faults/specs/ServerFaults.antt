-- Why a server ends before its laps are done, and the line that says so.
use Rattle.std.specs.Prelude.{ℕ, ◌≡◌, ◌⊎◌, List, ◌++◌, codes, Result, IsErrOf, ⊤}
use Rattle.durable.specs.Faults.{label}
use Rattle.durable.specs.declared.fault.RecordFault.{RecordFault}
use Rattle.durable.specs.declared.fault.RecordFault.TheVariants as record_fault
use Rattle.node.specs.declared.fault.NodeFault.{NodeFault}
use Rattle.node.specs.declared.fault.NodeFault.TheVariants as node_fault
use Rattle.server_floor.specs.declared.fault.FloorFault.{FloorFault}
use Rattle.server_floor.specs.declared.fault.FloorFault.TheVariants as floor_fault
use Rattle.server_faults.specs.declared.server_fault.ServerFault.{ServerFault}
use Rattle.server_faults.specs.declared.server_fault.ServerFault.TheVariants as server_fault

-- the one line of each fault
abbrev pub line_of : ServerFault → List ℕ
line_of server_fault.BadAddress = codes "bad address\n"
line_of (server_fault.BadFloor fault) = codes "bad floor\n"
line_of (server_fault.Record fault) = codes "record: " ++ (label fault ++ codes "\n")
line_of server_fault.Socket = codes "socket failed\n"
line_of server_fault.OutOfMemory = codes "out of memory\n"
line_of server_fault.Stopped = codes "stopped\n"
line_of server_fault.RoundsUsedUp = codes "node: 7 RoundsUsedUp\n"
line_of server_fault.Conflict = codes "node: 8 Conflict\n"
line_of server_fault.Write = codes "write failed\n"

-- the fault's line. The line of a record's fault has to be made: if an allocation fails, the line says that
abbrev pub IsSaid : ServerFault → List ℕ → Type 0
IsSaid (server_fault.Record fault) said = (said ≡ line_of (server_fault.Record fault))
    ⊎ (said ≡ line_of server_fault.OutOfMemory)
IsSaid why said = said ≡ line_of why

-- a fault of reaches, as a server's fault
abbrev pub of_floor : FloorFault → ServerFault
of_floor floor_fault.OutOfMemory = server_fault.OutOfMemory
of_floor fault = server_fault.BadFloor fault

-- a record's fault, as a server's fault
abbrev pub of_record : RecordFault → ServerFault
of_record record_fault.OutOfMemory = server_fault.OutOfMemory
of_record fault = server_fault.Record fault

-- a node's fault, as a server's fault. A drive ends by no other than these
abbrev pub of_node : NodeFault → ServerFault
of_node node_fault.Device = server_fault.Stopped
of_node node_fault.Stopped = server_fault.Stopped
of_node node_fault.RoundsUsedUp = server_fault.RoundsUsedUp
of_node node_fault.Conflict = server_fault.Conflict
of_node _ = server_fault.OutOfMemory

-- it ends a node's opening: a fault of the record other than a failed allocation, or a failed allocation
abbrev pub EndsOpening : ServerFault → Type 0
EndsOpening (server_fault.Record record_fault.OutOfMemory) = ⊥
EndsOpening (server_fault.Record _) = ⊤
EndsOpening server_fault.OutOfMemory = ⊤
EndsOpening _ = ⊥

-- it ends the opening of sockets
abbrev pub EndsBinding : ServerFault → Type 0
EndsBinding server_fault.Socket = ⊤
EndsBinding server_fault.OutOfMemory = ⊤
EndsBinding _ = ⊥

-- it ends laps
abbrev pub EndsLaps : ServerFault → Type 0
EndsLaps server_fault.OutOfMemory = ⊤
EndsLaps server_fault.Stopped = ⊤
EndsLaps server_fault.RoundsUsedUp = ⊤
EndsLaps server_fault.Conflict = ⊤
EndsLaps _ = ⊥

-- the device counted no failure, unless the server ends as stopped
abbrev pub CountsNone : {T : Type 0} → Result T ServerFault → ℕ → ℕ → Type 0
CountsNone result before now = ¬ IsErrOf result server_fault.Stopped → now ≡ before
