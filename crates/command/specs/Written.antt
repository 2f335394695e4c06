-- The value of a ticket and a command text, and the line of a fault.
use Rattle.std.specs.Prelude.{ℕ, List, [], ◌++◌, codes, decimal, ◌≢◌, ⊤}
use Rattle.byteorder.specs.Endian.{big_bytes}
use Rattle.site_ids.specs.declared.Ticket.{Ticket}
use Rattle.context.specs.Faults.{label as data_label}
use Rattle.context.specs.declared.fault.DataFault.TheVariants as data_fault
use Rattle.mustache_scan.specs.Faults.{label as template_label}
use Rattle.mustache_scan.specs.declared.fault.FaultKind.TheVariants as kind
use Rattle.command.specs.declared.fault.CommandFault.{CommandFault}
use Rattle.command.specs.declared.fault.CommandFault.TheVariants.{TooLong, Form, Name, Path, Template, Data}
use Rattle.command.specs.declared.fault.CommandFault.TheVariants.{OutOfMemory}

-- the ticket's numbers, the highest byte first, and then the text
abbrev pub value_of : Ticket → List ℕ → List ℕ
value_of ticket text = big_bytes 4 ticket.editor ++ big_bytes 8 ticket.number ++ text

-- the line of a fault
abbrev pub line_of : CommandFault → List ℕ
line_of TooLong = codes "1 TooLong"
line_of Form = codes "2 Form"
line_of Name = codes "3 Name"
line_of Path = codes "4 Path"
line_of (Template fault) =
    codes "5 Template " ++ (template_label fault.kind ++ (codes " at " ++ decimal fault.place))
line_of (Data fault) = codes "6 Data " ++ data_label fault
line_of OutOfMemory = []

-- a fault that has a line: it is not a failed allocation
abbrev pub HasLine : CommandFault → Type 0
HasLine (Template fault) = fault.kind ≢ kind.OutOfMemory
HasLine (Data fault) = fault ≢ data_fault.OutOfMemory
HasLine OutOfMemory = ⊥
HasLine _ = ⊤
