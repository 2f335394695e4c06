-- The name of each fault, as fault lines print it, and that of a failed allocation.
use Rattle.std.specs.Prelude.{ℕ, List, codes}
use Rattle.mustache_scan.specs.declared.fault.FaultKind.{FaultKind}
use Rattle.mustache_scan.specs.declared.fault.TemplateFault.{TemplateFault}
use Rattle.mustache_scan.specs.declared.fault.FaultKind.TheVariants.{UnclosedTag, EmptyName, BadName}
use Rattle.mustache_scan.specs.declared.fault.FaultKind.TheVariants.{BadDelimiters, NoSection, WrongEnd}
use Rattle.mustache_scan.specs.declared.fault.FaultKind.TheVariants.{UnclosedSection, TooDeep, OutOfMemory}

-- a fault's number and name. A failed allocation has no number
abbrev pub label : FaultKind → List ℕ
label UnclosedTag = codes "1 UnclosedTag"
label EmptyName = codes "2 EmptyName"
label BadName = codes "3 BadName"
label BadDelimiters = codes "4 BadDelimiters"
label NoSection = codes "5 NoSection"
label WrongEnd = codes "6 WrongEnd"
label UnclosedSection = codes "7 UnclosedSection"
label TooDeep = codes "8 TooDeep"
label OutOfMemory = codes "OutOfMemory"

-- a failed allocation has no place in the text, so its place is 0
abbrev pub memory_wanted : TemplateFault
memory_wanted = record { kind = OutOfMemory; place = 0 }
