-- What follows from the definitions by themselves.
use Rattle.std.specs.Prelude.{◌≡◌, ◌≤◌, ◌↔◌, List, Ok, Err}
use Rattle.mustache_scan.specs.Standalone.{TokenSeen}
use Rattle.mustache_parse.specs.Tree.{Tree, nested, max_open}
use Rattle.mustache_parse.specs.Makes.{Makes, depth}
use Rattle.mustache_parse.specs.Nesting.{HasFault}
use Rattle.mustache_scan.specs.declared.fault.TemplateFault.{TemplateFault}

-- Tokens nest into a tree if and only if they make it, and no more sections are open at once than allowed.
abbrev pub TreeIsMade : Type 0
TreeIsMade =
    (ts : List TokenSeen) (tree : Tree) → (nested ts ≡ Ok tree) ↔ (Makes ts tree × (depth tree ≤ max_open))

-- A list of tokens makes at most one tree.
abbrev pub MakesAtMostOne : Type 0
MakesAtMostOne = (ts : List TokenSeen) (one other : Tree) → Makes ts one → Makes ts other → one ≡ other

-- A list of tokens has a fault if and only if the sections that are open before a tag, or at the end, give
-- it.
abbrev pub FaultIsFirst : Type 0
FaultIsFirst = (ts : List TokenSeen) (f : TemplateFault) → (nested ts ≡ Err f) ↔ HasFault ts f
