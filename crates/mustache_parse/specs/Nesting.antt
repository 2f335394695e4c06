-- The sections that some tokens leave open, and the faults of nesting.
use Rattle.std.specs.Prelude.{◌≡◌, ◌≢◌, ◌≤◌, ◌+◌, Bool, true, false, List, [], ◌∷◌, ◌++◌, length, IsTrue}
use Rattle.mustache_scan.specs.Standalone.{TokenSeen}
use Rattle.mustache_scan.specs.declared.fault.FaultKind.TheVariants.{NoSection, WrongEnd, UnclosedSection}
use Rattle.mustache_scan.specs.declared.fault.FaultKind.TheVariants.{TooDeep}
use Rattle.mustache_scan.specs.declared.fault.TemplateFault.{TemplateFault}
use Rattle.mustache_scan.specs.declared.token.TokenKind.{TokenKind}
use Rattle.mustache_scan.specs.declared.token.TokenKind.TheVariants.{Section, Inverted, End}
use Rattle.mustache_parse.specs.Makes.{Makes, depth}
use Rattle.mustache_parse.specs.Tree.{Tree, Open, max_open}

abbrev pub is_opening : TokenKind → Bool
is_opening Section = true
is_opening Inverted = true
is_opening _ = false

-- Tokens that leave no section open make a tree. Tokens that leave one more section open have its tag, and
-- after it tokens that make the beginning of its block.
pub data LeavesOpen : List TokenSeen → List Open → Type 0 where
  none_open : (ts : List TokenSeen) (tree : Tree) → Makes ts tree → depth tree ≤ max_open → LeavesOpen ts []
  one_open : (front : List TokenSeen) (above : List Open) (t : TokenSeen) (inner : List TokenSeen)
      (block : Tree)
      → LeavesOpen front above → IsTrue (is_opening t.kind) → Makes inner block
      → depth block + length above + 1 ≤ max_open
      → LeavesOpen (front ++ t ∷ inner) (record { name = t.inside; place = t.place } ∷ above)

-- A fault is at the first tag that has one: an end tag if no section is open, or if the innermost one has
-- another name; or a tag that opens one section too many. Only if no tag has a fault, the fault is at the
-- outermost of the sections left open.
pub data HasFault : List TokenSeen → TemplateFault → Type 0 where
  no_section : (front : List TokenSeen) (t : TokenSeen) (after : List TokenSeen)
      → LeavesOpen front [] → t.kind ≡ End
      → HasFault (front ++ t ∷ after) (record { kind = NoSection; place = t.place })
  wrong_end : (front : List TokenSeen) (o : Open) (above : List Open) (t : TokenSeen) (after : List TokenSeen)
      → LeavesOpen front (o ∷ above) → t.kind ≡ End → t.inside ≢ o.name
      → HasFault (front ++ t ∷ after) (record { kind = WrongEnd; place = t.place })
  too_deep : (front : List TokenSeen) (above : List Open) (t : TokenSeen) (after : List TokenSeen)
      → LeavesOpen front above → length above ≡ max_open → IsTrue (is_opening t.kind)
      → HasFault (front ++ t ∷ after) (record { kind = TooDeep; place = t.place })
  unclosed : (ts : List TokenSeen) (within : List Open) (outermost : Open)
      → LeavesOpen ts (within ++ outermost ∷ [])
      → HasFault ts (record { kind = UnclosedSection; place = outermost.place })
