-- Majorities of the nodes 1 to n.
use Rattle.std.specs.Prelude.{ℕ, ◌+◌, ◌/◌, ◌≤◌, List, length}
use Rattle.site_ids.specs.Ids.{IsNode}
use Rattle.site_ids.specs.Lists.{In, Distinct}

-- different nodes of the n, more than half of them
pub record Majority (n : ℕ) (ps : List ℕ) : Type 0 where
  pub distinct : Distinct ps
  pub nodes : (p : ℕ) → In ps p → IsNode n p
  pub enough : n / 2 + 1 ≤ length ps
