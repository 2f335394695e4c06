-- Masks of nodes, and how many nodes they have.
use Rattle.std.specs.Prelude.{◌≡◌, ℕ, List, length}
use Rattle.std.specs.Int.{bit_at}
use Rattle.site_ids.specs.Ids.{IsNode}
use Rattle.site_ids.specs.Lists.{In, Distinct}
use Rattle.learner.specs.declared.node_mask.NodeMask.{NodeMask}

-- the bit of node p is 1
abbrev pub HasNode : NodeMask → ℕ → Type 0
HasNode mask p = bit_at mask.bits p ≡ 1

-- c of the nodes 1 to n have the property
pub record Counted (Passes : ℕ → Type 0) (n c : ℕ) : Type 0 where
  pub nodes : List ℕ
  pub distinct : Distinct nodes
  pub each : (p : ℕ) → In nodes p → IsNode n p × Passes p
  pub all : (p : ℕ) → IsNode n p → Passes p → In nodes p
  pub number : length nodes ≡ c
