-- What a widening looks for: instances, and values for them.
use Rattle.std.specs.Prelude.{◌≡◌, ◌⊎◌, ℕ, ◌+◌, ◌≤◌, Option, Some, List, [], ◌∷◌, ◌++◌, length, take}
use Rattle.std.specs.Prelude.{slice_get}
use Rattle.site_ids.specs.Spans.{IsInSpan}
use Rattle.proposer.specs.declared.TheConstants.{MAX_ATTEMPTS}
use Rattle.proposer.specs.Attempts.{Attempt}
use Rattle.node.specs.Nodes.{Value, Node}
use Rattle.node.specs.Calls.{IsFree, IsTried, AreUntried}

-- the k instances from i on are free. After them the window ends, or the next instance is not free
pub record IsFreeRun (s : Node) (first i k : ℕ) : Type 0 where
  pub some : 1 ≤ k
  pub free : (j : ℕ) → IsInSpan i k j → IsFree s j
  pub near : i + k ≤ first + MAX_ATTEMPTS
  pub ends : (i + k ≡ first + MAX_ATTEMPTS) ⊎ ¬ IsFree s (i + k)

-- no attempt has the pending value at this place as its own, and all values before it are tried
pub record IsOldestUntried (s : Node) (n : ℕ) : Type 0 where
  pub value : Value
  pub there : slice_get s.pending n ≡ Some value
  pub untried : ¬ IsTried s value
  pub before : AreUntried s (take n s.pending) []

-- the oldest pending values that are untried: all of them, or as many as `most`
pub record AreOldest (s : Node) (most : ℕ) (values : List Value) : Type 0 where
  pub left : List Value
  pub oldest : AreUntried s s.pending (values ++ left)
  pub few : length values ≤ most
  pub all : (left ≡ []) ⊎ (length values ≡ most)

-- the value is put after the others, unless an attempt has it as its own
abbrev pub PushesUntried : (ℕ → Option Attempt) → Value → List Value → List Value → Type 0
PushesUntried attempts v before after =
    (((i : ℕ) × (a : Attempt) × (attempts i ≡ Some a) × (a.own ≡ v)) × (after ≡ before))
    ⊎ ((¬ ((i : ℕ) × (a : Attempt) × (attempts i ≡ Some a) × (a.own ≡ v))) × (after ≡ before ++ v ∷ []))
