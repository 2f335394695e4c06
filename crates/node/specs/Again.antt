-- What a tick sends again.
use Rattle.std.specs.Prelude.{◌≡◌, ℕ, Option, Some, None, List, [], ◌∷◌, ◌++◌, map}
use Rattle.wire.specs.declared.message.Message.{Message}
use Rattle.proposer.specs.Attempts.{Attempt}
use Rattle.node.specs.declared.to.To.{To}
use Rattle.node.specs.Nodes.{Node}
use Rattle.node.specs.Calls.{AreOpenElsewhere, resent}

-- the latest messages of all open attempts except the one at instance i, in the order of their instances
pub record IsSentAgain (p : ℕ) (s : Node) (i : ℕ) (again : List (To × Message)) : Type 0 where
  pub elsewhere : List (ℕ × Attempt)
  pub are : AreOpenElsewhere s i elsewhere
  pub is : again ≡ map (resent p) elsewhere

-- the messages, and after them the latest message of the attempt at an instance, if one is open
abbrev pub with_latest : ℕ → List (To × Message) → ℕ → Option Attempt → List (To × Message)
with_latest p out i None = out
with_latest p out i (Some a) = out ++ resent p (i, a) ∷ []
