-- A node that runs is never stuck.
use Rattle.std.specs.Prelude.{◌≡◌, ◌≢◌, ℕ}
use Rattle.node.specs.declared.fault.NodeFault.{NodeFault}
use Rattle.node.specs.declared.fault.NodeFault.TheVariants.{OutOfMemory}
use Rattle.node.specs.Nodes.{Up, Node}
use Rattle.node.specs.Calls.{Call, Does}
use Rattle.node.specs.Effects.{Effect}
use Rattle.node.specs.Endings.{MayRefuse}
use Rattle.node.specs.Tidy.{IsTidy}

-- A contradiction says that a call is not stuck: no excluded middle is assumed.

-- nothing but a failed allocation can come of the call: it has no effect, and no other cause to refuse it
-- holds
pub record IsStuck (n p : ℕ) (s : Node) (call : Call) : Type 0 where
  pub no_effect : (effect : Effect) → ¬ Does n p s call effect
  pub no_cause : (cause : NodeFault) → cause ≢ OutOfMemory → ¬ MayRefuse s call cause

-- at a node that runs no call is stuck
abbrev pub NeverStuck : Type 0
NeverStuck = (n p : ℕ) (s : Node) (call : Call) → s.mode ≡ Up → IsTidy s → ¬ IsStuck n p s call
