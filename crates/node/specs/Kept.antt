-- What a node keeps of what it learned.
use Rattle.std.specs.Prelude.{◌≡◌, ℕ, Some, List, []}
use Rattle.wire.specs.declared.message.Message.{Message}
use Rattle.durable.specs.Entries.{learned_at}
use Rattle.durable.specs.Histories.{IsHistory}
use Rattle.node.specs.declared.to.To.{To}
use Rattle.node.specs.Nodes.{Value, Node}
use Rattle.node.specs.Calls.{keep, MayKeep}
use Rattle.node.specs.Endings.{Whole, Ends}
use Rattle.node.specs.Ranges.{HasRanges}

-- after the call nothing is left to keep at the instance, and the call hands out nothing
abbrev pub KeepLeavesNone : Type 0
KeepLeavesNone = (n p i : ℕ) (s new : Node) (out : List (To × Message)) → Ends n p s (keep i) Whole out new
    → (¬ MayKeep new i) × (out ≡ [])

-- if nothing is left to keep at an instance where a value is known, a value is on record there as learned
abbrev pub KnownIsOnRecord : Type 0
KnownIsOnRecord = (s : Node) (i : ℕ) (v : Value) → s.known i ≡ Some v → ¬ MayKeep s i
    → (u : Value) × (learned_at i s.entries ≡ Some u)

-- the entry that goes on record may follow what is there
abbrev pub KeepStaysHistory : Type 0
KeepStaysHistory = (n p i : ℕ) (s new : Node) (out : List (To × Message)) → Ends n p s (keep i) Whole out new
    → IsHistory n s.entries → HasRanges n s → IsHistory n new.entries
