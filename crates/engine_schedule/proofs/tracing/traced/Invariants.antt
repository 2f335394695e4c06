use Rattle.std.proofs.Common.{◌≡◌, take, string_bytes}
use Rattle.std.specs.List.{flat_map}
use Rattle.node.specs.Effects.{messages_of}
use Rattle.engine_schedule.specs.Tracing.{message_line}
use Rattle.engine_schedule.proofs.tracing.traced.Given as goal

-- those so far
abbrev pub invariant-loop-index : goal.invariant-loop-index
invariant-loop-index l = string_bytes l.text ≡ flat_map message_line (take l.index (messages_of l.world.sent.items))
