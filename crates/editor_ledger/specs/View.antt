-- Heads and entries of the code as the definitions have them.
use Rattle.std.specs.Prelude.{string_bytes}
use Rattle.editor_ledger.specs.Books.{Given}
use Rattle.editor_ledger.specs.Heads.{Head}
use Rattle.editor_ledger.specs.declared.head.Head.{Head as CodeHead}
use Rattle.editor_ledger.specs.declared.message.Message.{Message}
use Rattle.editor_ledger.specs.declared.past.Past.{Past}
use Rattle.editor_ledger.specs.declared.sent.Sent.{Sent}

abbrev pub head_view : CodeHead → Head
head_view h = record { verb = h.verb.now; kind = h.kind.now; name = h.name.now }

abbrev pub given_view : Sent → Given
given_view s = record { number = s.number; text = string_bytes s.text }

abbrev pub past_view : Past → Given
past_view p = record { number = p.since; text = string_bytes p.text }

abbrev pub message_view : Message → Given
message_view m = record { number = m.release; text = string_bytes m.text }
