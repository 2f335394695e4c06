-- What a written value holds.
use Rattle.std.proofs.Common.{◌≡◌, ℕ, List, ◌++◌, ◌<◌, ◌^◌, drop, refl, ap, ◌∙◌}
use Rattle.byteorder.specs.Endian.{big_bytes, big_number}
use Rattle.byteorder.specs.Numbers.{big_number-reads_back}
use Rattle.site_ids.specs.declared.Ticket.{Ticket}
use Rattle.command.specs.Reading.{ticket_of}
use Rattle.command.specs.Written.{value_of}
use Rattle.command.specs.Laws.{WrittenHolds}

abbrev ticket_with : ℕ → ℕ → Ticket
ticket_with editor number = record { editor = editor; number = number }

ticket_from : (editor number : ℕ) (t : Ticket) → editor ≡ t.editor → number ≡ t.number → ◌≡◌ {A = Ticket} (record { editor = editor; number = number }) t
ticket_from editor number t e n =
    ap (λ (x : ℕ). ticket_with x number) e ∙ ap (λ (y : ℕ). ticket_with t.editor y) n

ticket_back : (t : Ticket) (text : List ℕ) → t.editor < 2 ^ 32 → t.number < 2 ^ 64 → ticket_of (value_of t text) ≡ t
ticket_back t text e n =
    ticket_from (big_number 4 (value_of t text)) (big_number 8 (drop 4 (value_of t text))) t
    (big_number-reads_back 4 t.editor (big_bytes 8 t.number ++ text) e)
    (big_number-reads_back 8 t.number text n)

pub written_holds : WrittenHolds
written_holds t text e n = (ticket_back t text e n, refl)
