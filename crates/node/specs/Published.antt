-- Tickets kept beside values that are published.
use Rattle.std.specs.Prelude.{◌≡◌, ◌||◌, List, is_some}
use Rattle.std.specs.BTreeSet.{BTreeSet}
use Rattle.site_ids.specs.declared.Ticket.{Ticket}
use Rattle.content.specs.Standing.{is_held}
use Rattle.release.specs.Receipts.{receipt_of}
use Rattle.node.specs.Nodes.{Value}

-- each set, together with the tickets of the published values, has the same tickets
abbrev pub AreHeldWith : BTreeSet Ticket → BTreeSet Ticket → List Value → Type 0
AreHeldWith old new published =
    (ticket : Ticket)
    → (is_held ticket new.keys || is_some (receipt_of ticket published))
    ≡ (is_held ticket old.keys || is_some (receipt_of ticket published))
