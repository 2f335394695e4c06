-- What an entry of a span does to a slot.
use Rattle.std.specs.Prelude.{◌≡◌, ◌⊎◌, Some, ⊤}
use Rattle.site_ids.specs.Ids.{BallotOf, NotAbove}
use Rattle.acceptor.specs.declared.slot.Slot.{Slot}
use Rattle.site_ids.specs.Spans.{IsSpan}
use Rattle.durable.specs.Entries.{Entry, PromisedSpan}
use Rattle.acceptor.specs.Judging.{IsFreeBelow}
use Rattle.acceptor.specs.Steps.{with_promise}

-- the ballot is promised if there is no promise or a lower one; else the slot stays as it is
abbrev pub IsRaised : Slot → BallotOf → Slot → Type 0
IsRaised s b t = (IsFreeBelow s.promised b × (t ≡ with_promise s b))
    ⊎ ((c : BallotOf) × (s.promised ≡ Some c) × NotAbove b c × (t ≡ s))

-- if the entry promises a ballot at several instances, they are a span
abbrev pub IsSpanned : Entry → Type 0
IsSpanned (PromisedSpan i k b) = IsSpan i k
IsSpanned _ = ⊤
