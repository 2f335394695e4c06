-- How long a server that begins leaves requests unanswered. Times are milliseconds since it began.
use Rattle.std.specs.Prelude.{ℕ, ◌<◌}
use Rattle.server_pace.specs.declared.returning.Returning.{Returning}
use Rattle.server_times.specs.declared.times.Times.{Times}

-- of a server whose record ends at instance recorded
abbrev pub returning_of : Times → ℕ → Returning
returning_of times recorded = record { recorded = recorded; most = times.returning }

-- it knows fewer values than its record has, and its time has not passed
abbrev pub Returns : Returning → ℕ → ℕ → Type 0
Returns r now known = (known < r.recorded) × (now < r.most)
