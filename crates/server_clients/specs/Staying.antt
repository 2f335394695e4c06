-- How long a connection may stay.
use Rattle.std.specs.Prelude.{ℕ, ◌⊎◌, ◌≤◌, Option, Some, None}
use Rattle.server_clients.specs.declared.stay.Stay.{Stay}
use Rattle.server_times.specs.declared.times.Times.{Times}

-- It stays too long. Given are for how long nothing moved; for how long a request is being read or answered,
-- if one is; and how long a request may take, if that is limited
abbrev pub IsTooLongFor : Times → ℕ → Option ℕ → Option ℕ → Type 0
IsTooLongFor times still None most = times.between_requests ≤ still
IsTooLongFor times still (Some busy) None = times.without_progress ≤ still
IsTooLongFor times still (Some busy) (Some most) = (times.without_progress ≤ still) ⊎ (most ≤ busy)

-- It stays too long: between two requests, if that lasts longer than it may; within one, if nothing moves for
-- longer than it may, or if a limited request takes longer than it may
abbrev pub IsTooLong : Stay → Times → Type 0
IsTooLong stay times = IsTooLongFor times stay.still stay.busy times.serve_ms
