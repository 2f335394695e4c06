-- How long a response is held back.
use Rattle.std.specs.Prelude.{◌&&◌, Bool, nat_lt}
use Rattle.server_clients.specs.declared.hold.Hold.{Hold}
use Rattle.server_times.specs.declared.times.Times.{Times}

-- the next request asks for a receipt, and bytes came not long ago
abbrev pub is_held : Times → Hold → Bool
is_held times hold = hold.asked && nat_lt hold.since times.holds
