-- What a server waits for, by its times. Times are milliseconds since it began, rests microseconds.
use Rattle.std.specs.Prelude.{ℕ, ◌+◌, ◌-◌, ◌*◌, ◌/◌, ◌^◌, ◌&&◌, min, Bool, true, nat_le, nat_lt}
use Rattle.std.specs.Prelude.{if◌then◌else◌, Option, Some, None}
use Rattle.server_times.specs.declared.times.Times.{Times}

-- millis milliseconds have passed since then; they also have if there is no such moment
abbrev pub passed : Option ℕ → ℕ → ℕ → Bool
passed None now millis = true
passed (Some since) now millis = nat_le millis (now - since)

-- before its first try a server waits half the patience, and half of it more for each number up to its own
abbrev pub patience_of : Times → ℕ → ℕ
patience_of times node = min (times.patience * (node + 1)) (2 ^ 64 - 1) / 2

-- after a question that brought nothing; empty counts the steps in which nothing came
abbrev pub asks_after : Times → ℕ → ℕ
asks_after times empty = if nat_lt empty times.quiet then times.asking else times.quiet_asking

-- if it is behind and knows no more than at its last question: longer by times.again after each question in a
-- row for one instance
abbrev pub asks_again_after : Times → ℕ → ℕ → ℕ
asks_again_after times again empty =
    min (min (times.again * (again + 1)) (2 ^ 64 - 1)) (asks_after times empty)

-- after empty steps in which nothing came, in microseconds; with few clients it does not rest at first
abbrev pub long_rest : Times → ℕ → ℕ → ℕ
long_rest times empty clients =
    if nat_lt empty times.eager && nat_le clients times.few then 0
    else (if nat_lt empty times.idle then times.rest
    else (if nat_lt empty times.quiet then times.idle_rest else times.quiet_rest))

-- the same, but shorter while the server tells somebody something
abbrev pub rest_after : Times → ℕ → Bool → ℕ → ℕ
rest_after times empty tells clients =
    if tells then min (long_rest times empty clients) times.telling_rest else long_rest times empty clients
