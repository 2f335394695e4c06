-- Nodes in turn, by their numbers, with 1 after 9.
use Rattle.std.specs.Prelude.{ℕ, ◌+◌, ◌-◌, nat_le, nat_lt, if◌then◌else◌}

-- how many places after node last a number comes; after itself 9
abbrev pub places_behind : ℕ → ℕ → ℕ
places_behind last number = if nat_lt last number then number - last else number + 9 - last

-- the number that comes place places after last
abbrev pub number_behind : ℕ → ℕ → ℕ
number_behind last place = if nat_le (last + place) 9 then last + place else last + place - 9
