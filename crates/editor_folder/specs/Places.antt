-- The place of a byte of a text, as editors count.
use Rattle.std.specs.Prelude.{ℕ, suc, List, Bool, not, ◌==◌, take, reverse, count_by, take_while, nat_lt}
use Rattle.std.specs.Prelude.{nat_le, ◌||◌}

-- the byte begins a character
abbrev pub is_lead : ℕ → Bool
is_lead b = nat_lt b 128 || nat_le 192 b

-- the line, counted from 1: the newlines before the byte
abbrev pub line_of : List ℕ → ℕ → ℕ
line_of text at = suc (count_by (λ b. b == 10) (take at text))

-- the column, counted from 1: the characters before the byte on its line
abbrev pub column_of : List ℕ → ℕ → ℕ
column_of text at = suc (count_by is_lead (take_while (λ b. not (b == 10)) (reverse (take at text))))
