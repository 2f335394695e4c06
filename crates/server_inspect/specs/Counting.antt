-- Which instances have a property.
use Rattle.std.specs.Prelude.{ℕ, zero, suc, Bool, if◌then◌else◌}

-- how many of the instances 1 to k have it
unfoldable pub count_to : (ℕ → Bool) → ℕ → ℕ
count_to P zero = zero
count_to P (suc k) = if P (suc k) then suc (count_to P k) else count_to P k

-- the last of them that has it; 0 if none has
unfoldable pub last_to : (ℕ → Bool) → ℕ → ℕ
last_to P zero = zero
last_to P (suc k) = if P (suc k) then suc k else last_to P k
