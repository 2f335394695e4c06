-- Where a log keeps its values.
use Rattle.std.specs.Prelude.{◌≡◌, ◌+◌, ◌<◌, ◌≤◌, ℕ, zero, suc, List, length, slice_get, Option, None}
use Rattle.std.specs.BTreeMap.{is_at}
use Rattle.std.specs.Map.{lookup}
use Rattle.std.specs.Option.{option_or}
use Rattle.std.specs.Ordering.{nat_cmp}
use Rattle.site_ids.specs.declared.TheConstants.{MAX_INSTANCE}

-- the values from instance 1 on, in order, and others by their instance
pub record LogValues : Type 0 where
  pub prefix : List (List ℕ)
  pub beyond : List (ℕ × List ℕ)

abbrev pub among : List (ℕ × List ℕ) → ℕ → Option (List ℕ)
among beyond i = lookup (is_at (nat_cmp i)) beyond

-- the value at an instance
abbrev pub in_either : List (List ℕ) → List (ℕ × List ℕ) → ℕ → Option (List ℕ)
in_either prefix beyond zero = None
in_either prefix beyond (suc k) = option_or (slice_get prefix k) (among beyond (suc k))

-- the first instance after the prefix has no value, and there is no value past the last instance
pub record IsCut (prefix : List (List ℕ)) (beyond : List (ℕ × List ℕ)) : Type 0 where
  pub gap : among beyond (length prefix + 1) ≡ None
  pub few : length prefix ≤ MAX_INSTANCE
  pub within : (k : ℕ) → MAX_INSTANCE < k → among beyond k ≡ None
