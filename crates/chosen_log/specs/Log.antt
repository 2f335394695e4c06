-- The chosen values of a log, and what learning one more value does.
use Rattle.std.specs.Prelude.{◌≡◌, ◌≢◌, ◌≤◌, ◌<◌, ℕ, List, Option, Some, None, IsSome, Result, Ok, Err}
use Rattle.site_ids.specs.Ids.{IsInstance}
use Rattle.site_ids.specs.Lists.{put_at}
use Rattle.chosen_log.specs.LogValues.{LogValues, in_either}
use Rattle.chosen_log.specs.declared.fault.LearnFault.{LearnFault}
use Rattle.chosen_log.specs.declared.fault.LearnFault.TheVariants.{OutOfMemory, Conflict}
use Rattle.chosen_log.specs.declared.chosen_log.Learned.{Learned}
use Rattle.chosen_log.specs.declared.chosen_log.Learned.TheVariants.{New, Known}

-- the value known at an instance
abbrev pub value_at : LogValues → ℕ → Option (List ℕ)
value_at log i = in_either log.prefix log.beyond i

-- the least instance without a value
abbrev pub IsGap : LogValues → ℕ → Type 0
IsGap log gap =
    IsInstance gap × (value_at log gap ≡ None) × ((i : ℕ) → 1 ≤ i → i < gap → IsSome (value_at log i))

-- A value is new if the instance has none, and known if the instance has this one. If the instance has
-- another value, the value is handed back; and so it is if an allocation fails for a new one. Only a new
-- value changes the log, and only at its instance
abbrev pub Learns : LogValues → ℕ → List ℕ → Result Learned LearnFault → LogValues → Type 0
Learns old i v (Ok New) new =
    (value_at old i ≡ None) × ((j : ℕ) → value_at new j ≡ put_at (value_at old) i (Some v) j)
Learns old i v (Ok Known) new = (value_at old i ≡ Some v) × (new ≡ old)
Learns old i v (Err (OutOfMemory back)) new = (value_at old i ≡ None) × (back ≡ v) × (new ≡ old)
Learns old i v (Err (Conflict back)) new =
    ((u : List ℕ) × (value_at old i ≡ Some u) × (u ≢ v)) × (back ≡ v) × (new ≡ old)
