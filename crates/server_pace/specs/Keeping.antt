-- When a server puts on record what it learned. Times are milliseconds since it began.
use Rattle.std.specs.Prelude.{◌≡◌, ◌⊎◌, ℕ, suc, ◌+◌, ◌-◌, ◌^◌, ◌≤◌, min, nat_lt, if◌then◌else◌, Option, Some}
use Rattle.std.specs.Prelude.{None, unwrap_or}
use Rattle.site_ids.specs.Ids.{IsInstance}
use Rattle.site_drive.specs.declared.last_call.LastCall.{LastCall}
use Rattle.site_drive.specs.declared.last_call.LastCall.TheVariants.{Keep}
use Rattle.server_pace.specs.declared.keeping.Keeping.{Keeping}
use Rattle.server_times.specs.declared.times.Times.{Times}

-- if more values are known than were kept, they wait since now, or since they did before
abbrev pub owed_at : Keeping → ℕ → ℕ → Keeping
owed_at k now known = record k { since = if nat_lt k.kept known then Some (unwrap_or k.since now) else None }

-- values wait no longer: the oldest has waited for its time, or there are enough for a block
abbrev pub IsKeepDue : Keeping → Times → ℕ → ℕ → Type 0
IsKeepDue k times now known = (since : ℕ) × (k.since ≡ Some since)
    × ((times.keeping ≤ now - since) ⊎ (times.block ≤ known - k.kept))

-- the first instance that is kept next, and how many: from the first that was not kept, all that are known,
-- at most a block
abbrev pub IsNextBlock : Keeping → Times → ℕ → ℕ → Option (ℕ × ℕ) → Type 0
IsNextBlock k times now known (Some x) = IsKeepDue k times now known × IsInstance (suc k.kept)
    × (x ≡ (suc k.kept, min (known - k.kept) times.block))
IsNextBlock k times now known None = ¬ (IsKeepDue k times now known × IsInstance (suc k.kept))

-- count more instances were kept
abbrev pub kept_on : Keeping → ℕ → Keeping
kept_on k count = record { kept = min (k.kept + count) (2 ^ 32 - 1); since = None }

-- a call that keeps values counts from now on
abbrev pub keeping_after : Keeping → LastCall → Keeping
keeping_after k (Keep i count) = kept_on k count
keeping_after k last = k
