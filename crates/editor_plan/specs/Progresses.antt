-- What is printed of a delivery while it is under way, and when; all times in milliseconds since it
-- began.
use Rattle.std.specs.Prelude.{ℕ, ◌-◌, ◌/◌, ◌==◌, nat_le, nat_lt, Bool, true, false, not, ◌&&◌, if◌then◌else◌}
use Rattle.std.specs.Prelude.{Option, Some, None}
use Rattle.editor_plan.specs.declared.delivery_clock.Came.{Came}
use Rattle.editor_plan.specs.declared.delivery_clock.Came.TheVariants.{Receipt, Answers, Silence}
use Rattle.editor_plan.specs.declared.progress.TheConstants.{EACH, SILENCE, PARTS}
use Rattle.editor_plan.specs.declared.progress.Progress.{Progress}

abbrev pub first_progress : ℕ → Progress
first_progress all = record { all = all; told = 0; kept = 0; at = 0; moved = 0; silent = false }

-- another number of receipts than was last printed, at least `EACH` milliseconds after that
abbrev pub is_counted : ℕ → ℕ → Progress → Bool
is_counted now has p = not (has == p.told) && nat_le EACH (now - p.at)

abbrev pub count_told : ℕ → ℕ → Progress → Option ℕ
count_told now left p = if is_counted now (p.all - left) p then Some (p.all - left) else None

abbrev pub after_count : ℕ → ℕ → Progress → Progress
after_count now left p =
    if is_counted now (p.all - left) p then record p { told = p.all - left; at = now } else p

-- more than a sixteenth of all commands got their receipts since the ledger was last saved. So one
-- delivery saves it fifteen times at most, however many commands it has
abbrev pub is_kept : ℕ → Progress → Bool
is_kept has p = nat_lt (p.all / PARTS) (has - p.kept)

abbrev pub after_keeping : ℕ → Progress → Progress
after_keeping has p = if is_kept has p then record p { kept = has } else p

-- no receipt came for `SILENCE` milliseconds, and that was not printed yet
abbrev is_late : ℕ → Progress → Bool
is_late now p = not p.silent && nat_le SILENCE (now - p.moved)

-- printed once, until a receipt comes
abbrev pub falls_silent : Came → ℕ → Progress → Bool
falls_silent Receipt now p = false
falls_silent Answers now p = is_late now p
falls_silent Silence now p = is_late now p

abbrev pub after_exchange : Came → ℕ → Progress → Progress
after_exchange Receipt now p = record p { moved = now; silent = false }
after_exchange Answers now p = if is_late now p then record p { silent = true } else p
after_exchange Silence now p = if is_late now p then record p { silent = true } else p
