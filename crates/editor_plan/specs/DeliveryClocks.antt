-- How a delivery goes on after an exchange with a node; all times in milliseconds since it began.
use Rattle.std.specs.Prelude.{ℕ, ◌-◌, ◌*◌, ◌/◌, max, min, nat_le, Bool, true, false, if◌then◌else◌}
use Rattle.editor_plan.specs.declared.delivery_clock.TheConstants.{STAYING, FIRST_REST, LONGEST_REST}
use Rattle.editor_plan.specs.declared.delivery_clock.Came.{Came}
use Rattle.editor_plan.specs.declared.delivery_clock.Came.TheVariants.{Receipt, Answers, Silence}
use Rattle.editor_plan.specs.declared.delivery_clock.Step.{Step}
use Rattle.editor_plan.specs.declared.delivery_clock.Step.TheVariants.{Again, Next, GiveUp}
use Rattle.editor_plan.specs.declared.delivery_clock.DeliveryClock.{DeliveryClock}

abbrev pub first_clock : DeliveryClock
first_clock = record { moved = 0; stayed = 0; rest = FIRST_REST }

-- another node is spoken to if this one is silent, or has given no receipt for `STAYING` milliseconds
abbrev pub turns : Came → ℕ → DeliveryClock → Bool
turns Receipt now p = false
turns Answers now p = nat_le STAYING (now - p.stayed)
turns Silence now p = true

-- a rest is twice the one before; a receipt or another node begins anew
abbrev pub clock_after : Came → ℕ → DeliveryClock → DeliveryClock
clock_after Receipt now p = record { moved = now; stayed = now; rest = FIRST_REST }
clock_after Answers now p =
    if turns Answers now p
    then record { moved = p.moved; stayed = now; rest = FIRST_REST }
    else record { moved = p.moved; stayed = p.stayed; rest = min (p.rest * 2) LONGEST_REST }
clock_after Silence now p = record { moved = p.moved; stayed = now; rest = FIRST_REST }

-- no receipt came for `patience` seconds
abbrev pub is_over : ℕ → ℕ → DeliveryClock → Bool
is_over now patience p = nat_le patience ((now - p.moved) / 1000)

abbrev pub step_of : Came → ℕ → ℕ → DeliveryClock → Step
step_of Receipt now patience p = Again 0
step_of Answers now patience p =
    if is_over now patience p then GiveUp else (if turns Answers now p then Next else Again p.rest)
step_of Silence now patience p = if is_over now patience p then GiveUp else Next

-- how many milliseconds an exchange that begins now waits for an answer: as long as a delivery stays with
-- a node, but no longer than the seconds that are left
abbrev pub within_of : ℕ → ℕ → DeliveryClock → ℕ
within_of now patience p = max 1 (min (STAYING / 1000) (patience - (now - p.moved) / 1000)) * 1000
