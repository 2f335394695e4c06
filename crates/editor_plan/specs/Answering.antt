-- How many milliseconds nodes have to answer. They were asked `times` times before; `patience` seconds
-- may pass in all, and `passed` milliseconds have passed. At first they have few, then more, but no
-- longer than the seconds that are left, and a second at least.
use Rattle.std.specs.Prelude.{ℕ, ◌-◌, ◌*◌, ◌/◌, ◌==◌, max, min, if◌then◌else◌}
use Rattle.editor_plan.specs.declared.answering.TheConstants.{FIRST_ANSWERS, LATER_ANSWERS}

abbrev pub answers_within : ℕ → ℕ → ℕ → ℕ
answers_within times passed patience =
    if times == 0 then FIRST_ANSWERS else max 1 (min (LATER_ANSWERS / 1000) (patience - passed / 1000)) * 1000
