-- Whether the number of a release that was made is known.
use Rattle.std.specs.Prelude.{ℕ, ◌-◌, ◌==◌, ◌&&◌, ◌||◌, Bool, false, not, Option, Some, None}

-- the release comes right after that one, if that one is known
abbrev pub follows : Option ℕ → ℕ → Bool
follows None release = false
follows (Some before) release = release - before == 1

-- the newest release is the folder's if it is the only one since the folder's last release; or the only one
-- since the folder's release was sent, unless an interrupted run may have made that before
abbrev pub is_exact : Bool → Option ℕ → ℕ → ℕ → Bool
is_exact begun before shown release = release - shown == 1 || (not begun && follows before release)
