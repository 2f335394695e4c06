-- When a server reports what. Moments are milliseconds since it began.
use Rattle.std.specs.Prelude.{ℕ, ◌-◌, ◌/◌, Bool, false, ◌&&◌, ◌||◌, nat_eq, nat_le, nat_lt, if◌then◌else◌}
use Rattle.server_notes.specs.declared.catching.Catching.{Catching}
use Rattle.server_notes.specs.declared.catching.Catching.TheVariants.{Alone, Since}
use Rattle.server_notes.specs.declared.silence.Silence.{Silence}
use Rattle.server_notes.specs.declared.catching.TheConstants.{SETTLING, HEARING, MANY}
use Rattle.server_notes.specs.declared.silence.TheConstants.{LONG}

-- ---- how long somebody was not heard

abbrev pub no_silence : Silence
no_silence = record { heard = 0; told = 0; ended = 0 }

abbrev pub silence_of : Silence → ℕ → ℕ
silence_of s now = now - s.heard

-- a silence that was reported has ended
abbrev pub heard_at : Silence → ℕ → Silence
heard_at s now =
    record { heard = now; told = 0; ended = if nat_eq s.told 0 then s.ended else silence_of s now }

-- five seconds, and twice as long as the length that was reported last
abbrev pub is_long : Silence → ℕ → Bool
is_long s now = nat_le LONG (silence_of s now) && nat_le s.told (silence_of s now / 2)

abbrev pub told_at : Silence → ℕ → Silence
told_at s now = record s { told = silence_of s now }

abbrev pub ended_told : Silence → Silence
ended_told s = record s { ended = 0 }

-- ---- whether it has caught up

abbrev pub joined_at : Catching → ℕ → ℕ → ℕ → Catching
joined_at Alone now known reached = Since now known reached
joined_at c now known reached = c

-- The time begins anew after each 64 values that became known. It also does if it has passed and a value that
-- was heard of in its first part is not known
abbrev pub learned_at : Catching → ℕ → ℕ → ℕ → Catching
learned_at (Since at before reach) now known reached =
    if nat_le MANY (known - before)
    || (nat_le SETTLING (now - at) && nat_lt known reach) then Since now known reached
    else Since at before (if nat_lt (now - at) HEARING then reached else reach)
learned_at c now known reached = c

-- for two seconds it hears a majority, and fewer than 64 values became known; and all values that it heard of
-- in the first part of that time are known
abbrev pub has_settled : Catching → ℕ → ℕ → Bool
has_settled (Since at before reach) now known = nat_le SETTLING (now - at) && nat_le reach known
has_settled c now known = false
