-- Which call a server makes after the turns of a batch.
use Rattle.std.specs.Prelude.{ℕ, Bool, true, false, ◌||◌, Option, Some, None, is_some, if◌then◌else◌}
use Rattle.site_drive.specs.declared.last_call.LastCall.{LastCall}
use Rattle.site_drive.specs.declared.last_call.LastCall.TheVariants.{TickOrAsk, Widen, Ask, Tell, Keep}
use Rattle.site_drive.specs.declared.last_call.LastCall.TheVariants.{Nothing}
use Rattle.server_pace.specs.declared.due.Due.{Due}

-- the telling, if one is due; otherwise that call
abbrev pub telling_or : Option (ℕ × ℕ) → LastCall → LastCall
telling_or None last = last
telling_or (Some x) last = Tell x.0 x.1

-- putting on record goes before everything except a fresh value and a question: the answer comes while the
-- disk writes
abbrev pub keeping_or : Option (ℕ × ℕ) → Bool → LastCall → LastCall
keeping_or None question last = last
keeping_or (Some x) true last = Ask
keeping_or (Some x) false last = Keep x.0 x.1

-- the first that applies: a tick for a fresh value, putting on record, a tick, a question, a telling, nothing
-- if it yields; else widenings
abbrev pub call_behind : Due → LastCall
call_behind due =
    if due.fresh then TickOrAsk
    else keeping_or due.block due.question
    (if due.tick || due.goes_on then TickOrAsk
    else (if due.question then Ask
    else telling_or due.telling
    (if due.yields then Nothing else Widen)))

-- something goes before a telling
abbrev pub goes_first : Due → Bool
goes_first due = due.fresh || (is_some due.block || (due.tick || (due.goes_on || due.question)))

abbrev pub is_telling : LastCall → Bool
is_telling (Tell p i) = true
is_telling last = false
