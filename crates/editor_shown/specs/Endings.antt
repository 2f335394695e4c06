-- How a publication ends, as a status.
use Rattle.std.specs.Prelude.{◌≡◌, ℕ, ◌-◌, ◌==◌, ◌&&◌, if◌then◌else◌, Bool, true, ⊤}
use Rattle.editor_ledger.specs.Books.{Book}
use Rattle.editor_shown.specs.declared.ending.Found.{Found}
use Rattle.editor_shown.specs.declared.ending.Ending.{Ending}
use Rattle.editor_shown.specs.declared.ending.Ending.TheVariants.{Well, Bad, WouldSend}
use Rattle.editor_shown.specs.declared.ending.Shown.{Shown}
use Rattle.editor_shown.specs.declared.ending.Shown.TheVariants.{Whole, NotWhole}

-- 1 is a fault, and 2 would be an invalid command line
abbrev pub status_of : Ending → ℕ
status_of Well = 0
status_of Bad = 1
status_of WouldSend = 3

-- whether a release shows a folder, by the number of paths that it does not show as the folder has them
abbrev pub shown_of : ℕ → Shown
shown_of unshown = if unshown == 0 then Whole else NotWhole

abbrev pub ending_of : Shown → Ending
ending_of Whole = Well
ending_of NotWhole = Bad

-- a dry run ends as a publication does, except if something would be sent and its status is to say so
abbrev pub dry_ending : Found → Bool → Ending
dry_ending found tells = if found.sends && tells then WouldSend else ending_of found.shown

-- only a dry run whose status is to say so ends as one that found something to send
abbrev pub MayEnd : Bool → Bool → Ending → Type 0
MayEnd dry_run tells Well = ⊤
MayEnd dry_run tells Bad = ⊤
MayEnd dry_run tells WouldSend = (dry_run ≡ true) × (tells ≡ true)

abbrev pub IsStatus : Bool → Bool → ℕ → Type 0
IsStatus dry_run tells status = (ending : Ending) × MayEnd dry_run tells ending × (status ≡ status_of ending)

-- how many commands the release of a ticket shows that no release showed before: the tickets between the last
-- release and this one
abbrev pub commands_of : ℕ → Book → ℕ
commands_of ticket book = ticket - book.last_release - 1
