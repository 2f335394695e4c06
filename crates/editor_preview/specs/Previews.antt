-- What a preview shows.
use Rattle.std.specs.Prelude.{ℕ, ◌==◌, if◌then◌else◌, List, Option, Some, None, string_bytes}
use Rattle.std.specs.Option.{option_map}
use Rattle.release.specs.Page.{Page, in_place, answer}
use Rattle.editor_preview.specs.Scripts.{in_browser}
use Rattle.editor_preview.specs.declared.shown.Shown.{Shown}
use Rattle.editor_preview.specs.declared.shown.Shown.TheVariants.{Pages, Faults}
use Rattle.editor_preview.specs.declared.previewed.Previewed.{Previewed}

-- the page of the folder's release, or at each path what is wrong
abbrev pub shown_at : Shown → List ℕ → Option Page
shown_at (Pages releases) path = answer releases 1 path
shown_at (Faults text) path = Some (in_place 500 (string_bytes text))

-- the folder as it was read is all there is, under its number
abbrev pub page_in : Previewed → ℕ → List ℕ → Option Page
page_in previewed n path =
    if n == previewed.number then option_map (in_browser n path) (shown_at previewed.shown path) else None
