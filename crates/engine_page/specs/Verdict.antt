-- What an input is answered with.
use Rattle.std.specs.Prelude.{ℕ, ◌≡◌, ◌⊎◌, List, map, codes, Option, Some, None, Err}
use Rattle.command.specs.Action.{Order}
use Rattle.command.specs.Written.{value_of}
use Rattle.engine_page.specs.Framed.{FramedCommand}
use Rattle.release.specs.Page.{Page, answer, asked}
use Rattle.engine_page.specs.Reading.{IsWhole, HasReading}

-- a page, or a line that says why there is none
pub data Verdict : Type 0 where
  shows : Page → Verdict
  says : List ℕ → Verdict

abbrev pub or_no_release : Option Page → Verdict
or_no_release None = says (codes "no release\n")
or_no_release (Some page) = shows page

abbrev pub framed_value : FramedCommand → List ℕ
framed_value e = value_of e.ticket e.text

-- the whole input is frames of commands, and these are their values
pub record HasValues (input : List ℕ) (values : List (List ℕ)) : Type 0 where
  pub orders : List Order
  pub whole : IsWhole input orders
  pub are : values ≡ map framed_value whole.framed

-- the line of the first fault, or the answer of the values read for the release asked and the path
abbrev pub IsVerdict : List ℕ → Option ℕ → List ℕ → Verdict → Type 0
IsVerdict input release path verdict =
    ((line : List ℕ) × HasReading input (Err line) × (verdict ≡ says line))
    ⊎ ((values : List (List ℕ)) × HasValues input values
    × (verdict ≡ or_no_release (answer values (asked values release) path)))
