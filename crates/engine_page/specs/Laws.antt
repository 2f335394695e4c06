-- What holds of these definitions.
use Rattle.std.specs.Prelude.{ℕ, ◌≡◌, List, ◌++◌, Option, Result}
use Rattle.command.specs.Action.{Order}
use Rattle.engine_page.specs.Framed.{FramedCommand, frame, Fits, Splits}
use Rattle.engine_page.specs.Reading.{HasReading}
use Rattle.engine_page.specs.Verdict.{Verdict, IsVerdict}

-- no frame is the beginning of another
abbrev pub OneFrame : Type 0
OneFrame =
    (e f : FramedCommand) (rest others : List ℕ) → Fits e → Fits f → frame e ++ rest ≡ frame f ++ others
    → (e ≡ f) × (rest ≡ others)

-- an input is split into frames in at most one way
abbrev pub OneSplit : Type 0
OneSplit =
    (input : List ℕ) (es fs : List FramedCommand) (rest others : List ℕ) → Splits input es rest
    → Splits input fs others → (es ≡ fs) × (rest ≡ others)

-- an input has at most one reading: its orders, or one line
abbrev pub OneReading : Type 0
OneReading =
    (input : List ℕ) (one other : Result (List Order) (List ℕ)) → HasReading input one
    → HasReading input other → one ≡ other

-- every input has a reading
abbrev pub SomeReading : Type 0
SomeReading = (input : List ℕ) → (reading : Result (List Order) (List ℕ)) × HasReading input reading

-- an input is answered in one way
abbrev pub OneVerdict : Type 0
OneVerdict =
    (input : List ℕ) (release : Option ℕ) (path : List ℕ) (one other : Verdict)
    → IsVerdict input release path one → IsVerdict input release path other → one ≡ other

abbrev pub SomeVerdict : Type 0
SomeVerdict =
    (input : List ℕ) (release : Option ℕ) (path : List ℕ)
    → (verdict : Verdict) × IsVerdict input release path verdict
