-- What an `Input` stands for, and what becomes of one command of it.
use Rattle.std.specs.Prelude.{ℕ, ◌≡◌, List, [], ◌∷◌, ◌++◌, string_bytes, Err}
use Rattle.command.specs.Action.{Order}
use Rattle.command.specs.Written.{line_of}
use Rattle.command.specs.declared.fault.CommandFault.{CommandFault}
use Rattle.engine_page.specs.Framed.{FramedCommand}
use Rattle.engine_page.specs.Reading.{HasReading, HasOrder, framed_reading, fault_at}
use Rattle.engine_page.specs.Verdict.{HasValues, framed_value}
use Rattle.engine_page.specs.declared.input.Input.{Input}
use Rattle.engine_page.specs.declared.input.Input.TheVariants.{Fed, Fault}

-- the values of the whole input, or the line of its first fault
abbrev pub IsInput : List ℕ → Input → Type 0
IsInput bytes (Fed values) = HasValues bytes values
IsInput bytes (Fault line) = HasReading bytes (Err (string_bytes line))

-- the text is a command's, and its value is fed after these
pub record IsFed (e : FramedCommand) (before after : List (List ℕ)) : Type 0 where
  pub order : Order
  pub reads : HasOrder e order
  pub fed : after ≡ before ++ framed_value e ∷ []

-- the text is not a command's, and this is the line of its fault, if it is the kth text
pub record IsFaultLine (e : FramedCommand) (k : ℕ) (line : List ℕ) : Type 0 where
  pub fault : CommandFault
  pub reads : framed_reading e ≡ Err fault
  pub told : line ≡ fault_at k (line_of fault)
