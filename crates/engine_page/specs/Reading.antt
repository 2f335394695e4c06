-- What an input reads as: the orders of its commands, or the line of its first fault.
use Rattle.std.specs.Prelude.{ℕ, ◌≡◌, ◌<◌, ◌≤◌, ◌⊎◌, ◌+◌, List, [], ◌++◌, length, codes, decimal, Result, Ok}
use Rattle.std.specs.Prelude.{Err}
use Rattle.std.specs.List.{flat_map, AllByRecursion, AllZip}
use Rattle.command.specs.Action.{Order}
use Rattle.command.specs.Reading.{value_reading}
use Rattle.command.specs.Written.{value_of, line_of}
use Rattle.command.specs.declared.fault.CommandFault.{CommandFault}
use Rattle.engine_page.specs.declared.input.TheConstants.{MAX_COMMANDS}
use Rattle.engine_page.specs.Framed.{FramedCommand, frame, Fits, HasNoFrame}

abbrev pub framed_reading : FramedCommand → Result Order CommandFault
framed_reading e = value_reading (value_of e.ticket e.text)

-- the text is a command's, with this order
abbrev pub HasOrder : FramedCommand → Order → Type 0
HasOrder e order = framed_reading e ≡ Ok order

-- the line of the kth command's fault, k from 1
abbrev pub fault_at : ℕ → List ℕ → List ℕ
fault_at k fault = codes "input " ++ (decimal k ++ (codes ": " ++ (fault ++ codes "\n")))

-- the input begins with the frames of these, and each text is a command's
pub record Begins (input : List ℕ) (framed : List FramedCommand) (orders : List Order)
    (rest : List ℕ) : Type 0 where
  pub whole : input ≡ flat_map frame framed ++ rest
  pub each : AllByRecursion Fits framed
  pub commands : AllZip HasOrder framed orders

-- the first frame whose text is not a command
pub record IsCommandFault (input line : List ℕ) : Type 0 where
  pub framed : List FramedCommand
  pub orders : List Order
  pub command : FramedCommand
  pub rest : List ℕ
  pub fault : CommandFault
  pub begins : Begins input framed orders (frame command ++ rest)
  pub few : length framed < MAX_COMMANDS
  pub fits : Fits command
  pub is : framed_reading command ≡ Err fault
  pub line_is : line ≡ fault_at (length framed + 1) (line_of fault)

-- bytes are left, and no frame is there, or as many frames were read as an input may have
pub record IsFramingFault (input line : List ℕ) : Type 0 where
  pub framed : List FramedCommand
  pub orders : List Order
  pub rest : List ℕ
  pub begins : Begins input framed orders rest
  pub few : length framed ≤ MAX_COMMANDS
  pub some : 0 < length rest
  pub stops : (length framed ≡ MAX_COMMANDS) ⊎ HasNoFrame rest
  pub line_is : line ≡ fault_at (length framed + 1) (codes "framing")

-- the whole input is frames of commands
pub record IsWhole (input : List ℕ) (orders : List Order) : Type 0 where
  pub framed : List FramedCommand
  pub begins : Begins input framed orders []
  pub few : length framed ≤ MAX_COMMANDS

-- the orders of the whole input, or the line of its first fault
abbrev pub HasReading : List ℕ → Result (List Order) (List ℕ) → Type 0
HasReading input (Ok orders) = IsWhole input orders
HasReading input (Err line) = IsCommandFault input line ⊎ IsFramingFault input line
