-- The framed commands of an input.
use Rattle.std.specs.Prelude.{ℕ, ◌≡◌, ◌≢◌, ◌<◌, ◌≤◌, ◌^◌, ◌⊎◌, List, ◌∷◌, ◌++◌, length, decimal}
use Rattle.std.specs.List.{flat_map, AllByRecursion}
use Rattle.site_ids.specs.declared.Ticket.{Ticket}
use Rattle.engine_common.specs.declared.cutting.TheConstants.{MAX_TEXT}
use Rattle.engine_page.specs.declared.input.TheConstants.{MAX_COMMANDS}

-- a command of the input
pub record FramedCommand : Type 0 where
  pub ticket : Ticket
  pub text : List ℕ

-- its frame: a line with the ticket's two numbers and the text's length, and then the text
abbrev pub frame : FramedCommand → List ℕ
frame e =
    decimal e.ticket.editor
    ++ (32 ∷ (decimal e.ticket.number ++ (32 ∷ (decimal (length e.text) ++ (10 ∷ e.text)))))

-- its numbers and its length are in range
abbrev pub Fits : FramedCommand → Type 0
Fits e = (e.ticket.editor < 2 ^ 32) × (e.ticket.number < 2 ^ 64) × (length e.text ≤ MAX_TEXT)

-- no frame is at the front of the bytes
abbrev pub HasNoFrame : List ℕ → Type 0
HasNoFrame bytes = (e : FramedCommand) (rest : List ℕ) → Fits e → bytes ≢ frame e ++ rest

-- the input is the frames of these commands, at most as many as an input has, and then bytes with no frame at
-- their front
pub record Splits (input : List ℕ) (framed : List FramedCommand) (rest : List ℕ) : Type 0 where
  pub whole : input ≡ flat_map frame framed ++ rest
  pub each : AllByRecursion Fits framed
  pub few : length framed ≤ MAX_COMMANDS
  pub stops : (length framed ≡ MAX_COMMANDS) ⊎ HasNoFrame rest
