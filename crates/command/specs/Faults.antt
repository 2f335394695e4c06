-- Which faults a value has: each is defined by itself.
use Rattle.std.specs.Prelude.{◌≡◌, ◌≤◌, ◌<◌, ℕ, List, length, drop, false, Option, Some, None, Err}
use Rattle.std.specs.List.{list_all}
use Rattle.std.specs.Str.{IsUtf8}
use Rattle.site_ids.specs.declared.TheConstants.{MAX_VALUE, TICKET_BYTES}
use Rattle.context.specs.Whole.{data_reading}
use Rattle.mustache_parse.specs.Tree.{tree_of}
use Rattle.command.specs.Rows.{Row, template_row, partial_row, data_row, spelled, HasWords}
use Rattle.command.specs.Reading.{is_name, names_in, has_paths}
use Rattle.command.specs.declared.fault.CommandFault.{CommandFault}
use Rattle.command.specs.declared.fault.CommandFault.TheVariants.{TooLong, Form, Name, Path, Template, Data}
use Rattle.command.specs.declared.fault.CommandFault.TheVariants.{OutOfMemory}

-- the value has a ticket's 12 bytes, and after them the row's text
pub record IsRowOf (v : List ℕ) (row : Row) : Type 0 where
  pub ticketed : TICKET_BYTES ≤ length v
  pub is_text : IsUtf8 (drop TICKET_BYTES v)
  pub words : HasWords row
  pub spells : drop TICKET_BYTES v ≡ spelled row

-- the text of a template or a partial
abbrev pub template_in : Row → Option (List ℕ)
template_in (template_row name body) = Some body
template_in (partial_row name body) = Some body
template_in _ = None

abbrev pub data_in : Row → Option (List ℕ)
data_in (data_row name body) = Some body
data_in _ = None

-- the value has the fault, whatever other faults it has
abbrev pub Applies : List ℕ → CommandFault → Type 0
Applies v TooLong = MAX_VALUE < length v
Applies v Form = (row : Row) → ¬ IsRowOf v row
Applies v Name = (row : Row) × IsRowOf v row × (list_all is_name (names_in row) ≡ false)
Applies v Path = (row : Row) × IsRowOf v row × (has_paths row ≡ false)
Applies v (Template fault) =
    (row : Row) × (body : List ℕ) × IsRowOf v row × (template_in row ≡ Some body) × (tree_of body ≡ Err fault)
Applies v (Data fault) =
    (row : Row) × (body : List ℕ) × IsRowOf v row × (data_in row ≡ Some body)
    × (data_reading body ≡ Err fault)
Applies v OutOfMemory = ⊥

-- the number of a fault, as its line says it
abbrev pub number : CommandFault → ℕ
number TooLong = 1
number Form = 2
number Name = 3
number Path = 4
number (Template fault) = 5
number (Data fault) = 6
number OutOfMemory = 7
