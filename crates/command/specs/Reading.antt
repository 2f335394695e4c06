-- Which values are commands, and the fault of every other.
use Rattle.std.specs.Prelude.{◌≡◌, ◌≢◌, ℕ, List, [], ◌∷◌, length, drop, codes, nat_eq, nat_le, ◌==◌, ◌&&◌}
use Rattle.std.specs.Prelude.{◌||◌, not, if◌then◌else◌, Bool, true, Option, None, Result, Ok, Err, ok_or}
use Rattle.std.specs.List.{list_all, starts_with}
use Rattle.std.specs.Str.{is_utf8}
use Rattle.site_ids.specs.declared.TheConstants.{MAX_VALUE, MAX_NAME, MAX_PATH, TICKET_BYTES}
use Rattle.byteorder.specs.Endian.{big_number}
use Rattle.site_ids.specs.declared.Ticket.{Ticket}
use Rattle.context.specs.Whole.{Whole, data_reading}
use Rattle.context.specs.declared.fault.DataFault.{DataFault}
use Rattle.mustache_scan.specs.declared.fault.TemplateFault.{TemplateFault}
use Rattle.mustache_parse.specs.Tree.{Tree, tree_of}
use Rattle.command.specs.Action.{Kind, template, partial, page_data, route, redirect, Action, put_template}
use Rattle.command.specs.Action.{put_partial, put_data, put_route, put_redirect, remove, release, Order}
use Rattle.command.specs.Rows.{Row, template_row, partial_row, data_row, route_row, redirect_row, remove_row}
use Rattle.command.specs.Rows.{release_row, row_of}
use Rattle.command.specs.declared.fault.CommandFault.{CommandFault}
use Rattle.command.specs.declared.fault.CommandFault.TheVariants.{TooLong, Form, Name, Path, Template, Data}

-- ---- names and paths

abbrev pub is_between : ℕ → ℕ → ℕ → Bool
is_between low high b = nat_le low b && nat_le b high

-- a letter, a digit, `-`, `.`, `/` or `_`
abbrev pub is_name_byte : ℕ → Bool
is_name_byte b =
    is_between 97 122 b
    || is_between 65 90 b
    || is_between 48 57 b
    || b == 45
    || b == 46
    || b == 47
    || b == 95

-- 1 to 64 of these bytes
abbrev pub is_name : List ℕ → Bool
is_name name =
    nat_le 1 (length name)
    && nat_le (length name) MAX_NAME
    && list_all is_name_byte name

-- no control byte, space or delete
abbrev pub is_path_byte : ℕ → Bool
is_path_byte b = nat_le 33 b && not (b == 127)

abbrev pub is_path : List ℕ → Bool
is_path path =
    starts_with nat_eq path (codes "/")
    && nat_le (length path) MAX_PATH
    && list_all is_path_byte path
    && not (starts_with nat_eq path (codes "/_"))
    && not (starts_with nat_eq path (codes "/@"))

-- a path that does not begin with two slashes: after two slashes, a host would be read (RFC 3986, section
-- 4.2)
abbrev pub is_target : List ℕ → Bool
is_target path = is_path path && not (starts_with nat_eq path (codes "//"))

-- ---- rows

abbrev pub names_in : Row → List (List ℕ)
names_in (template_row name body) = name ∷ []
names_in (partial_row name body) = name ∷ []
names_in (data_row name body) = name ∷ []
names_in (route_row path shows fills) = shows ∷ fills ∷ []
names_in (redirect_row path target) = []
names_in (remove_row route path) = []
names_in (remove_row redirect path) = []
names_in (remove_row kind name) = name ∷ []
names_in release_row = []

-- a row's paths are valid, and a redirect leads to a target
abbrev pub has_paths : Row → Bool
has_paths (route_row path shows fills) = is_path path
has_paths (redirect_row path target) = is_path path && is_target target
has_paths (remove_row route path) = is_path path
has_paths (remove_row redirect path) = is_path path
has_paths _ = true

abbrev pub put_text : Action → Result Tree TemplateFault → Result Action CommandFault
put_text action (Ok tree) = Ok action
put_text action (Err fault) = Err (Template fault)

abbrev pub put_whole : List ℕ → Result Whole DataFault → Result Action CommandFault
put_whole name (Ok data_put) = Ok (put_data name data_put)
put_whole name (Err fault) = Err (Data fault)

-- what a row does. A text that is put has to have a tree, and data have to be whole
abbrev pub row_action : Row → Result Action CommandFault
row_action (template_row name body) = put_text (put_template name body) (tree_of body)
row_action (partial_row name body) = put_text (put_partial name body) (tree_of body)
row_action (data_row name body) = put_whole name (data_reading body)
row_action (route_row path shows fills) = Ok (put_route path shows fills)
row_action (redirect_row path target) = Ok (put_redirect path target)
row_action (remove_row kind name) = Ok (remove kind name)
row_action release_row = Ok release

abbrev pub row_reading : Row → Result Action CommandFault
row_reading row =
    if list_all is_name (names_in row) then (if has_paths row then row_action row else Err Path) else Err Name

-- what a remove names: a path for a route or a redirect, a name otherwise
abbrev pub is_removable : Kind → List ℕ → Bool
is_removable template name = is_name name
is_removable partial name = is_name name
is_removable page_data name = is_name name
is_removable route path = is_path path
is_removable redirect path = is_path path

abbrev pub wrong_remove : Kind → CommandFault
wrong_remove template = Name
wrong_remove partial = Name
wrong_remove page_data = Name
wrong_remove route = Path
wrong_remove redirect = Path

-- ---- values

-- the row of a value's text, which follows the 12 bytes of its ticket
abbrev pub text_row : List ℕ → Option Row
text_row v =
    if nat_le TICKET_BYTES (length v)
    && is_utf8 (drop TICKET_BYTES v) then row_of (drop TICKET_BYTES v) else None

abbrev pub value_row : List ℕ → Result Row CommandFault
value_row v = if nat_le (length v) MAX_VALUE then ok_or (text_row v) Form else Err TooLong

abbrev pub read_row : Result Row CommandFault → Result Action CommandFault
read_row (Ok row) = row_reading row
read_row (Err fault) = Err fault

-- the same, by the row that a text has, if any
abbrev pub text_reading : Option Row → Result Action CommandFault
text_reading row = read_row (ok_or row Form)

-- the ticket of a value: the editor's number and the command's, the highest byte first
abbrev pub ticket_of : List ℕ → Ticket
ticket_of v = record { editor = big_number 4 v; number = big_number 8 (drop 4 v) }

abbrev pub with_ticket : Ticket → Result Action CommandFault → Result Order CommandFault
with_ticket ticket (Ok action) = Ok (record { ticket = ticket; action = action })
with_ticket ticket (Err fault) = Err fault

-- the command that a value is, or its fault
abbrev pub value_reading : List ℕ → Result Order CommandFault
value_reading v = with_ticket (ticket_of v) (read_row (value_row v))

-- reading the value may allocate: its text has a row of the table, other than a release. The other faults
-- need no memory
abbrev pub TakesMemory : List ℕ → Type 0
TakesMemory v = (row : Row) × (value_row v ≡ Ok row) × (row ≢ release_row)
