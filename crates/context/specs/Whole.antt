-- Whole data: JSON values whose numbers are all whole.
use Rattle.std.specs.Prelude.{ℕ, ℤ, List, Bool, Option, Some, None, option_map, option_and_then, Result, Ok}
use Rattle.std.specs.Prelude.{Err, if◌then◌else◌}
use Rattle.std.specs.Str.{is_utf8}
use Rattle.serde_json.specs.Data as json
use Rattle.serde_json.specs.Read.{read}
use Rattle.serde_json.specs.Find.{as_integer}
use Rattle.context.specs.declared.fault.DataFault.{DataFault}
use Rattle.context.specs.declared.fault.DataFault.TheVariants.{NotJson, NotWhole}

mutual
  pub data Whole : Type 0 where
    null : Whole
    boolean : Bool → Whole
    int : ℤ → Whole
    text : List ℕ → Whole
    list : Items → Whole
    hash : Members → Whole

  pub data Items : Type 0 where
    no_items : Items
    item : Whole → Items → Items

  -- each key once, in the order of the keys' bytes
  pub data Members : Type 0 where
    no_members : Members
    member : List ℕ → Whole → Members → Members

-- the whole data that a JSON value is; None if a number in it is neither an i64 nor a u64
abbrev mutual
  pub whole : json.Data → Option Whole
  whole json.null = Some null
  whole (json.boolean b) = Some (boolean b)
  whole (json.number n) = option_map int (as_integer n)
  whole (json.string s) = Some (text s)
  whole (json.array ds) = option_map list (whole_items ds)
  whole (json.object ms) = option_map hash (whole_members ms)

  pub whole_items : json.Items → Option Items
  whole_items json.no_items = Some no_items
  whole_items (json.item d ds) = option_and_then (λ x. option_map (item x) (whole_items ds)) (whole d)

  pub whole_members : json.Members → Option Members
  whole_members json.no_members = Some no_members
  whole_members (json.member k d ms) = option_and_then (λ x. option_map (member k x) (whole_members ms))
      (whole d)

-- the whole data of a JSON value, or NotWhole
abbrev pub whole_or_not : Option Whole → Result Whole DataFault
whole_or_not None = Err NotWhole
whole_or_not (Some w) = Ok w

-- the whole data that a text is, by the written reading of `serde_json`, or the fault
abbrev pub text_reading : Option json.Data → Result Whole DataFault
text_reading None = Err NotJson
text_reading (Some j) = whole_or_not (whole j)

-- the whole data that bytes are, or the fault: NotJson if they are not UTF-8 or not a JSON text, NotWhole if
-- a number is not whole
abbrev pub data_reading : List ℕ → Result Whole DataFault
data_reading bytes = if is_utf8 bytes then text_reading (read bytes) else Err NotJson
