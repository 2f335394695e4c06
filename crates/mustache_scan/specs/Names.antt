-- Names, and the delimiters that a delimiter tag names.
use Rattle.std.specs.Prelude.{ℕ, Bool, ◌||◌, ◌&&◌, ◌==◌, not, if◌then◌else◌, List, [], ◌∷◌, Option, None}
use Rattle.std.specs.Prelude.{Some, length, drop}
use Rattle.std.specs.List.{list_any, slice_split, before_first}
use Rattle.std.specs.Str.{bytes_eq}
use Rattle.mustache_scan.specs.Cutting.{is_padding, unpadded}

-- what opens a tag and what closes it
pub record Pair : Type 0 where
  pub opening : List ℕ
  pub closing : List ℕ

-- two braces each: these are in force at the front of a text
abbrev pub braces : Pair
braces = record { opening = 123 ∷ 123 ∷ []; closing = 125 ∷ 125 ∷ [] }

abbrev pub is_empty : List ℕ → Bool
is_empty t = length t == 0

-- the parts of a name between its dots
abbrev pub parts : List ℕ → List (List ℕ)
parts name = slice_split (λ b. b == 46) name

-- one dot and nothing else
abbrev pub is_dot : List ℕ → Bool
is_dot name = bytes_eq name (46 ∷ [])

abbrev pub has_padding : List ℕ → Bool
has_padding = list_any is_padding

-- whether a name has no empty part, or is one dot
abbrev pub is_dotted : List ℕ → Bool
is_dotted name = is_dot name || not (list_any is_empty (parts name))

-- one of the two sequences of a delimiter tag: not empty, no padding, no equals sign
abbrev pub is_sequence : List ℕ → Bool
is_sequence s = not (is_empty s) && not (list_any (λ b. is_padding b || b == 61) s)

-- the delimiters that the stripped inside of a delimiter tag names: two sequences with padding between them
abbrev pub delimiters_in : List ℕ → Option Pair
delimiters_in inside =
    let first = before_first is_padding inside in
    let second = unpadded (drop (length first) inside) in
    if is_sequence first
    && is_sequence second then Some (record { opening = first; closing = second }) else None
