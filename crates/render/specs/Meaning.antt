-- What a template means: a text and its cost, or over limit.
use Rattle.std.specs.Prelude.{ℕ, zero, suc, ◌+◌, nat_le, if◌then◌else◌, List, [], ◌∷◌, ◌++◌, Option, None}
use Rattle.std.specs.Prelude.{Some, Result, Ok, Err, length}
use Rattle.mustache_parse.specs.Tree.{Tree, nothing, text as literal, variable, raw, partial, section}
use Rattle.mustache_parse.specs.Tree.{inverted, tree_of}
use Rattle.mustache_scan.specs.declared.fault.TemplateFault.{TemplateFault}
use Rattle.mustache_parse.specs.Indent.{indented}
use Rattle.context.specs.Whole.{Whole}
use Rattle.context.specs.LookUp.{look_up, items_of}
use Rattle.render.specs.Printed.{printed, escaped}

-- The text of a page or of a part of one, and its cost.
pub data Meaning : Type 0 where
  Over : Meaning
  Costs : (text : List ℕ) → (cost : ℕ) → Meaning

-- one meaning after another: texts are joined, costs are summed, and over limit stays so
abbrev pub and_then : Meaning → Meaning → Meaning
and_then Over n = Over
and_then (Costs t c) Over = Over
and_then (Costs t c) (Costs u e) = Costs (t ++ u) (c + e)

-- a byte printed costs 1
abbrev pub prints : List ℕ → Meaning
prints t = Costs t (length t)

-- a tag rendered costs 1, and so does an item pushed
abbrev pub costs_one : Meaning
costs_one = Costs [] 1

-- the meanings of a block for each item, one after another
abbrev pub for_each : (Whole → Meaning) → List Whole → Meaning
for_each block [] = Costs [] 0
for_each block (v ∷ vs) = and_then (and_then costs_one (block v)) (for_each block vs)

-- an inverted section's block is rendered if there is no item
abbrev pub where_none : Meaning → List Whole → Meaning
where_none block [] = block
where_none block (v ∷ vs) = Costs [] 0

-- the text of each partial, if there is one of that name
abbrev pub Partials : Type 0
Partials = List ℕ → Option (List ℕ)

-- The meaning of a tree over a stack. `call name indent stack` is the meaning of a partial.
unfoldable pub meaning_with : ((name indent : List ℕ) → List Whole → Meaning) → Tree → List Whole → Meaning
meaning_with call nothing stack = Costs [] 0
meaning_with call (literal t rest) stack = and_then (prints t) (meaning_with call rest stack)
meaning_with call (variable name rest) stack =
    and_then (and_then costs_one (prints (escaped (printed (look_up name stack)))))
    (meaning_with call rest stack)
meaning_with call (raw name rest) stack =
    and_then (and_then costs_one (prints (printed (look_up name stack)))) (meaning_with call rest stack)
meaning_with call (partial name indent rest) stack =
    and_then (and_then costs_one (call name indent stack)) (meaning_with call rest stack)
meaning_with call (section name block rest) stack =
    and_then (and_then costs_one
    (for_each (λ v. meaning_with call block (v ∷ stack)) (items_of (look_up name stack))))
    (meaning_with call rest stack)
meaning_with call (inverted name block rest) stack =
    and_then (and_then costs_one (where_none (meaning_with call block stack) (items_of (look_up name stack))))
    (meaning_with call rest stack)

-- the meaning of a text's tree. The second case never occurs: a partial's text has a tree, and the indented
-- text has one too
abbrev pub of_tree : (Tree → Meaning) → Result Tree TemplateFault → Meaning
of_tree mean (Ok t) = mean t
of_tree mean (Err f) = Costs [] 0

-- a missing partial prints nothing. The text of any other partial is indented, and then read
abbrev pub called : (Tree → List Whole → Meaning) → Option (List ℕ) → List ℕ → List Whole → Meaning
called mean None indent stack = Costs [] 0
called mean (Some t) indent stack = of_tree (λ tree. mean tree stack) (tree_of (indented indent t))

abbrev pub too_deep : Tree → List Whole → Meaning
too_deep t stack = Over

-- the meaning of a tree in which partials may nest n deep
unfoldable pub meaning_to : ℕ → Partials → Tree → List Whole → Meaning
meaning_to zero partials t stack =
    meaning_with (λ name indent s. called too_deep (partials name) indent s) t stack
meaning_to (suc n) partials t stack =
    meaning_with (λ name indent s. called (meaning_to n partials) (partials name) indent s) t stack

abbrev pub max_nested : ℕ
max_nested = 32

abbrev pub max_cost : ℕ
max_cost = 1_000_000

-- the text of a page, if its cost is within the limit
abbrev pub within_limit : Meaning → Option (List ℕ)
within_limit Over = None
within_limit (Costs t c) = if nat_le c max_cost then Some t else None

-- The text of a tree over data, or None if it is over the limit.
unfoldable pub rendering : Partials → Tree → Whole → Option (List ℕ)
rendering partials t d = within_limit (meaning_to max_nested partials t (d ∷ []))
