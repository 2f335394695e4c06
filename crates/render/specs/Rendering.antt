-- What printing adds to a page: the text and the cost of a meaning. It fails if the cost is more than what is
-- left.
use Rattle.std.specs.Prelude.{◌≡◌, ℕ, zero, suc, ◌+◌, ◌<◌, ◌++◌, List, Result, Ok, Err, string_bytes, ⊤}
use Rattle.context.specs.Whole.{Whole}
use Rattle.render.specs.Meaning.{Meaning, Over, Costs, Partials, called, too_deep, meaning_to}
use Rattle.render.specs.declared.output.Output.{Output}
use Rattle.render.specs.declared.fault.RenderFault.{RenderFault}
use Rattle.render.specs.declared.fault.RenderFault.TheVariants.{OverLimit, OutOfMemory}

-- the text follows what was there, and the cost was paid
abbrev pub IsPaid : Output → Output → Meaning → Type 0
IsPaid old new Over = ⊥
IsPaid old new (Costs t c) = (string_bytes new.text ≡ string_bytes old.text ++ t) × (new.left + c ≡ old.left)

-- the meaning costs more than is left
abbrev pub Exceeds : ℕ → Meaning → Type 0
Exceeds left Over = ⊤
Exceeds left (Costs t c) = left < c

abbrev pub Adds : Output → Output → Meaning → Result (Unit {0}) RenderFault → Type 0
Adds old new m (Ok done) = IsPaid old new m
Adds old new m (Err OverLimit) = Exceeds old.left m
Adds old new m (Err OutOfMemory) = ⊤

-- what a partial means if n more may nest
abbrev pub called_at : ℕ → Partials → (name indent : List ℕ) → List Whole → Meaning
called_at zero partials name indent stack = called too_deep (partials name) indent stack
called_at (suc n) partials name indent stack = called (meaning_to n partials) (partials name) indent stack
