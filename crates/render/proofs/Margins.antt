-- A margin that is longer by its own blanks.
use Rattle.std.proofs.Common.{◌≡◌, ℕ, List, ◌++◌, Option, Some, None, Bor}
use Rattle.render.specs.Margin.{margin_step, margin_text, margin_at}
use Rattle.render.specs.declared.margin.Margin.{Margin, roll-Margin, fold-roll-Margin}

pub longer : (own : Bor (List ℕ)) (outer : Option (Bor Margin)) → margin_text (roll-Margin (record { own = own; outer = outer })) ≡ margin_at outer ++ own.now
longer own None = fold-roll-Margin (List ℕ) margin_step _
longer own (Some m) = fold-roll-Margin (List ℕ) margin_step _
