-- The blanks that a margin stands for.
use Rattle.std.specs.Prelude.{ℕ, Bool, true, false, List, [], ◌++◌, Option, None, Some, option_copied}
use Rattle.std.specs.Borrow.{Bor}
use Rattle.render.specs.declared.margin.Margin.{Margin, fold-Margin}
use Rattle.render.specs.declared.margin.Margin.TheOpen.{Margin-F}

abbrev pub outer_of : Option (Bor (List ℕ)) → List ℕ
outer_of None = []
outer_of (Some x) = x.now

abbrev pub margin_step : Margin-F (List ℕ) → List ℕ
margin_step m = outer_of m.outer ++ m.own.now

-- the blanks of the outer margins, and after them its own
abbrev pub margin_text : Margin → List ℕ
margin_text = fold-Margin (List ℕ) margin_step

-- no blanks if there is no margin
abbrev pub margin_of : Option Margin → List ℕ
margin_of None = []
margin_of (Some m) = margin_text m

-- the blanks of a borrowed margin
abbrev pub margin_at : Option (Bor Margin) → List ℕ
margin_at m = margin_of (option_copied m)

-- a margin is put before what begins a line
abbrev pub lead : List ℕ → Bool → List ℕ
lead w true = w
lead w false = []
