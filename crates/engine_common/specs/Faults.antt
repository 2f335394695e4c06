-- The line that reports a fault.
use Rattle.std.specs.Prelude.{ℕ, List, ◌++◌, codes, decimal}

-- the fault of the k-th line
abbrev pub fault_at : ℕ → List ℕ → List ℕ
fault_at k fault = codes "line " ++ (decimal k ++ (codes ": " ++ (fault ++ codes "\n")))
