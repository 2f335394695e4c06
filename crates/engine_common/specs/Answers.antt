-- What is printed of an answer.
use Rattle.std.specs.Prelude.{ℕ, List, ◌++◌, length, codes, decimal}

-- status and length, and then the body
abbrev pub answer_lines : ℕ → List ℕ → List ℕ
answer_lines status body = decimal status ++ (codes " " ++ (decimal (length body) ++ (codes "\n" ++ body)))
