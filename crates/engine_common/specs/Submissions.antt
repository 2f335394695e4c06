-- The numbers of a submission's line.
use Rattle.std.specs.Prelude.{ℕ, ◌<◌, ◌≤◌, ◌^◌, List, [], ◌∷◌, ◌++◌, decimal}
use Rattle.site_ids.specs.Ids.{IsNode}
use Rattle.site_ids.specs.declared.Ticket.{Ticket}
use Rattle.engine_common.specs.declared.cutting.TheConstants.{MAX_TEXT}
use Rattle.engine_common.specs.declared.words.SubmissionLine.{SubmissionLine}

-- a submission's numbers: its node, its ticket and its text's length
abbrev pub numbers : ℕ → Ticket → ℕ → List (List ℕ)
numbers p ticket len = decimal p ∷ decimal ticket.editor ∷ decimal ticket.number ∷ decimal len ∷ []

-- words, with one space between them
abbrev pub joined : List (List ℕ) → List ℕ
joined [] = []
joined (word ∷ []) = word
joined (word ∷ later) = word ++ (32 ∷ joined later)

abbrev pub FitsSubmission : ℕ → Ticket → ℕ → Type 0
FitsSubmission p ticket len =
    IsNode 9 p × (ticket.editor < 2 ^ 32) × (ticket.number < 2 ^ 64) × (len ≤ MAX_TEXT)

abbrev pub submission_numbers : SubmissionLine → List (List ℕ)
submission_numbers s = numbers s.node s.ticket s.text_len

abbrev pub submission_fits : SubmissionLine → Type 0
submission_fits s = FitsSubmission s.node s.ticket s.text_len
