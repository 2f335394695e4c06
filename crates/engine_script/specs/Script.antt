-- The lines of a script, and how each is spelled.
use Rattle.std.specs.Prelude.{ℕ, ◌≤◌, ◌<◌, ◌^◌, List, [], ◌∷◌, ◌++◌, length, codes, decimal}
use Rattle.site_ids.specs.Ids.{IsNode}
use Rattle.site_ids.specs.declared.Ticket.{Ticket}
use Rattle.engine_script.specs.declared.script.TheConstants.{SERVERS, MAX_POST, MAX_TURNS}
use Rattle.engine_common.specs.Submissions.{joined, numbers}
use Rattle.engine_common.specs.Cuts.{Lacks}

-- a line, with the words of it that vary; a post has its text too
pub data Line : Type 0 where
  post_line : (p : ℕ) → Ticket → (text : List ℕ) → Line
  get_line : (p : ℕ) (target : List ℕ) → Line
  turns_line : (k : ℕ) → Line
  drive_line : (p k : ℕ) → Line

abbrev pub post_words : ℕ → Ticket → ℕ → List (List ℕ)
post_words p ticket len = codes "post" ∷ numbers p ticket len

abbrev pub words : Line → List (List ℕ)
words (post_line p ticket text) = post_words p ticket (length text)
words (get_line p target) = codes "get" ∷ decimal p ∷ target ∷ []
words (turns_line k) = codes "turns" ∷ decimal k ∷ []
words (drive_line p k) = codes "drive" ∷ decimal p ∷ decimal k ∷ []

-- what follows the newline after the words
abbrev pub body : Line → List ℕ
body (post_line p ticket text) = text ++ (10 ∷ [])
body _ = []

abbrev pub spelled : Line → List ℕ
spelled line = joined (words line) ++ (10 ∷ body line)

-- the target has no space and no newline
pub record IsTarget (target : List ℕ) : Type 0 where
  pub no_space : Lacks 32 target
  pub no_newline : Lacks 10 target

abbrev pub FitsPost : ℕ → Ticket → ℕ → Type 0
FitsPost p ticket len =
    IsNode SERVERS p × (ticket.editor < 2 ^ 32) × (ticket.number < 2 ^ 64) × (len ≤ MAX_POST)

-- each number is in its range
abbrev pub Fits : Line → Type 0
Fits (post_line p ticket text) = FitsPost p ticket (length text)
Fits (get_line p target) = IsNode SERVERS p × IsTarget target
Fits (turns_line k) = k ≤ MAX_TURNS
Fits (drive_line p k) = IsNode SERVERS p × (k ≤ MAX_TURNS)
