-- The lines of a schedule, and how each is spelled.
use Rattle.std.specs.Prelude.{ℕ, ◌<◌, ◌^◌, List, [], ◌∷◌, ◌++◌, length, codes, decimal, ⊤}
use Rattle.std.specs.Str.{IsUtf8}
use Rattle.site_ids.specs.Ids.{IsNode, IsInstance}
use Rattle.site_ids.specs.declared.Ticket.{Ticket}
use Rattle.engine_common.specs.Cuts.{Lacks}
use Rattle.engine_common.specs.Submissions.{numbers, joined, FitsSubmission}

-- a line after the first, with the words of it that vary. A submission has its text too
pub data Line : Type 0 where
  submit_line : (p : ℕ) → Ticket → (text : List ℕ) → Line
  tick_line : (p : ℕ) → Line
  widen_line : (p : ℕ) → Line
  ask_line : (p : ℕ) → Line
  tell_line : (p first : ℕ) → Line
  keep_line : (p i : ℕ) → Line
  restart_line : (p : ℕ) → Line
  replace_line : (p floor : ℕ) → Line
  deliver_line : (p index : ℕ) → Line
  arm_line : (p calls : ℕ) → Line
  crash_line : (p choice : ℕ) → Line
  settle_line : Line
  quiet_line : (p : ℕ) → Line
  show_line : (p : ℕ) → Line
  get_line : (p n : ℕ) (path : List ℕ) → Line
  trace_line : Line

abbrev pub submit_words : ℕ → Ticket → ℕ → List (List ℕ)
submit_words p ticket len = codes "submit" ∷ numbers p ticket len

abbrev pub words : Line → List (List ℕ)
words (submit_line p ticket text) = submit_words p ticket (length text)
words (tick_line p) = codes "tick" ∷ decimal p ∷ []
words (widen_line p) = codes "widen" ∷ decimal p ∷ []
words (ask_line p) = codes "ask" ∷ decimal p ∷ []
words (tell_line p first) = codes "tell" ∷ decimal p ∷ decimal first ∷ []
words (keep_line p i) = codes "keep" ∷ decimal p ∷ decimal i ∷ []
words (restart_line p) = codes "restart" ∷ decimal p ∷ []
words (replace_line p floor) = codes "replace" ∷ decimal p ∷ decimal floor ∷ []
words (deliver_line p index) = codes "deliver" ∷ decimal p ∷ decimal index ∷ []
words (arm_line p calls) = codes "arm" ∷ decimal p ∷ decimal calls ∷ []
words (crash_line p choice) = codes "crash" ∷ decimal p ∷ decimal choice ∷ []
words settle_line = codes "settle" ∷ []
words (quiet_line p) = codes "quiet" ∷ decimal p ∷ []
words (show_line p) = codes "show" ∷ decimal p ∷ []
words (get_line p n path) = codes "get" ∷ decimal p ∷ decimal n ∷ path ∷ []
words trace_line = codes "trace" ∷ []

-- what follows the newline after the words
abbrev pub body : Line → List ℕ
body (submit_line p ticket text) = text ++ (10 ∷ [])
body _ = []

abbrev pub spelled : Line → List ℕ
spelled line = joined (words line) ++ (10 ∷ body line)

-- the path has no space and no newline
pub record IsPath (path : List ℕ) : Type 0 where
  pub no_space : Lacks 32 path
  pub no_newline : Lacks 10 path
  pub text : IsUtf8 path

-- each number is in its range
abbrev pub Fits : Line → Type 0
Fits (submit_line p ticket text) = FitsSubmission p ticket (length text)
Fits (tick_line p) = IsNode 9 p
Fits (widen_line p) = IsNode 9 p
Fits (ask_line p) = IsNode 9 p
Fits (tell_line p first) = IsNode 9 p × IsInstance first
Fits (keep_line p i) = IsNode 9 p × IsInstance i
Fits (restart_line p) = IsNode 9 p
Fits (replace_line p floor) = IsNode 9 p × IsInstance floor
Fits (deliver_line p index) = IsNode 9 p × (index < 2 ^ 64)
Fits (arm_line p calls) = IsNode 9 p × (calls < 2 ^ 32)
Fits (crash_line p choice) = IsNode 9 p × (choice < 2 ^ 8)
Fits settle_line = ⊤
Fits (quiet_line p) = IsNode 9 p
Fits (show_line p) = IsNode 9 p
Fits (get_line p n path) = IsNode 9 p × (n < 2 ^ 64) × IsPath path
Fits trace_line = ⊤

-- ---- the first line

abbrev pub spelled_nodes : ℕ → List ℕ
spelled_nodes n = codes "nodes " ++ (decimal n ++ (10 ∷ []))
