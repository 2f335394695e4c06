-- Which path no node answered for.
use Rattle.std.specs.Prelude.{◌≡◌, ⊤, ℕ, List, ◌++◌, Option, Some, None, false, slice_get}
use Rattle.std.specs.Prelude.{codes, string_bytes}
use Rattle.editor_common.specs.declared.editor_fault.EditorFault.{EditorFault}
use Rattle.editor_common.specs.declared.editor_fault.EditorFault.TheVariants.{Stop, OutOfMemory}
use Rattle.editor_http.specs.declared.node_answer.NodeAnswer.{NodeAnswer}
use Rattle.editor_plan.specs.Takings.{is_of_page}

-- there is no answer, or it has a status that no node gives
abbrev pub IsUnanswered : Option NodeAnswer → Type 0
IsUnanswered None = ⊤
IsUnanswered (Some answer) = is_of_page answer.status ≡ false

-- the words name the path, for which no node answered; or an allocation failed
abbrev pub TellsPath : List ℕ → List ℕ → Option NodeAnswer → EditorFault → Type 0
TellsPath url path answer (Stop words) =
    IsUnanswered answer × (string_bytes words ≡ url ++ (path ++ codes ": was not answered"))
TellsPath url path answer OutOfMemory = ⊤
TellsPath url path answer _ = ⊥

-- one of the paths is such, and the words name it
pub record TellsUnanswered (url : List ℕ) (paths : List (List ℕ)) (answers : List NodeAnswer)
    (why : EditorFault) : Type 0 where
  pub place : ℕ
  pub path : List ℕ
  pub there : slice_get paths place ≡ Some path
  pub told : TellsPath url path (slice_get answers place) why
