-- An allocation that fails at one of the paths.
use Rattle.std.proofs.Common.{◌≡◌, ◌<◌, ℕ, List, Result, Ok, Err, IfErr, get_or, length, map}
use Rattle.std.proofs.Common.{refl, sym, ap, subst, ◌∙◌}
use Rattle.std.specs.List.{slice_get}
use Rattle.std.specs.Option.{option_map}
use Rattle.std.specs.Result.{IsErrAnd}
use Rattle.std.proofs.lemmas.Option.{slice_get-map, slice_get_read}
use Rattle.editor_common.specs.declared.editor_fault.EditorFault.{EditorFault}
use Rattle.editor_common.specs.declared.editor_fault.EditorFault.TheVariants.{OutOfMemory}
use Rattle.editor_http.specs.declared.node_answer.NodeAnswer.{NodeAnswer}
use Rattle.editor_shown.specs.Unanswered.{TellsPath, TellsUnanswered}

module _ {T X : Type 0} (url : List ℕ) (text : X → List ℕ) (paths : List X) (answers : List NodeAnswer) where
  pub out_of_memory : (place : ℕ) (path : X) → place < length paths → path ≡ get_or paths place path
      → (r : Result T EditorFault) → IsErrAnd r (λ e. e ≡ OutOfMemory) → IfErr r (TellsUnanswered url (map text paths) answers)
  out_of_memory place path within is (Ok x) failed = absurd failed
  out_of_memory place path within is (Err e) failed = record {
    place = place;
    path = text path;
    there = slice_get-map text paths place
        ∙ ap (option_map text) (slice_get_read paths (length paths) place path refl within is);
    told = subst (TellsPath url (text path) (slice_get answers place)) (sym failed) tt;
  }
