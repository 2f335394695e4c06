-- Which paths are taken over, by what a node answers for each of them.
use Rattle.std.specs.Prelude.{ℕ, ◌+◌, ◌&&◌, not, List, [], ◌∷◌, Bool, false, if◌then◌else◌}
use Rattle.std.specs.Prelude.{Option, Some, None, slice_get, unwrap_or, Vec}
use Rattle.std.specs.List.{list_any}
use Rattle.std.specs.declared.alloc.Global.{Global}
use Rattle.editor_folder.specs.declared.views.View.{View}
use Rattle.editor_http.specs.declared.node_answer.NodeAnswer.{NodeAnswer}
use Rattle.editor_plan.specs.Takings.{is_taken}
use Rattle.editor_shown.specs.declared.which.Which.{Which}
use Rattle.editor_shown.specs.declared.which.Which.TheVariants.{Taken, Others, Fresh}
use Rattle.editor_shown.specs.Comparing.{shows}

abbrev pub shows_some : NodeAnswer → Option View → Bool
shows_some answer None = false
shows_some answer (Some view) = shows answer view

-- in one of the states the folder's view at that place is what was answered
abbrev pub is_own : NodeAnswer → ℕ → List (Vec View Global) → Bool
is_own answer place states = list_any (λ views. shows_some answer (slice_get views.items place)) states

-- some state shows it so, and the first one, that of the folder's last release, does not
abbrev pub is_fresh : NodeAnswer → ℕ → List (Vec View Global) → Bool
is_fresh answer place [] = false
is_fresh answer place (released ∷ since) =
    is_own answer place (released ∷ since) && not (shows_some answer (slice_get released.items place))

-- a path is taken over; or is not the folder's own, even if nothing is there any more; or shows what the
-- folder has put since its last release
abbrev pub has : Which → NodeAnswer → ℕ → List (Vec View Global) → Bool
has Taken answer place states = unwrap_or (is_taken answer.status (is_own answer place states)) false
has Others answer place states = not (is_own answer place states)
has Fresh answer place states = is_fresh answer place states

-- those of the paths, of which the first has that place
abbrev pub those_of : Which → List (Vec View Global) → ℕ → List (List ℕ) → List NodeAnswer → List (List ℕ)
those_of which states place [] answers = []
those_of which states place (path ∷ paths) [] = []
those_of which states place (path ∷ paths) (answer ∷ answers) =
    if has which answer place states
    then path ∷ those_of which states (place + 1) paths answers
    else those_of which states (place + 1) paths answers
