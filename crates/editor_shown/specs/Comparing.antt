-- Whether a release shows a folder.
use Rattle.std.specs.Prelude.{ℕ, ◌==◌, ◌&&◌, ◌||◌, not, Bool, string_bytes}
use Rattle.std.specs.Str.{bytes_eq}
use Rattle.editor_folder.specs.declared.views.View.{View}
use Rattle.editor_http.specs.declared.node_answer.NodeAnswer.{NodeAnswer}

-- the answer is what the view shows
abbrev pub shows : NodeAnswer → View → Bool
shows answer view = answer.status == view.status && bytes_eq answer.body.items (string_bytes view.body)

-- a release has to show each page of the folder; and nothing at a path without a page, if a text of the
-- publication is about the path. It may show anything at a path that is left to another editor
abbrev pub is_compared : ℕ → Bool → Bool → Bool
is_compared status touched left = (not (status == 404) || touched) && not left
