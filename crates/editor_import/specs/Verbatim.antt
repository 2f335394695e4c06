-- Templates that show a page as it is.
use Rattle.std.specs.Prelude.{◌≡◌, ℕ, ◌+◌, Bool, ◌==◌, List, [], ◌∷◌, ◌++◌, count_by, codes, Ok}
use Rattle.std.specs.List.{repeat}
use Rattle.context.specs.Whole.{Whole}
use Rattle.mustache_parse.specs.Tree.{Tree, tree_of}
use Rattle.render.specs.Meaning.{Partials, prints, rendering, within_limit}

abbrev pub is_caret : ℕ → Bool
is_caret b = b == 94

-- one caret more than the page has
abbrev pub carets : List ℕ → List ℕ
carets page = repeat (count_by is_caret page + 1) (94 ∷ [])

-- the page after a line that makes these the delimiters
abbrev pub verbatim : List ℕ → List ℕ
verbatim page = codes "{{=" ++ (carets page ++ (codes " " ++ (carets page ++ (codes "=}}\n" ++ page))))

-- The template can be read, and whatever partials and data there are, the page is what it renders to, if a
-- page may be so long.
pub record Shows (template page : List ℕ) : Type 0 where
  pub tree : Tree
  pub reads : tree_of template ≡ Ok tree
  pub shows : (partials : Partials) (given : Whole)
      → rendering partials tree given ≡ within_limit (prints page)
