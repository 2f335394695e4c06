-- The path of a file's page.
use Rattle.std.specs.Prelude.{◌≡◌, ◌≢◌, ℕ, List, ◌∷◌, ◌++◌, codes}

-- that of an index.html is its folder's, with a slash at its end, and that of another file is the file's own
pub record IsRoute (path file : List ℕ) : Type 0 where
  pub of_index : (folder : List ℕ) → 47 ∷ file ≡ folder ++ codes "/index.html" → path ≡ folder ++ codes "/"
  pub of_other : ((folder : List ℕ) → 47 ∷ file ≢ folder ++ codes "/index.html") → path ≡ 47 ∷ file
