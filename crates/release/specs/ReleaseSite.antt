-- The site of a release.
use Rattle.std.specs.Prelude.{ℕ, List}
use Rattle.command.specs.Effective.{effective}
use Rattle.command.specs.Releases.{through}
use Rattle.content.specs.View.{ContentsSeen}
use Rattle.content.specs.Standing.{HasContents}

-- the site of release n: it has what that release's list leaves
abbrev pub IsSiteOfRelease : List (List ℕ) → ℕ → ContentsSeen → Type 0
IsSiteOfRelease values n site = HasContents site (through (effective values) n)
