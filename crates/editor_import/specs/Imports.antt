-- What becomes of a generator's files.
use Rattle.std.specs.Prelude.{◌≡◌, ℕ, Bool, true, false, nat_eq, List, [], ◌∷◌, ◌++◌, codes, string_bytes}
use Rattle.std.specs.List.{ends_with}
use Rattle.editor_folder.specs.declared.file.SiteFile.{SiteFile}
use Rattle.editor_import.specs.Pages.{IsPageOf, IsLeftOut}
use Rattle.editor_import.specs.declared.imported.Candidate.{Candidate}
use Rattle.editor_import.specs.declared.imported.Gathering.{Gathering}
use Rattle.editor_import.specs.declared.imported.Imported.{Imported}
use Rattle.editor_import.specs.declared.left_out.LeftOut.{LeftOut}
use Rattle.editor_import.specs.declared.left_out.NotTaken.{NotTaken}
use Rattle.editor_import.specs.declared.left_out.NotTaken.TheVariants.{Other, NoText, NoCommand}

-- the name of a page's file ends so
abbrev pub is_html : List ℕ → Bool
is_html path = ends_with nat_eq path (codes ".html")

-- a file is left out if it is not a page, or if its text or its commands are invalid
abbrev pub WhyLeft : NotTaken → SiteFile → Type 0
WhyLeft Other file = is_html (string_bytes file.path) ≡ false
WhyLeft NoText file = IsLeftOut NoText file
WhyLeft (NoCommand fault) file = IsLeftOut (NoCommand fault) file

pub record IsLeft (left : LeftOut) (file : SiteFile) : Type 0 where
  pub named : string_bytes left.file ≡ string_bytes file.path
  pub reason : WhyLeft left.why file

pub record IsTaken (candidate : Candidate) (file : SiteFile) : Type 0 where
  pub named : string_bytes candidate.file ≡ string_bytes file.path
  pub html : is_html (string_bytes file.path) ≡ true
  pub page : IsPageOf candidate.page file

-- each file is taken or left out, in order
pub data Sorts : List SiteFile → List Candidate → List LeftOut → Type 0 where
  no_file : Sorts [] [] []
  one_taken : (files : List SiteFile) (taken : List Candidate) (left : List LeftOut) (file : SiteFile)
      (candidate : Candidate)
      → Sorts files taken left → IsTaken candidate file
      → Sorts (files ++ file ∷ []) (taken ++ candidate ∷ []) left
  one_left : (files : List SiteFile) (taken : List Candidate) (left : List LeftOut) (file : SiteFile)
      (out : LeftOut)
      → Sorts files taken left → IsLeft out file → Sorts (files ++ file ∷ []) taken (left ++ out ∷ [])

-- one more file is taken or left out
abbrev pub SortsAnother : Gathering → Gathering → SiteFile → Type 0
SortsAnother before after file =
    (files : List SiteFile) → Sorts files before.candidates.items before.left_out.items
    → Sorts (files ++ file ∷ []) after.candidates.items after.left_out.items

-- the files that are reported as left out are exactly those that are not taken
abbrev pub IsImportOf : Imported → List SiteFile → Type 0
IsImportOf made files = (taken : List Candidate) × Sorts files taken made.left_out.items
