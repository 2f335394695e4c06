-- One more file is sorted.
use Rattle.std.proofs.Common.{◌≡◌, true, List, [], ◌∷◌, ◌++◌, string_bytes}
use Rattle.editor_folder.specs.declared.file.SiteFile.{SiteFile}
use Rattle.editor_import.specs.Pages.{IsPageOf}
use Rattle.editor_import.specs.Imports.{is_html, WhyLeft, Sorts, no_file, one_taken, one_left}
use Rattle.editor_import.specs.declared.imported.Candidate.{Candidate}
use Rattle.editor_import.specs.declared.left_out.LeftOut.{LeftOut}

module _ (taken : List Candidate) (left : List LeftOut) (file : SiteFile) where
  pub leaves : (out : LeftOut) (more : List LeftOut) → more ≡ left ++ out ∷ [] → string_bytes out.file ≡ string_bytes file.path → WhyLeft out.why file
      → (files : List SiteFile) → Sorts files taken left → Sorts (files ++ file ∷ []) taken more
  leaves out more is named why files sorts = rw is (one_left files taken left file out sorts (record { named = named; reason = why }))

  pub takes : (candidate : Candidate) (more : List Candidate) → more ≡ taken ++ candidate ∷ [] → string_bytes candidate.file ≡ string_bytes file.path
      → is_html (string_bytes file.path) ≡ true → IsPageOf candidate.page file → (files : List SiteFile) → Sorts files taken left → Sorts (files ++ file ∷ []) more left
  takes candidate more is named html page files sorts = rw is (one_taken files taken left file candidate sorts (record { named = named; html = html; page = page }))

pub nothing : (taken : List Candidate) (left : List LeftOut) → taken ≡ [] → left ≡ [] → Sorts [] taken left
nothing taken left none no_other = rw (none, no_other) no_file
