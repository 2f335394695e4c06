-- The page of a file, and why a file has none.
use Rattle.std.specs.Prelude.{◌≡◌, ◌⊎◌, ℕ, List, ◌++◌, codes, Err, IsUtf8, string_bytes}
use Rattle.command.specs.Reading.{value_reading}
use Rattle.command.specs.Written.{value_of}
use Rattle.command.specs.declared.fault.CommandFault.{CommandFault}
use Rattle.editor_command.specs.Texts.{IsCommandText, nobodys}
use Rattle.editor_folder.specs.declared.file.SiteFile.{SiteFile}
use Rattle.editor_import.specs.Routes.{IsRoute}
use Rattle.editor_import.specs.Verbatim.{verbatim, Shows}
use Rattle.editor_import.specs.declared.imported_page.ImportedPage.{ImportedPage}
use Rattle.editor_import.specs.declared.left_out.NotTaken.{NotTaken}
use Rattle.editor_import.specs.declared.left_out.NotTaken.TheVariants.{Other, NoText, NoCommand}

-- the two commands of a page
abbrev pub template_text : ImportedPage → List ℕ
template_text p = codes "put template " ++ (string_bytes p.name ++ (codes "\n" ++ string_bytes p.template))

abbrev pub route_text : ImportedPage → List ℕ
route_text p =
    codes "put route " ++ (string_bytes p.path ++ (codes " " ++ (string_bytes p.name ++ codes " none\n")))

pub record IsPut (p : ImportedPage) : Type 0 where
  pub template : IsCommandText (template_text p)
  pub route : IsCommandText (route_text p)

-- the text is not a command, and this is its fault
abbrev pub FaultOf : List ℕ → CommandFault → Type 0
FaultOf text fault = value_reading (value_of nobodys text) ≡ Err fault

abbrev pub WhyNot : ImportedPage → CommandFault → Type 0
WhyNot p fault = FaultOf (template_text p) fault ⊎ FaultOf (route_text p) fault

-- the page has the file's path, and shows its text
pub record IsDraft (p : ImportedPage) (file text : List ℕ) : Type 0 where
  pub at_route : IsRoute (string_bytes p.path) file
  pub template_is : string_bytes p.template ≡ verbatim text
  pub shows : Shows (string_bytes p.template) text

-- and its commands are valid
pub record IsPageOf (p : ImportedPage) (file : SiteFile) : Type 0 where
  pub draft : IsDraft p (string_bytes file.path) file.bytes.items
  pub put : IsPut p

-- A file has no page: it is not text, or one of the commands of its page is invalid.
abbrev pub IsLeftOut : NotTaken → SiteFile → Type 0
IsLeftOut Other file = ⊥
IsLeftOut NoText file = ¬ (IsUtf8 file.bytes.items)
IsLeftOut (NoCommand fault) file =
    (p : ImportedPage) × IsDraft p (string_bytes file.path) file.bytes.items × WhyNot p fault
