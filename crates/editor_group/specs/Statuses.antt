-- What is kept of a group's status, and the exit status.
use Rattle.std.specs.Prelude.{◌≡◌, ◌⊎◌, ◌==◌, ◌&&◌, ⊤, ℕ, Bool, true, false, nat_le, if◌then◌else◌, codes}
use Rattle.std.specs.Prelude.{unwrap_or, List, [], ◌∷◌, length, Option, Some, None}
use Rattle.serde_json.specs.Data.{Data, Members, null, boolean, number, unsigned, array, object, put}
use Rattle.serde_json.specs.View.{items_of}
use Rattle.site_ids.specs.declared.TheConstants.{MAX_INSTANCE}
use Rattle.editor_common.specs.Faults.{of_talk}
use Rattle.editor_common.specs.declared.talk_fault.TalkFault.{TalkFault}
use Rattle.editor_common.specs.declared.editor_fault.EditorFault.{EditorFault}
use Rattle.editor_group.specs.Addresses.{AreNamed, OneIsRefused}
use Rattle.editor_group.specs.declared.address.Address.{Address}
use Rattle.editor_group.specs.declared.status.Row.{Row}

abbrev pub is_newest : ℕ → Option ℕ → Bool
is_newest last None = false
is_newest last (Some newest) = newest == last

-- it shows the newest release of all, and the same page as the others
abbrev pub is_well : ℕ → Row → Bool
is_well last row = is_newest last row.newest && unwrap_or row.same true

abbrev pub all_well : ℕ → List Row → Bool
all_well last [] = true
all_well last (row ∷ rows) = is_well last row && all_well last rows

abbrev pub told_number : Option ℕ → Data
told_number None = null
told_number (Some n) = number (unsigned n)

abbrev pub told_truth : Option Bool → Data
told_truth None = null
told_truth (Some b) = boolean b

-- what is kept of a node has both members, beside others
abbrev pub IsNode : Row → Data → Type 0
IsNode row shown = (others : Members)
    × (shown ≡ object (put (codes "same_page") (told_truth row.same)
    (put (codes "release") (told_number row.newest) others)))

abbrev pub AreNodes : List Row → List Data → Type 0
AreNodes [] [] = ⊤
AreNodes [] (d ∷ ds) = ⊥
AreNodes (row ∷ rows) [] = ⊥
AreNodes (row ∷ rows) (d ∷ ds) = IsNode row d × AreNodes rows ds

-- n nodes are kept, and the newest release of all; `well` says whether all is well with each of them
pub record TellsNodes (n last : ℕ) (well : Bool) (now : Members) : Type 0 where
  pub rows : List Row
  pub as_many : length rows ≡ n
  pub nodes : List Data
  pub are : AreNodes rows nodes
  pub before : Members
  pub kept_is : now ≡ put (codes "release") (number (unsigned last))
      (put (codes "nodes") (array (items_of nodes)) before)
  pub well_is : well ≡ all_well last rows

-- how many commands there are at least, if that is known, and at most
abbrev pub TellsCommands : Members → Members → Type 0
TellsCommands old now = (least : Data)
    × (now ≡ put (codes "commands_at_most") (number (unsigned MAX_INSTANCE))
    (put (codes "commands_at_least") least old))

-- whether a folder's release is shown, if `last` is the newest release of all; none if the folder has no
-- release
abbrev pub shows_folder : ℕ → ℕ → Option Bool
shows_folder release last = if release == 0 then None else Some (nat_le release last)

-- how each of the n nodes is, is kept; the status is 0 if all is well with each of them, and the folder's
-- release is shown
pub record EndsStatus (n release status : ℕ) (now : Members) : Type 0 where
  pub last : ℕ
  pub well : Bool
  pub told : Members
  pub tells : TellsNodes n last well told
  pub least : Data
  pub kept_is : now ≡ put (codes "shows_folder") (told_truth (shows_folder release last))
      (put (codes "commands_at_most") (number (unsigned MAX_INSTANCE))
      (put (codes "commands_at_least") least told))
  pub status_is : status ≡ (if well && nat_le release last then 0 else 1)

-- why no status is printed: one of the URLs names no node; or each names one, and a line could not be
-- written, the clock could not be read, or an allocation failed
abbrev pub EndsTelling : {X : Type 0} → (X → List ℕ) → List X → EditorFault → Type 0
EndsTelling url_of urls why =
    OneIsRefused url_of urls why
    ⊎ ((nodes : List Address) × (fault : TalkFault) × AreNamed url_of urls nodes × (why ≡ of_talk fault))
