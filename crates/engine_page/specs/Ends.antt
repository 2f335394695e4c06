-- How a run of the renderer ends.
use Rattle.std.specs.Prelude.{ℕ, ◌≡◌, ◌⊎◌, ◌==◌, List, codes, Option, if◌then◌else◌}
use Rattle.http_read.specs.Bytes.{End, HasFailed, IsRead, IsSilent, IsWritten, IsBroken, IsGiven}
use Rattle.release.specs.Page.{Page}
use Rattle.engine_page.specs.Verdict.{IsVerdict, shows, says}

-- the whole body, and nothing else
pub record Shown (reader out err : End) (asked : Option ℕ) (path : List ℕ) (status : ℕ) : Type 0 where
  pub input : List ℕ
  pub read : IsRead reader input
  pub page : Page
  pub is : IsVerdict input asked path (shows page)
  pub written : IsWritten out page.body
  pub silent : IsSilent err
  pub status_is : status ≡ (if page.status == 200 then 0 else 1)

-- a beginning of the body, as the writer failed, and then a line
pub record Broken (reader out err : End) (asked : Option ℕ) (path : List ℕ) (status : ℕ) : Type 0 where
  pub input : List ℕ
  pub read : IsRead reader input
  pub page : Page
  pub is : IsVerdict input asked path (shows page)
  pub broken : IsBroken out page.body
  pub said : IsGiven err (codes "write failed\n")
  pub status_is : status ≡ 1

-- the line is the verdict's, or says that the reader or an allocation failed
abbrev pub IsRefusal : End → Option ℕ → List ℕ → List ℕ → Type 0
IsRefusal reader asked path line =
    ((input : List ℕ) × IsRead reader input × IsVerdict input asked path (says line))
    ⊎ ((line ≡ codes "read failed\n") × HasFailed reader)
    ⊎ (line ≡ codes "out of memory\n")

-- one line, and nothing else
pub record Refused (reader out err : End) (asked : Option ℕ) (path : List ℕ) (status : ℕ) : Type 0 where
  pub line : List ℕ
  pub why : IsRefusal reader asked path line
  pub silent : IsSilent out
  pub said : IsGiven err line
  pub status_is : status ≡ 1

-- one page or one line, and the status that goes with it
abbrev pub HasRun : End → End → End → Option ℕ → List ℕ → ℕ → Type 0
HasRun reader out err asked path status =
    Shown reader out err asked path status ⊎ Broken reader out err asked path status
    ⊎ Refused reader out err asked path status
