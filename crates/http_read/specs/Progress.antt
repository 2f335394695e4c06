-- How far a request is read of which the first bytes are used already.
use Rattle.std.specs.Prelude.{◌≡◌, ℕ, ◌+◌, ◌<◌, ◌≤◌, List, [], ◌++◌, length, Option, Some, None}
use Rattle.httparse.specs.Grammar.{RequestHead}
use Rattle.http_read.specs.declared.heads.TheConstants.{HEAD_LIMIT}
use Rattle.http_read.specs.declared.incoming.Request.{Request}
use Rattle.http_read.specs.declared.judging.Judged.TheVariants.{Asks}
use Rattle.http_read.specs.declared.opening.Opened.{Opened}
use Rattle.http_read.specs.declared.opening.Opened.TheVariants as opened
use Rattle.http_read.specs.declared.progress.Begun.{Begun}
use Rattle.http_read.specs.declared.progress.Progress.{Progress}
use Rattle.http_read.specs.declared.awaited.Awaited.{Awaited}
use Rattle.http_read.specs.declared.progress.Progress.TheVariants.{Head, Body}
use Rattle.http_read.specs.Heads.{got, ReadsHead}
use Rattle.http_read.specs.Framings.{framing_meant, Judges}
use Rattle.http_read.specs.BodyProgress.{IsUsed, left_of, chunks_left}
use Rattle.http_read.specs.Requests.{Answers, refuses, IsCutShort, is_head}

-- how far the reading of the body is, if the head is used
abbrev pub awaited_of : Progress → Option Awaited
awaited_of Head = None
awaited_of (Body b) = Some b.body.awaits

-- the request of a begun one whose body is whole
abbrev pub asks_of : Begun → Request
asks_of b = record { method = b.passed.method; path = b.path; keep = b.passed.keep; body = b.body.bytes }

-- These bytes are used: none, or a head that passes its tests and a part of its body.
abbrev pub Resumes : Progress → List ℕ → Type 0
Resumes Head used = used ≡ []
Resumes (Body b) used =
    (head : RequestHead) × (front : List ℕ) × ReadsHead used (got head front)
    × Judges head (Asks b.passed b.path)
    × (b.of_head ≡ is_head head) × IsUsed (framing_meant b.passed.cut) b.body front

-- at most this many bytes are used until it is known what becomes of the request
abbrev pub bytes_left : Progress → ℕ
bytes_left Head = HEAD_LIMIT + chunks_left 0
bytes_left (Body b) = left_of b.body

-- a front of what was held is used, and left is what is held now
abbrev pub Advances : Progress → Progress → List ℕ → List ℕ → Type 0
Advances old new held left =
    (used : List ℕ) → Resumes old used
    → (front : List ℕ) × (held ≡ front ++ left) × Resumes new (used ++ front)

-- no more is used than may be
abbrev pub KeepsBound : Progress → Progress → List ℕ → List ℕ → Type 0
KeepsBound old new held left = length held + bytes_left new ≤ length left + bytes_left old

-- What was used and what was held end within a request; what is held is no more than a head may have, and
-- less than may be used.
pub record Waits (old new : Progress) (held left : List ℕ) : Type 0 where
  pub advances : Advances old new held left
  pub short : (used : List ℕ) → Resumes old used → IsCutShort (used ++ held)
  pub bound : KeepsBound old new held left
  pub room : length left ≤ HEAD_LIMIT
  pub wanted : length left < bytes_left new

-- no whole head; or one that passes its tests is used, and left is what follows what was used; or the request
-- is refused
abbrev pub ShowsOpened : Opened → Progress → List ℕ → List ℕ → Type 0
ShowsOpened opened.Open old held left = Waits old Head held left
ShowsOpened (opened.Head begun) old held left =
    Advances old (Body begun) held left × KeepsBound old (Body begun) held left
ShowsOpened (opened.Refused status of_head) old held left =
    (used : List ℕ) → Resumes old used → Answers (used ++ held) (refuses status of_head)
