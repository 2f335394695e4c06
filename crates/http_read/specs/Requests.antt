-- One request, read from the front of an input.
use Rattle.std.specs.Prelude.{◌≡◌, ◌≢◌, ℕ, ◌⊎◌, Bool, false, List, [], codes, bytes_eq, Some, None}
use Rattle.httparse.specs.Grammar.{RequestHead}
use Rattle.http_read.specs.Heads.{got, refused, ended, ReadsHead}
use Rattle.http_read.specs.Checks.{pairs_of, head_fault, framing_of, keeps}
use Rattle.http_read.specs.Targets.{AsksFor}
use Rattle.http_read.specs.Bodies.{ReadsBody}

-- what the server acts on; keep: the client lets the connection stay
pub record Asked : Type 0 where
  pub method : List ℕ
  pub path : List ℕ
  pub keep : Bool
  pub body : List ℕ

-- a request and the bytes after it; a refusal by its status, and whether it is of a HEAD request; an input
-- that ended within the request; or one that ended before it
pub data Heard : Type 0 where
  asks : Asked → List ℕ → Heard
  refuses : ℕ → Bool → Heard
  stops : Heard
  ends : Heard

-- the method is HEAD
abbrev pub is_head : RequestHead → Bool
is_head head = bytes_eq head.method (codes "HEAD")

-- What becomes of the bytes after a whole head: the first test that it fails, or the body.
abbrev pub Follows : RequestHead → List ℕ → Heard → Type 0
Follows head rest (asks request left) =
    (head_fault head ≡ None) × (request.method ≡ head.method) × AsksFor head.target request.path
    × (request.keep ≡ keeps head.minor (pairs_of head))
    × ReadsBody (framing_of (pairs_of head)) rest (got request.body left)
Follows head rest (refuses status of_head) =
    (of_head ≡ is_head head) × (
    (head_fault head ≡ Some status)
    ⊎ ((head_fault head ≡ None) × (status ≡ 400) × ((path : List ℕ) → ¬ (AsksFor head.target path)))
    ⊎ ((head_fault head ≡ None) × ((path : List ℕ) × AsksFor head.target path)
    × ReadsBody (framing_of (pairs_of head)) rest (refused status)))
Follows head rest stops =
    (head_fault head ≡ None) × ((path : List ℕ) × AsksFor head.target path)
    × ReadsBody (framing_of (pairs_of head)) rest ended
Follows head rest ends = ⊥

-- the input ends before the request at its front does
abbrev pub IsCutShort : List ℕ → Type 0
IsCutShort input =
    ReadsHead input ended
    ⊎ ((head : RequestHead) × (rest : List ℕ) × ReadsHead input (got head rest) × Follows head rest stops)

-- One request at the front of the input.
abbrev pub Answers : List ℕ → Heard → Type 0
Answers input (asks request left) =
    (head : RequestHead) × (rest : List ℕ) × ReadsHead input (got head rest)
    × Follows head rest (asks request left)
Answers input (refuses status of_head) =
    ((of_head ≡ false) × ReadsHead input (refused status))
    ⊎ ((head : RequestHead) × (rest : List ℕ) × ReadsHead input (got head rest)
    × Follows head rest (refuses status of_head))
Answers input stops = (input ≢ []) × IsCutShort input
Answers input ends = input ≡ []
