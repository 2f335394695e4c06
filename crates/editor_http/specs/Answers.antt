-- What an answer is, in the bytes that were read (RFC 9112, sections 4 and 6).
use Rattle.std.specs.Prelude.{ℕ, ◌≡◌, ◌≤◌, List, ◌++◌, length, take, codes, map, Some}
use Rattle.std.specs.Fmt.{decimal}
use Rattle.httparse.specs.Grammar.{ResponseHead, ReadsResponse, status_code}
use Rattle.httparse.specs.Spans.{name_and_value}
use Rattle.http_read.specs.Checks.{values_of}
use Rattle.http_read.specs.Spans.{head_of}
use Rattle.editor_http.specs.declared.node_answer.NodeAnswer.{NodeAnswer}
use Rattle.editor_http.specs.declared.looking.Look.{Look}
use Rattle.editor_http.specs.declared.looking.Look.TheVariants.{Whole, Open, Never}
use Rattle.editor_http.specs.declared.looking.TheConstants.{FIELDS, MAX_BODY}
use Rattle.editor_http.specs.declared.reading.TheConstants.{MOST}

-- the bytes are a head and the body after it, as long as the first Content-Length line says
pub record IsAnswer (bytes : List ℕ) (status : ℕ) (body : List ℕ) : Type 0 where
  pub head : ResponseHead
  pub reads : ReadsResponse bytes head body
  pub status_is : status ≡ status_code head
  pub stated : head_of (values_of (codes "content-length") (map name_and_value head.fields))
      ≡ Some (decimal (length body))

-- such an answer is read if it has few enough field lines and bytes
pub record IsReadable (bytes : List ℕ) (status : ℕ) (body : List ℕ) : Type 0 where
  pub is : IsAnswer bytes status body
  pub few : length is.head.fields ≤ FIELDS
  pub short : length body ≤ MAX_BODY
  pub brief : length bytes ≤ MOST

-- no beginning of the input is an answer that is read
abbrev pub HasNone : List ℕ → Type 0
HasNone input =
    (bytes rest : List ℕ) (status : ℕ) (body : List ℕ) → input ≡ bytes ++ rest → IsReadable bytes status body
    → ⊥

abbrev pub IsOf : List ℕ → NodeAnswer → Type 0
IsOf bytes answer = IsAnswer bytes answer.status answer.body.items

-- what a look at the held bytes shows: an answer of this many bytes; or none is there yet; or none will be,
-- whatever follows
abbrev pub Sees : List ℕ → Look → Type 0
Sees held (Whole answer n) = (n ≤ length held) × IsOf (take n held) answer
Sees held Open = HasNone held
Sees held Never = (more : List ℕ) → HasNone (held ++ more)
