-- How far a body is read.
use Rattle.std.specs.Prelude.{◌≡◌, ℕ, ◌+◌, ◌-◌, ◌*◌, ◌<◌, ◌≤◌, List, [], ◌++◌, length, Option, Some, None}
use Rattle.httparse.specs.Grammar.{ChunkLine, print_chunk_line, chunk_size}
use Rattle.http_read.specs.declared.heads.TheConstants.{HEAD_LIMIT}
use Rattle.http_read.specs.declared.lines.TheConstants.{LINE_LIMIT}
use Rattle.http_read.specs.declared.lengths.TheConstants.{BODY_LIMIT}
use Rattle.http_read.specs.declared.awaited.Awaited.{Awaited}
use Rattle.http_read.specs.declared.awaited.Awaited.TheVariants.{Fixed, Line, Chunk, Break, Trailer}
use Rattle.http_read.specs.declared.body.Body.{Body}
use Rattle.http_read.specs.declared.body.BodyRead.{BodyRead}
use Rattle.http_read.specs.declared.body.BodyRead.TheVariants.{Open, Whole, Refused}
use Rattle.http_read.specs.Heads.{got, refused, ended}
use Rattle.http_read.specs.Checks.{Framing, fixed, chunked}
use Rattle.http_read.specs.Bodies as bodies
use Rattle.http_read.specs.Bodies.{IsShortLine, BeginsWithChunks, chunks_joined, ReadsBody}

-- whole chunks are used
pub record IsAfterChunks (bytes used : List ℕ) : Type 0 where
  pub chunks : List bodies.Chunk
  pub begins : BeginsWithChunks used chunks []
  pub joined : bytes ≡ chunks_joined chunks

-- whole chunks are used, the line of one more, and a part of its bytes, of which `missing` are missing
pub record IsWithinChunk (missing : ℕ) (bytes used : List ℕ) : Type 0 where
  pub chunks : List bodies.Chunk
  pub line : ChunkLine
  pub part : List ℕ
  pub begins : BeginsWithChunks used chunks (print_chunk_line line ++ part)
  pub is_line : IsShortLine line
  pub size : chunk_size line ≡ length part + missing
  pub some : 0 < chunk_size line
  pub joined : bytes ≡ chunks_joined chunks ++ part
  pub small : length bytes + missing ≤ BODY_LIMIT

-- whole chunks are used, and the line of the last one
pub record IsAfterLastLine (bytes used : List ℕ) : Type 0 where
  pub chunks : List bodies.Chunk
  pub line : ChunkLine
  pub begins : BeginsWithChunks used chunks (print_chunk_line line)
  pub is_line : IsShortLine line
  pub last : chunk_size line ≡ 0
  pub joined : bytes ≡ chunks_joined chunks

-- of a body that is framed so these bytes are used before what comes next, and those of them that count are
-- bytes
abbrev pub IsUsedUpTo : Framing → Awaited → List ℕ → List ℕ → Type 0
IsUsedUpTo framing (Fixed missing) bytes used = (framing ≡ fixed (length bytes + missing)) × (used ≡ bytes)
IsUsedUpTo framing Line bytes used = (framing ≡ chunked) × IsAfterChunks bytes used
IsUsedUpTo framing (Chunk missing) bytes used = (framing ≡ chunked) × IsWithinChunk missing bytes used
IsUsedUpTo framing Break bytes used = (framing ≡ chunked) × IsWithinChunk 0 bytes used
IsUsedUpTo framing Trailer bytes used = (framing ≡ chunked) × IsAfterLastLine bytes used

abbrev pub IsUsed : Framing → Body → List ℕ → Type 0
IsUsed framing body used = IsUsedUpTo framing body.awaits body.bytes.items used

-- after n bytes of the body, chunks use at most this many bytes: a chunk of one byte has a line and a break
abbrev pub chunks_left : ℕ → ℕ
chunks_left n = (LINE_LIMIT + 3) * (BODY_LIMIT - n) + LINE_LIMIT + HEAD_LIMIT + 1

-- at most this many bytes of the input are used until it is known what becomes of the body
abbrev pub bytes_left : Awaited → ℕ → ℕ
bytes_left (Fixed missing) n = missing
bytes_left Line n = chunks_left n
bytes_left (Chunk missing) n = missing + 2 + chunks_left (n + missing)
bytes_left Break n = 2 + chunks_left n
bytes_left Trailer n = HEAD_LIMIT + 1

abbrev pub left_of : Body → ℕ
left_of body = bytes_left body.awaits (length body.bytes.items)

-- a front of what was held is used, and left is what is held now
abbrev pub GoesOn : Body → Body → List ℕ → List ℕ → Type 0
GoesOn old new held left =
    (framing : Framing) (used : List ℕ) → IsUsed framing old used
    → (front : List ℕ) × (held ≡ front ++ left) × IsUsed framing new (used ++ front)

-- no more is used than may be
abbrev pub KeepsBound : Body → Body → List ℕ → List ℕ → Type 0
KeepsBound old new held left = length held + left_of new ≤ length left + left_of old

-- What was used and what was held are a part of the body; what is held is less than a head may have, and than
-- may be used.
pub record Waits (old new : Body) (held left : List ℕ) : Type 0 where
  pub goes_on : GoesOn old new held left
  pub short : (framing : Framing) (used : List ℕ) → IsUsed framing old used
      → ReadsBody framing (used ++ held) ended
  pub bound : KeepsBound old new held left
  pub room : length left ≤ HEAD_LIMIT
  pub wanted : length left < left_of new

-- what was used and what was held are a part of the body, or have a whole one, or are refused
abbrev pub ShowsRead : BodyRead → Body → Body → List ℕ → List ℕ → Type 0
ShowsRead Open old new held left = Waits old new held left
ShowsRead Whole old new held left =
    (framing : Framing) (used : List ℕ) → IsUsed framing old used
    → ReadsBody framing (used ++ held) (got new.bytes.items left)
ShowsRead (Refused status) old new held left =
    (framing : Framing) (used : List ℕ) → IsUsed framing old used
    → ReadsBody framing (used ++ held) (refused status)

-- this falls with each step: a step uses two bytes or more, except the one to a line break
abbrev pub steps_left : Awaited → List ℕ → ℕ
steps_left Break held = length held
steps_left (Fixed missing) held = length held + 1
steps_left Line held = length held + 1
steps_left (Chunk missing) held = length held + 1
steps_left Trailer held = length held + 1

-- a step to what comes next
pub record Steps (old new : Body) (held left : List ℕ) : Type 0 where
  pub goes_on : GoesOn old new held left
  pub bound : KeepsBound old new held left
  pub falls : steps_left new.awaits left < steps_left old.awaits held

-- a step, or what comes of reading
abbrev pub ShowsStep : Option BodyRead → Body → Body → List ℕ → List ℕ → Type 0
ShowsStep None old new held left = Steps old new held left
ShowsStep (Some read) old new held left = ShowsRead read old new held left
