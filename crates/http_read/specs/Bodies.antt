-- The body of a request (RFC 9112, sections 6 and 7.1).
use Rattle.std.specs.Prelude.{◌≡◌, ◌≢◌, ℕ, ◌-◌, slice_index, ◌+◌, ◌<◌, ◌≤◌, ◌⊎◌, List, ◌++◌, length, take}
use Rattle.std.specs.Prelude.{drop, All}
use Rattle.std.specs.List.{flat_map}
use Rattle.http_read.specs.declared.lines.TheConstants.{LINE_LIMIT}
use Rattle.http_read.specs.declared.lengths.TheConstants.{BODY_LIMIT}
use Rattle.httparse.specs.Ascii.{line_feed, crlf_bytes}
use Rattle.httparse.specs.Grammar.{ChunkLine, IsChunkLine, print_chunk_line, chunk_size, Field}
use Rattle.http_read.specs.Heads.{Reading, got, refused, ended, ReadsTrailer}
use Rattle.http_read.specs.Checks.{Framing, fixed, chunked}

-- a chunk: its line, and its bytes
pub record Chunk : Type 0 where
  pub line : ChunkLine
  pub bytes : List ℕ

-- the input's first n bytes are its first line, of at most 256 bytes, its line feed included
pub record IsFirstLine (input : List ℕ) (n : ℕ) : Type 0 where
  pub some : 0 < n
  pub within : n ≤ length input
  pub short : n ≤ LINE_LIMIT
  pub feed : slice_index input (n - 1) ≡ line_feed
  pub before : (k : ℕ) → k + 1 < n → slice_index input k ≢ line_feed

-- no line feed is among the first 256 bytes
abbrev pub HasNoFeed : List ℕ → Type 0
HasNoFeed input = (k : ℕ) → k < LINE_LIMIT → k < length input → slice_index input k ≢ line_feed

-- a chunk line has at most 256 bytes
pub record IsShortLine (line : ChunkLine) : Type 0 where
  pub well_formed : IsChunkLine line
  pub short : length (print_chunk_line line) ≤ LINE_LIMIT

-- the line is short and states the number of the bytes, which is not 0
pub record IsChunk (chunk : Chunk) : Type 0 where
  pub line : IsShortLine chunk.line
  pub size : chunk_size chunk.line ≡ length chunk.bytes
  pub some : 0 < length chunk.bytes

-- line, bytes and a line break
abbrev pub print_chunk : Chunk → List ℕ
print_chunk chunk = print_chunk_line chunk.line ++ chunk.bytes ++ crlf_bytes

-- the bytes of the chunks, one after another
abbrev pub chunks_joined : List Chunk → List ℕ
chunks_joined chunks = flat_map (λ chunk. chunk.bytes) chunks

-- the input begins with these chunks, of at most 40,000 bytes together, and tail follows
pub record BeginsWithChunks (input : List ℕ) (chunks : List Chunk) (tail : List ℕ) : Type 0 where
  pub each : All IsChunk chunks
  pub whole : input ≡ flat_map print_chunk chunks ++ tail
  pub small : length (chunks_joined chunks) ≤ BODY_LIMIT

-- tail begins with this chunk line, and rest follows
pub record BeginsWithLine (tail : List ℕ) (line : ChunkLine) (rest : List ℕ) : Type 0 where
  pub is_line : IsShortLine line
  pub whole : tail ≡ print_chunk_line line ++ rest

-- the first line is too long, or it is not a chunk line
abbrev pub IsNoLine : List ℕ → Type 0
IsNoLine tail =
    ((LINE_LIMIT ≤ length tail) × HasNoFeed tail)
    ⊎ ((n : ℕ) × IsFirstLine tail n
    × ((line : ChunkLine) → IsChunkLine line → ¬ (take n tail ≡ print_chunk_line line)))

-- the input ends within the first line
pub record IsCutLine (tail : List ℕ) : Type 0 where
  pub open_end : HasNoFeed tail
  pub short : length tail < LINE_LIMIT

-- What the chunks end with, after this many bytes of them.
-- got: the line of the last chunk and the trailer section.
abbrev pub EndsChunks : ℕ → List ℕ → Reading (List Field) → Type 0
EndsChunks so_far tail (got fields rest) =
    (line : ChunkLine) × (behind : List ℕ) × BeginsWithLine tail line behind × (chunk_size line ≡ 0)
    × ReadsTrailer behind (got fields rest)
EndsChunks so_far tail (refused status) =
    ((status ≡ 400) × IsNoLine tail)
    ⊎ ((line : ChunkLine) × (behind : List ℕ) × BeginsWithLine tail line behind × (
    ((status ≡ 413) × (BODY_LIMIT < so_far + chunk_size line))
    ⊎ ((status ≡ 400) × (0 < chunk_size line) × (so_far + chunk_size line ≤ BODY_LIMIT)
    × (chunk_size line + 2 ≤ length behind) × ¬ (take 2 (drop (chunk_size line) behind) ≡ crlf_bytes))
    ⊎ ((chunk_size line ≡ 0) × ReadsTrailer behind (refused status))))
EndsChunks so_far tail ended =
    IsCutLine tail
    ⊎ ((line : ChunkLine) × (behind : List ℕ) × BeginsWithLine tail line behind × (
    ((0 < chunk_size line) × (so_far + chunk_size line ≤ BODY_LIMIT) × (length behind < chunk_size line + 2))
    ⊎ ((chunk_size line ≡ 0) × ReadsTrailer behind ended)))

-- a body by chunks: whole chunks, and then what ends them
abbrev pub ReadsChunks : List ℕ → Reading (List ℕ) → Type 0
ReadsChunks input (got body rest) =
    (chunks : List Chunk) × (tail : List ℕ) × BeginsWithChunks input chunks tail
    × (body ≡ chunks_joined chunks)
    × ((fields : List Field) × EndsChunks (length body) tail (got fields rest))
ReadsChunks input (refused status) =
    (chunks : List Chunk) × (tail : List ℕ) × BeginsWithChunks input chunks tail
    × EndsChunks (length (chunks_joined chunks)) tail (refused status)
ReadsChunks input ended =
    (chunks : List Chunk) × (tail : List ℕ) × BeginsWithChunks input chunks tail
    × EndsChunks (length (chunks_joined chunks)) tail ended

-- a body: as many bytes as the head says, or chunks
abbrev pub ReadsBody : Framing → List ℕ → Reading (List ℕ) → Type 0
ReadsBody (fixed n) input (got body rest) = (length body ≡ n) × (input ≡ body ++ rest)
ReadsBody (fixed n) input (refused status) = ⊥
ReadsBody (fixed n) input ended = length input < n
ReadsBody chunked input reading = ReadsChunks input reading
