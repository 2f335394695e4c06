-- What reading a line break or a trailer section shows.
use Rattle.std.specs.Prelude.{◌≡◌, ℕ, ◌<◌, ◌≤◌, List, ◌++◌, length, take}
use Rattle.httparse.specs.Ascii.{crlf_bytes}
use Rattle.httparse.specs.Grammar.{Field}
use Rattle.http_read.specs.declared.breaks.BreakRead.{BreakRead}
use Rattle.http_read.specs.declared.breaks.BreakRead.TheVariants as break
use Rattle.http_read.specs.declared.trailers.TrailerRead.{TrailerRead}
use Rattle.http_read.specs.declared.trailers.TrailerRead.TheVariants as trailer
use Rattle.http_read.specs.Heads.{got, refused, ended, ReadsTrailer}

-- fewer than two bytes; or two others; or a line break was there, and left is what follows it
abbrev pub ShowsBreak : BreakRead → List ℕ → List ℕ → Type 0
ShowsBreak break.Open held left = (length held < 2) × (left ≡ held)
ShowsBreak break.Wrong held left = (2 ≤ length held) × ¬ (take 2 held ≡ crlf_bytes)
ShowsBreak break.Passed held left = held ≡ crlf_bytes ++ left

-- the bytes end within the section; or one was there, and left is what follows it; or it is refused
abbrev pub ShowsTrailer : TrailerRead → List ℕ → List ℕ → Type 0
ShowsTrailer trailer.Open held left = ReadsTrailer held ended × (left ≡ held)
ShowsTrailer trailer.Whole held left = (fields : List Field) × ReadsTrailer held (got fields left)
ShowsTrailer (trailer.Refused status) held left = ReadsTrailer held (refused status)
