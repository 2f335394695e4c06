-- The three words of a frame's line, and what follows the line.
use Rattle.std.specs.Prelude.{ℕ, List}
use Rattle.engine_common.specs.Cuts.{IsCut}

pub record Words : Type 0 where
  pub editor : List ℕ
  pub number : List ℕ
  pub length_word : List ℕ
  pub after : List ℕ

-- a line ends at the first newline, and its words at the first two spaces
pub record HasWords (bytes : List ℕ) (w : Words) : Type 0 where
  pub line : List ℕ
  pub others : List ℕ
  pub ends : IsCut 10 bytes line w.after
  pub first : IsCut 32 line w.editor others
  pub second : IsCut 32 others w.number w.length_word
