-- How messages and records spell a ballot.
use Rattle.std.specs.Prelude.{ℕ, List, [], ◌∷◌, ◌++◌}
use Rattle.byteorder.specs.Endian.{big_bytes}
use Rattle.site_ids.specs.Ids.{BallotOf}

-- the round in four bytes, the highest first, and the node
abbrev pub ballot_bytes : BallotOf → List ℕ
ballot_bytes b = big_bytes 4 b.round ++ b.node ∷ []
