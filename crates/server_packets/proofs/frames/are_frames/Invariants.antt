use Rattle.std.proofs.Common.{◌≡◌, ◌≤◌, List, ℕ, length}
use Rattle.server_packets.specs.Packets.{framed_all}
use Rattle.server_packets.proofs.frames.are_frames.Given as goal

abbrev pub invariant-loop-behind : goal.invariant-loop-behind
invariant-loop-behind l = record {
  passed : (ds : List (List ℕ)) → l.rest ≡ framed_all ds → (es : List (List ℕ)) × (l.frames ≡ framed_all es);
  left : (es : List (List ℕ)) → l.frames ≡ framed_all es → (ds : List (List ℕ)) × (l.rest ≡ framed_all ds);
  short : length l.rest ≤ length l.frames;
}

abbrev pub decreases-loop-behind : goal.decreases-loop-behind
decreases-loop-behind l = length l.rest
