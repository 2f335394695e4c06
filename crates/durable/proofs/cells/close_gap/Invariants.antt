use Rattle.std.proofs.Common.{◌≡◌, ℕ, ◌+◌, ◌≤◌, vec_len, vec_capacity}
use Rattle.std.specs.BTreeMap.{btree_map_len}
use Rattle.durable.specs.Cells.{found_in}
use Rattle.durable.proofs.cells.close_gap.Given as goal

abbrev pub invariant-loop-beyond : goal.invariant-loop-beyond
invariant-loop-beyond l =
    record {
      room : vec_len l.prefix + btree_map_len l.beyond ≤ vec_capacity l.prefix;
      same : (at : ℕ) → found_in l.prefix.items l.beyond.entries at ≡ found_in l.fn.prefix.items l.fn.beyond.entries at;
    }

abbrev pub decreases-loop-beyond : goal.decreases-loop-beyond
decreases-loop-beyond l = btree_map_len l.beyond
