use Rattle.std.proofs.Common.{◌≡◌, ℕ, ◌+◌, ◌<◌, ◌≤◌, None, vec_len, vec_capacity}
use Rattle.std.specs.BTreeMap.{get, btree_map_len}
use Rattle.std.specs.Ordering.{nat_cmp}
use Rattle.site_ids.specs.declared.TheConstants.{MAX_INSTANCE}
use Rattle.chosen_log.specs.LogValues.{in_either}
use Rattle.chosen_log.proofs.chosen_log.close_gap.Given as goal

abbrev pub invariant-loop-value : goal.invariant-loop-value
invariant-loop-value l =
    record {
      room : vec_len l.prefix + btree_map_len l.beyond ≤ vec_capacity l.prefix;
      few : vec_len l.prefix ≤ MAX_INSTANCE;
      within : (k : ℕ) → MAX_INSTANCE < k → get nat_cmp l.beyond k ≡ None;
      same : (k : ℕ) → in_either l.prefix.items l.beyond.entries k ≡ in_either l.fn.prefix.items l.fn.beyond.entries k;
    }

abbrev pub decreases-loop-value : goal.decreases-loop-value
decreases-loop-value l = btree_map_len l.beyond
