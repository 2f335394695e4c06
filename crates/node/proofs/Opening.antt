-- A record that was opened, and a node with nothing else.
use Rattle.std.proofs.Common.{◌≡◌, ℕ, cond, Some, None, List, [], refl, sym, ap, subst}
use Rattle.std.specs.Prelude.{slice_get}
use Rattle.site_disk.specs.Model.{DiskState, after_sync}
use Rattle.durable.specs.Entries.{Entry}
use Rattle.durable.specs.Histories.{IsHistory}
use Rattle.durable.specs.Keeping.{Keeps}
use Rattle.durable.specs.Ready.{IsOpened}
use Rattle.durable.specs.Standing.{StandsFor}
use Rattle.durable.proofs.Keeping.{settled_keeps, opening_settles}
use Rattle.learner.specs.ToldVotes.{ToldVote}
use Rattle.learner.specs.Votes.{IsTold}
use Rattle.proposer.specs.Standing.{Attempting}
use Rattle.node.specs.declared.node.Node.{Node as Running}
use Rattle.node.specs.Nodes.{Value, Up, Stopped}
use Rattle.node.specs.Knowing.{AreKnown}
use Rattle.node.specs.Standing.{OpensAs}
use Rattle.node.specs.Waiting.{AreWaiting}
use Rattle.node.proofs.Ranging.{opens_in_range}
use Rattle.node.proofs.Tidying.{opens_tidy}

module _ {D : Type 0} (stands_for : D → DiskState → Type 0) (disk : D) (code : Running D) (entries : List Entry) where
  pub opens : IsOpened stands_for disk code.store entries → ((t : ToldVote) → ¬ IsTold code.learner t) → AreKnown code.known [] (λ i. None) → Attempting code.proposer (λ i. None) → AreWaiting code.queue.items.items []
      → code.proposer.heard ≡ 0 → code.reached ≡ 0 → code.releases ≡ [] → OpensAs stands_for disk code entries
  opens read votes known attempts pending heard reached releases = record {
    stands = record {
      parts = record {
        on_record = record {
          mode_is = ap (λ b. cond b Stopped Up) (sym read.running);
          kept = read.kept;
          history = subst (λ (n : ℕ). IsHistory n entries) code.store_cluster read.history;
          settled = λ runs. refl;
        };
        votes = λ t. (λ h. absurd (votes t h), λ h. absurd h);
        known = subst (λ vs. AreKnown code.known vs (λ i. None)) (sym releases) known;
        attempts = attempts;
        pending = pending;
        heard = heard;
        reached = reached;
      };
      tidy = opens_tidy Up entries None;
      ranges = opens_in_range _ Up entries None;
      fed = λ k v is. absurd (none k v (subst (λ (vs : List Value). slice_get vs k ≡ Some v) releases is));
    };
    on_disk = λ d stands.
        let has = (read.ready d stands).stored in
        record { stands = has.stands; keeps = mine (after_sync d) (settled_keeps code.store.node code.store.cluster entries (after_sync d) has.settled has.reads.stands); stored = λ runs. has };
    reads = mine_read;
    settles = λ d kept in_flight stands keeps. opening_settles code.me code.cluster kept in_flight d entries keeps (mine_read d stands);
  }
    where
      none : (k : ℕ) (v : Value) → slice_get {X = Value} [] k ≡ Some v → ⊥
      none k v is = cc

      mine : (d : DiskState) → Keeps code.store.node code.store.cluster entries None d → Keeps code.me code.cluster entries None d
      mine d keeps = subst (λ (p : ℕ). Keeps p code.cluster entries None d) code.store_node (subst (λ (n : ℕ). Keeps code.store.node n entries None d) code.store_cluster keeps)

      mine_read : (d : DiskState) → stands_for disk d → StandsFor code.me code.cluster d.seen entries
      mine_read d stands =
          subst (λ (p : ℕ). StandsFor p code.cluster d.seen entries) code.store_node (subst (λ (n : ℕ). StandsFor code.store.node n d.seen entries) code.store_cluster (read.ready d stands).stored.reads.stands)
