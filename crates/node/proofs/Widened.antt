-- A widening, from what the code found.
use Rattle.std.proofs.Common.{◌≡◌, inr, ◌<◌, max, false, Option, Some, None, [], refl, sym, ◌∙◌, append-nil}
use Rattle.site_ids.specs.declared.TheConstants.{MAX_ROUND}
use Rattle.site_disk.specs.Model.{DiskState}
use Rattle.node.specs.declared.fault.NodeFault.TheVariants.{OutOfMemory, RoundsUsedUp}
use Rattle.node.specs.declared.node.Node.{Node as Running}
use Rattle.node.specs.Nodes.{Value, Node, AllKnown}
use Rattle.node.specs.Effects.{quiet}
use Rattle.node.specs.Calls.{widen, MayWiden}
use Rattle.node.specs.Endings.{Whole, Refuses}
use Rattle.node.specs.Standing.{IsNodeOf, IsEvent, KeepsOthers}
use Rattle.node.proofs.Starting.{has_round, no_round}
use Rattle.node.proofs.Stepping.{Handed, is_up, same_store, stays_there, whole}

no_value : (v : Value) → ◌≡◌ {A = Option Value} None (Some v) → ⊥
no_value v e = cc

-- if all is known, no instance is free
pub none_free : (s : Node) → AllKnown s → ¬ MayWiden s
none_free s all may = let free = may.0.1.free in let v = all may.0.0 free.instance in no_value v.0 (sym free.unknown ∙ v.1)

module _ {D : Type 0} where
  pub wants_it : (old : Running D) (s : Node) → IsNodeOf old s → old.store.stopped ≡ false → MayWiden s → max old.store.recorded.round old.proposer.heard < MAX_ROUND → Refuses s widen OutOfMemory
  wants_it old s stands runs may low = (is_up old s stands.parts runs, (may, has_round old s stands.parts low))

  pub no_round_left : (old : Running D) (s : Node) → IsNodeOf old s → old.store.stopped ≡ false → MayWiden s → max old.store.recorded.round old.proposer.heard ≡ MAX_ROUND → Refuses s widen RoundsUsedUp
  no_round_left old s stands runs may last = (is_up old s stands.parts runs, (may, no_round old s stands.parts last))

  -- nothing is begun
  pub nothing_begun : (stands_for : D → DiskState → Type 0) (code : Running D) (before : Handed) → code.store.stopped ≡ false → ((s : Node) → IsNodeOf code s → ¬ MayWiden s) → IsEvent stands_for code code widen Whole before before
  nothing_begun stands_for code before runs none =
      let others : KeepsOthers code code = record { me = refl; cluster = refl; releases = refl } in
      whole stands_for code code widen before before [] others runs tt (sym (append-nil before)) (λ s stands. record {
        effect = quiet s;
        does = inr (none s stands, refl);
        handed = refl;
        parts = stands.parts;
        stays = stays_there stands_for code code s s others (same_store code.store code.store refl) refl refl;
      })
