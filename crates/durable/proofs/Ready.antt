-- A record before and after an entry is appended.
use Rattle.std.proofs.Common.{◌≡◌, ℕ, ◌+◌, List, [], ◌∷◌, ◌++◌, Some, false, length, sym, ◌∙◌, ap, subst, arith, length-append}
use Rattle.site_disk.specs.Model.{DiskState, LeavesOnly}
use Rattle.durable.specs.Append.{IsSettled, IsOpenAt, IsAppendedOrNot}
use Rattle.durable.specs.Entries.{Entry}
use Rattle.durable.specs.Histories.{MayFollow}
use Rattle.durable.specs.Items.{Put, item_blocks}
use Rattle.durable.specs.Spelling.{block, behind_gate, payload}
use Rattle.durable.specs.Keeping.{IsFound, Keeps}
use Rattle.durable.specs.Ready.{IsStored, IsReady, IsUnchanged, StandsUpTo}
use Rattle.durable.specs.declared.record.Record.{Record}
use Rattle.durable.specs.declared.recorded.Recorded.{Recorded}
use Rattle.durable.proofs.Kept.{kept_same, roomy_kept}
use Rattle.durable.proofs.Moments.{weaker}
use Rattle.durable.proofs.Logs.{item_blocks-push}
use Rattle.durable.proofs.Stand.{with_or_without, then_stands}
use Rattle.durable.proofs.Keeping.{put_keeps}

-- what is kept in memory beside the gate may change
pub stored_with : {D : Type 0} (stands_for : D → DiskState → Type 0) (old : Record D) (recorded : Recorded) (d : DiskState) (entries : List Entry) → recorded.gate ≡ old.recorded.gate
    → IsStored stands_for old d entries → IsStored stands_for (record old { recorded = recorded }) d entries
stored_with stands_for old recorded d entries gate stored = record {
  stands = stored.stands;
  settled = stored.settled;
  reads = subst (λ (g : ℕ). StandsUpTo old.node old.cluster d.seen entries g) (sym gate) stored.reads;
  running = stored.running;
  none_staged = stored.none_staged;
}

-- a refused put leaves the record ready
pub still_ready : {D : Type 0} (stands_for : D → DiskState → Type 0) (old new : Record D) (d : DiskState) (entries : List Entry) → IsUnchanged old new → IsReady stands_for old d entries → IsReady stands_for new d entries
still_ready stands_for old new d entries unchanged ready =
    let recorded : Recorded = record old.recorded { slots = new.recorded.slots } in
    let has = ready.stored in
    subst (λ r. IsReady stands_for r d entries) (sym unchanged.same)
    (record {
      stored = record { stands = has.stands; settled = has.settled; reads = has.reads; running = has.running; none_staged = unchanged.staged ∙ has.none_staged };
      kept = kept_same entries old.recorded recorded (roomy_kept old.recorded _ unchanged.slots) ready.kept;
    })

module _ {D : Type 0} (stands_for : D → DiskState → Type 0) (old : Record D) (d : DiskState) (entries : List Entry) (stored : IsStored stands_for old d entries) (entry : Entry) (follows : MayFollow old.cluster entries entry) where
  abbrev gate : ℕ
  gate = old.recorded.gate

  abbrev reads : StandsUpTo old.node old.cluster d.seen entries old.recorded.gate
  reads = stored.reads

  found : (left : List ℕ) → IsAppendedOrNot gate d.seen (behind_gate entry) left → IsFound old.node old.cluster entries (Some entry) left
  found left appended = with_or_without old.node old.cluster gate d.seen entries reads.stands reads.ends entry left follows appended

  pub leaves : (e : DiskState) → LeavesOnly d e (IsAppendedOrNot gate d.seen (behind_gate entry)) → LeavesOnly d e (IsFound old.node old.cluster entries (Some entry))
  leaves e only = weaker d e (IsAppendedOrNot gate d.seen (behind_gate entry)) (IsFound old.node old.cluster entries (Some entry)) found only

  pub keeps : (e : DiskState) → LeavesOnly d e (IsAppendedOrNot gate d.seen (behind_gate entry)) → IsAppendedOrNot gate d.seen (behind_gate entry) e.seen → Keeps old.node old.cluster entries (Some entry) e
  keeps e only here = put_keeps old.node old.cluster entries entry d e (leaves e only) (found e.seen here)

  then_reads : (e : DiskState) (next : ℕ) → IsOpenAt gate d.seen (behind_gate entry) e.seen → next ≡ gate + length (behind_gate entry) → StandsUpTo old.node old.cluster e.seen (entries ++ entry ∷ []) next
  then_reads e next opened is = record {
    stands = then_stands old.node old.cluster gate d.seen entries reads.stands reads.ends entry e.seen follows opened;
    ends = omega (arith, is, reads.ends, ap length (item_blocks-push reads.stands.items (Put entry)), length-append (item_blocks reads.stands.items) (block entry), length-append (payload entry) (0 ∷ []));
  }

  pub stored_after : (new : Record D) (e : DiskState) → stands_for new.disk e → IsSettled e → IsOpenAt gate d.seen (behind_gate entry) e.seen
      → new.node ≡ old.node → new.cluster ≡ old.cluster → new.recorded.gate ≡ gate + length (behind_gate entry) → new.stopped ≡ false → new.staged.bytes.items ≡ [] → IsStored stands_for new e (entries ++ entry ∷ [])
  stored_after new e stands settled opened node cluster is_gate running none = record {
    stands = stands;
    settled = settled;
    reads = subst (λ (p : ℕ). StandsUpTo p new.cluster e.seen (entries ++ entry ∷ []) new.recorded.gate) (sym node) (subst (λ (n : ℕ). StandsUpTo old.node n e.seen (entries ++ entry ∷ []) new.recorded.gate) (sym cluster)
        (then_reads e new.recorded.gate opened is_gate));
    running = running;
    none_staged = none;
  }
