-- What a put answers that succeeds.
use Rattle.std.proofs.Common.{◌≡◌, ◌+◌, ℕ, List, [], ◌∷◌, ◌++◌, length, Bool, true, false, Ok, refl, ◌∙◌, ap, subst, arith, length-append, append_assoc}
use Rattle.site_disk.specs.Model.{DiskState}
use Rattle.durable.specs.Entries.{Entry}
use Rattle.durable.specs.Histories.{MayFollow}
use Rattle.durable.specs.Spelling.{payload, block, behind_gate}
use Rattle.durable.specs.Reading.{IsKept}
use Rattle.durable.specs.Ready.{IsStored, IsReady}
use Rattle.durable.specs.Batches.{GoesAhead}
use Rattle.durable.specs.Slots.{cell_at}
use Rattle.durable.specs.Puts.{Puts, IsPut, Acknowledges, IsFullFor, IsMemoryKept, AreSlotsKept, Remembers, Writes}
use Rattle.durable.specs.declared.record.Record.{Record}
use Rattle.durable.specs.declared.recorded.Recorded.{Recorded}
use Rattle.durable.specs.declared.slots.Slots.{Slots}
use Rattle.durable.proofs.Kept.{kept_same, kept_more, remembers_through}
use Rattle.durable.proofs.Ready.{stored_with}
use Rattle.durable.proofs.Batches.{staged_with}

-- the bytes after a value's front, by the value that was measured
pub measured : (value bytes : List ℕ) → bytes ≡ value → length (value ++ 0 ∷ []) ≡ length bytes + 1
measured value bytes is = omega (arith, ap length is, length-append value (0 ∷ []))

not_both : {P : Type 0} {b : Bool} → b ≡ true → b ≡ false → P
not_both holds fails = cc

module _ {D : Type 0} (stands_for : D → DiskState → Type 0) (failed : D → ℕ) (old : Record D) (entry : Entry) where
  -- the entry's bytes were written where room for a slot was made before, and it is kept in memory too
  module _ (running : old.stopped ≡ false) (room : ¬ IsFullFor old entry) (slots : Slots) (same_slots : AreSlotsKept old.recorded.slots slots) (bytes : List ℕ) (is : bytes ≡ behind_gate entry)
      (follows : (entries : List Entry) → IsKept entries old.recorded → MayFollow old.cluster entries entry) (app : Record D) where
    abbrev roomy : Recorded
    roomy = record old.recorded { slots = slots }

    abbrev ready_for : Record D
    ready_for = record old { recorded = roomy }

    stored_so : (d : DiskState) (entries : List Entry) → IsReady stands_for old d entries → IsStored stands_for ready_for d entries
    stored_so d entries ready = stored_with stands_for old roomy d entries refl ready.stored

    block_size : length (behind_gate entry) ≡ length (block entry)
    block_size = omega (arith, length-append (payload entry) (0 ∷ []))

    module _ (writes : Writes stands_for failed ready_for app bytes (Ok tt)) (r : Recorded) (remembers : Remembers app.recorded r entry) (same_gate : r.gate ≡ app.recorded.gate) where
      abbrev new : Record D
      new = record app { recorded = r }

      same_memory : IsMemoryKept old.recorded app.recorded
      same_memory = record {
        round = ap (λ (x : Recorded). x.round) writes.recorded;
        greatest = ap (λ (x : Recorded). x.greatest) writes.recorded;
        slots = λ i. ap (λ (x : Recorded). cell_at x.slots i) writes.recorded ∙ same_slots i;
        floor = ap (λ (x : Recorded). x.floor) writes.recorded;
        reach = ap (λ (x : Recorded). x.reach) writes.recorded;
      }

      more : (entries : List Entry) → IsKept entries old.recorded → IsKept (entries ++ entry ∷ []) r
      more entries kept = kept_more entries entry app.recorded r (follows entries kept).advances remembers (kept_same entries old.recorded app.recorded same_memory kept)

      put : IsPut old new entry
      put = record {
        follows = follows;
        remembers = remembers_through entry old.recorded app.recorded r same_memory remembers;
        kept = more;
        gate = omega (arith, same_gate, ap (λ (x : Recorded). x.gate) writes.recorded, ap length is, block_size);
        running = writes.running;
      }

      acknowledged : Acknowledges stands_for old new entry
      acknowledged d entries ready =
          let after = writes.appends d entries entry (stored_so d entries ready) (follows entries ready.kept) is in
          (after.0, record { stored = stored_with stands_for app r after.0 _ same_gate after.1; kept = more entries ready.kept }, after.2, after.3, after.4)

      ahead : GoesAhead stands_for old new entry
      ahead d earlier batch has =
          let after = writes.stages d earlier batch entry (staged_with stands_for old roomy d earlier batch refl has.staged) (follows (earlier ++ batch) has.kept) is in
          record { staged = staged_with stands_for app r d earlier _ same_gate after; kept = subst (λ (l : List Entry). IsKept l r) (append_assoc earlier batch (entry ∷ [])) (more (earlier ++ batch) has.kept) }

      pub written_put : Puts stands_for failed old new entry (Ok tt)
      written_put = record {
        put = put;
        acknowledged = acknowledged;
        cut_short = λ device. cc;
        counts = writes.counts;
        was_stopped = (λ stopped. cc, λ stopped. not_both stopped running);
        full = (λ full. cc, λ full. absurd (room full.1));
        others = tt;
        kept = tt;
        batched = λ open_now. record { ahead = ahead; untouched = (writes.batched open_now).0; no_device = λ device. cc };
        same_mode = writes.same_mode;
        whose = writes.whose;
      }
