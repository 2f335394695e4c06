-- A message that is handled, by what the code did.
use Rattle.std.proofs.Common.{◌≡◌, ℕ, false, Result, Ok, Err, Some, None, [], ◌∷◌, ◌++◌, refl, sym, ap, ◌∙◌}
use Rattle.std.specs.Result.{IsErrAnd}
use Rattle.site_disk.specs.Model.{DiskState}
use Rattle.wire.specs.declared.message.Message.{Message}
use Rattle.wire.specs.Messages.{IsMessage}
use Rattle.durable.specs.Entries.{Entry}
use Rattle.durable.specs.Puts.{Puts}
use Rattle.durable.specs.declared.fault.RecordFault.{RecordFault}
use Rattle.durable.specs.declared.record.Record.{Record}
use Rattle.node.specs.declared.fault.NodeFault.{NodeFault}
use Rattle.node.specs.declared.fault.NodeFault.TheVariants as fault
use Rattle.node.specs.declared.node.Node.{Node as Running}
use Rattle.node.specs.Calls.{deliver, Does}
use Rattle.node.specs.Deliveries.{reached_by}
use Rattle.node.specs.Effects.{Effect}
use Rattle.node.specs.Endings.{TakesRoom, Refuses}
use Rattle.node.specs.Faults.{of_record}
use Rattle.node.specs.Nodes.{Node}
use Rattle.node.specs.Standing.{counted, HasParts, IsNodeOf, IsHandled, KeepsOthers, TakesCall}
use Rattle.node.proofs.Adding.{none_more}
use Rattle.node.proofs.DeviceCounts.{counts_kept, counts_ok, counts_done, counts_put, no_device}
use Rattle.node.proofs.Stepping.{Handed, Done, KeepsRest, is_up, put_fails, put_record, put_stays, rest_with, same_store, stays_there, wants_memory, whole}

-- the message is counted
abbrev pub touched : Message → Node → Node
touched m s = record s { reached = reached_by s.reached m }

module _ {D : Type 0} (stands_for : D → DiskState → Type 0) (failed : D → ℕ) where
  -- ---- without a fault

  -- nothing goes on record
  pub handled : (old now : Running D) (m : Message) (before after out : Handed) → KeepsOthers old now → old.store.stopped ≡ false → IsMessage old.cluster m → now.store ≡ old.store → after ≡ before ++ out
      → ((s : Node) → IsNodeOf old s → Done stands_for old now (deliver m) out s) → TakesCall stands_for failed old now (deliver m) (Ok (tt {0})) before after
  handled old now m before after out others runs in_range store told done = record {
    event = whole stands_for old now (deliver m) before after out others runs in_range told done;
    counts = counts_ok tt (failed old.store.disk) (failed now.store.disk) (ap (λ (r : Record D). failed r.disk) store);
    grows = (out, told);
    others = others;
  }

  -- and nothing else changes
  pub quiet_whole : (old : Running D) (m : Message) (before after wanted out : Handed) → old.store.stopped ≡ false → after ≡ before ++ out → wanted ≡ out
      → ((s : Node) → IsNodeOf old s → Does old.cluster old.me s (deliver m) (record { entry = None; after = touched m s; out = wanted }))
      → IsHandled stands_for failed old old m (Ok tt) before after
  quiet_whole old m before after wanted out runs told same does in_range =
      let now = counted old m (Ok tt) old in
      let others : KeepsOthers old now = record { me = refl; cluster = refl; releases = refl } in
      handled old now m before after out others runs in_range refl told (λ s stands.
      let t : Node = touched m s in
      record {
        effect = record { entry = None; after = t; out = wanted };
        does = does s stands;
        handed = same;
        parts = record {
          on_record = stands.parts.on_record;
          votes = stands.parts.votes;
          known = stands.parts.known;
          attempts = stands.parts.attempts;
          pending = stands.parts.pending;
          heard = stands.parts.heard;
          reached = ap (λ r. reached_by r m) stands.parts.reached;
        };
        stays = stays_there stands_for old now s t others (same_store old.store old.store refl) refl refl;
      })

  -- an entry is on record, and then the messages are handed out
  pub put_whole : (old now : Running D) (m : Message) (entry : Entry) (before after wanted out : Handed) → KeepsOthers old now → old.store.stopped ≡ false → IsMessage old.cluster m → KeepsRest old now
      → now.reached ≡ reached_by old.reached m → Puts stands_for failed old.store now.store entry (Ok tt) → after ≡ before ++ out → wanted ≡ out
      → ((s : Node) → IsNodeOf old s → Does old.cluster old.me s (deliver m) (record { entry = Some entry; after = touched m s; out = wanted }))
      → TakesCall stands_for failed old now (deliver m) (Ok (tt {0})) before after
  put_whole old now m entry before after wanted out others runs in_range rest reached puts told same does = record {
    event = whole stands_for old now (deliver m) before after out others runs in_range told (λ s stands.
        let t : Node = record (touched m s) { entries = s.entries ++ entry ∷ [] } in
        record {
          effect = record { entry = Some entry; after = touched m s; out = wanted };
          does = does s stands;
          handed = same;
          parts = rest_with old now s t others stands.parts rest (put_record stands_for failed old now entry others runs s stands.parts puts.put) (λ k. record t { reached = (sym (reached ∙ ap (λ r. reached_by r m) stands.parts.reached)) k });
          stays = put_stays stands_for failed old now entry others runs s t stands.parts puts.acknowledged (λ open_now. (puts.batched open_now).ahead) refl refl;
        });
    counts = counts_done stands_for failed old.store now.store entry tt puts;
    grows = (out, told);
    others = others;
  }

  -- ---- by a fault, which is not counted

  faulted : (old new : Running D) (m : Message) (r : Result (Unit {0}) NodeFault) (cause : NodeFault) (before after : Handed) → IsErrAnd r (λ y. y ≡ cause) → TakesCall stands_for failed old new (deliver m) r before after
      → TakesCall stands_for failed old (counted old m r new) (deliver m) r before after
  faulted old new m (Ok x) cause before after is takes = absurd is
  faulted old new m (Err y) cause before after is takes = takes

  -- an allocation failed
  pub wants : (old new : Running D) (m : Message) (r : Result (Unit {0}) NodeFault) (before after : Handed) → KeepsOthers old new → ((s : Node) → IsNodeOf old s → Refuses s (deliver m) fault.OutOfMemory) → after ≡ before
      → IsErrAnd r (λ y. y ≡ fault.OutOfMemory) → new.store ≡ old.store → ((s : Node) → HasParts old s → HasParts new s) → IsHandled stands_for failed old new m r before after
  wants old new m r before after others why told is store same in_range =
      faulted old new m r fault.OutOfMemory before after is (record {
        event = wants_memory stands_for old new (deliver m) r before after others in_range told is why (same_store old.store new.store store) same;
        counts = counts_kept failed r old.store new.store (no_device r is, store);
        grows = none_more before after told;
        others = others;
      })

  -- before anything changed
  pub delivery_wants : (old : Running D) (m : Message) (r : Result (Unit {0}) NodeFault) (before after : Handed) → old.store.stopped ≡ false → ((s : Node) → IsNodeOf old s → TakesRoom s m) → after ≡ before → IsErrAnd r (λ y. y ≡ fault.OutOfMemory)
      → IsHandled stands_for failed old old m r before after
  delivery_wants old m r before after runs takes told is =
      wants old old m r before after (record { me = refl; cluster = refl; releases = refl }) (λ s stands. (is_up old s stands.parts runs, takes s stands)) told is refl (λ s parts. parts)

  -- a put failed
  pub put_unsaid : (old new : Running D) (m : Message) (entry : Entry) (e : RecordFault) (r : Result (Unit {0}) NodeFault) (before after : Handed) → KeepsOthers old new → old.store.stopped ≡ false → KeepsRest old new → new.reached ≡ old.reached → after ≡ before
      → Puts stands_for failed old.store new.store entry (Err e) → IsErrAnd r (λ y. y ≡ of_record e)
      → ((s : Node) → IsNodeOf old s → (effect : Effect) × Does old.cluster old.me s (deliver m) effect × (effect.entry ≡ Some entry))
      → ((s : Node) → IsNodeOf old s → TakesRoom s m) → IsHandled stands_for failed old new m r before after
  put_unsaid old new m entry e r before after others runs rest reached told puts is does takes in_range =
      faulted old new m r (of_record e) before after is (record {
        event = put_fails stands_for failed old new entry others runs (deliver m) e r before after in_range rest reached told puts is does (λ s stands. (is_up old s stands.parts runs, takes s stands));
        counts = counts_put stands_for failed old.store new.store entry e r puts is;
        grows = none_more before after told;
        others = others;
      })
