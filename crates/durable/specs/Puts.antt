-- What a put of one entry returns, and what is on record after it.
use Rattle.std.specs.Prelude.{◌≡◌, ◌≢◌, ◌⊎◌, ◌↔◌, ℕ, ◌+◌, ◌<◌, max, List, [], ◌∷◌, ◌++◌, length}
use Rattle.std.specs.Prelude.{false, true, Some, Result, OnOk, OnErr, IsErrOf}
use Rattle.site_ids.specs.declared.TheConstants.{MAX_RECORD}
use Rattle.site_disk.specs.Model.{DiskState, LeavesOnly}
use Rattle.acceptor.specs.Steps.{with_promise, with_vote}
use Rattle.site_ids.specs.Spans.{IsInSpan}
use Rattle.durable.specs.Append.{IsOpenAt}
use Rattle.durable.specs.Counts.{CountsFault}
use Rattle.durable.specs.Raising.{IsRaised}
use Rattle.durable.specs.Entries.{Entry, Round, Promised, PromisedSpan, Voted, Learned, Floor, round_after}
use Rattle.durable.specs.Entries.{round_in, floor_of, reach_in}
use Rattle.durable.specs.Histories.{MayFollow}
use Rattle.durable.specs.Spelling.{block, behind_gate}
use Rattle.durable.specs.Keeping.{IsFound, Keeps}
use Rattle.durable.specs.Reading.{IsKept}
use Rattle.durable.specs.Ready.{IsStored, IsReady, IsUnchanged}
use Rattle.durable.specs.Batches.{IsBatchOpen, Stages, GoesAhead}
use Rattle.durable.specs.Slots.{cell_at, slot_at, value_at}
use Rattle.durable.specs.declared.fault.RecordFault.{RecordFault}
use Rattle.durable.specs.declared.fault.RecordFault.TheVariants.{Device, OutOfMemory, Full, Stopped}
use Rattle.durable.specs.declared.record.Record.{Record}
use Rattle.durable.specs.declared.recorded.Recorded.{Recorded}
use Rattle.durable.specs.declared.slots.Slots.{Slots}

-- the slot and the learned value of every instance are as before
abbrev pub AreSlotsKept : Slots → Slots → Type 0
AreSlotsKept old new = (i : ℕ) → cell_at new i ≡ cell_at old i

-- those of every other instance are as before
abbrev pub AreOthersKept : ℕ → Slots → Slots → Type 0
AreOthersKept j old new = (i : ℕ) → i ≢ j → cell_at new i ≡ cell_at old i

-- the slots, and what was learned, after one more entry
abbrev pub AreSlotsAfter : Entry → Slots → Slots → Type 0
AreSlotsAfter (Round r) old new = AreSlotsKept old new
AreSlotsAfter (Promised j b) old new =
    (cell_at new j ≡ record (cell_at old j) { slot = with_promise (slot_at old j) b })
    × AreOthersKept j old new
AreSlotsAfter (PromisedSpan j k b) old new = ((i : ℕ) → IsInSpan j k i
    → IsRaised (slot_at old i) b (slot_at new i) × (value_at new i ≡ value_at old i))
    × ((i : ℕ) → ¬ IsInSpan j k i → cell_at new i ≡ cell_at old i)
AreSlotsAfter (Voted j b v) old new = (cell_at new j ≡ record (cell_at old j) { slot = with_vote b v })
    × AreOthersKept j old new
AreSlotsAfter (Learned j v) old new = (cell_at new j ≡ record (cell_at old j) { learned = Some v })
    × AreOthersKept j old new
AreSlotsAfter (Floor f) old new = AreSlotsKept old new

-- what is kept in memory after one more entry
pub record Remembers (old new : Recorded) (entry : Entry) : Type 0 where
  pub round : new.round ≡ round_after old.round (entry ∷ [])
  pub greatest : new.greatest ≡ max old.greatest (round_in entry)
  pub slots : AreSlotsAfter entry old.slots new.slots
  pub floor : new.floor ≡ max old.floor (floor_of (entry ∷ []))
  pub reach : new.reach ≡ max old.reach (reach_in entry)

-- what is kept in memory is as before
pub record IsMemoryKept (old new : Recorded) : Type 0 where
  pub round : new.round ≡ old.round
  pub greatest : new.greatest ≡ old.greatest
  pub slots : AreSlotsKept old.slots new.slots
  pub floor : new.floor ≡ old.floor
  pub reach : new.reach ≡ old.reach

-- The bytes were appended after the gate. If they are an entry's, the file stands for it too, after two
-- writes and two syncs. A crash at any moment since then leaves the entries, with it or without it.
abbrev pub Appends : {D : Type 0} → (D → DiskState → Type 0) → Record D → Record D → List ℕ → Type 0
Appends stands_for old new bytes = (d : DiskState) (entries : List Entry) (entry : Entry)
    → IsStored stands_for old d entries → MayFollow old.cluster entries entry → bytes ≡ behind_gate entry
    → (e : DiskState) × IsStored stands_for new e (entries ++ entry ∷ [])
    × LeavesOnly d e (IsFound old.node old.cluster entries (Some entry))
    × (length e.past ≡ 4 + length d.past) × IsOpenAt old.recorded.gate d.seen (behind_gate entry) e.seen

-- An append of the bytes was cut short. If they are an entry's, it is in flight.
abbrev pub BreaksOff : {D : Type 0} → (D → DiskState → Type 0) → Record D → Record D → List ℕ → Type 0
BreaksOff stands_for old new bytes = (d : DiskState) (entries : List Entry) (entry : Entry)
    → IsStored stands_for old d entries → MayFollow old.cluster entries entry → bytes ≡ behind_gate entry
    → (e : DiskState) × stands_for new.disk e
    × LeavesOnly d e (IsFound old.node old.cluster entries (Some entry))
    × Keeps old.node old.cluster entries (Some entry) e

-- The bytes were written after the gate, to the disk or to the batch that is open: if they are an entry's,
-- the disk or the batch has it. Of what is kept in memory only the gate changes. A device that fails stops
-- the record and is counted; only for a batch an allocation can fail.
pub record Writes {D : Type 0} (stands_for : D → DiskState → Type 0) (failed : D → ℕ) (old new : Record D)
    (bytes : List ℕ) (result : Result (Unit {0}) RecordFault) : Type 0 where
  pub appends : OnOk result (Appends stands_for old new bytes)
  pub stages : OnOk result (Stages stands_for old new bytes)
  pub recorded : OnOk result (new.recorded ≡ record old.recorded { gate = old.recorded.gate + length bytes })
  pub running : OnOk result (new.stopped ≡ false)
  pub counts : CountsFault Device result (failed old.disk) (failed new.disk)
  pub breaks_off : IsErrOf result Device → BreaksOff stands_for old new bytes × (new.stopped ≡ true)
      × (new.recorded ≡ old.recorded)
  pub no_memory : IsErrOf result OutOfMemory → IsBatchOpen old × IsUnchanged old new
  pub others : OnErr result (IsErrOf result Device ⊎ IsErrOf result OutOfMemory)
  pub batched : IsBatchOpen old → (new.disk ≡ old.disk) × (¬ IsErrOf result Device)
  pub same_mode : IsBatchOpen new ↔ IsBatchOpen old
  pub whose : (new.node ≡ old.node) × (new.cluster ≡ old.cluster)

-- a put of the entry has succeeded, over any disk: the record runs and keeps the entry in memory
pub record IsPut {D : Type 0} (old new : Record D) (entry : Entry) : Type 0 where
  pub follows : (entries : List Entry) → IsKept entries old.recorded → MayFollow old.cluster entries entry
  pub remembers : Remembers old.recorded new.recorded entry
  pub kept : (entries : List Entry) → IsKept entries old.recorded
      → IsKept (entries ++ entry ∷ []) new.recorded
  pub gate : new.recorded.gate ≡ old.recorded.gate + length (block entry)
  pub running : new.stopped ≡ false

-- A put of the entry has succeeded: the record is ready with one more entry, after two writes and two syncs.
-- At the gate are the entry and the next closed gate. A crash at any moment since then leaves the entries,
-- with the new one or without it.
abbrev pub Acknowledges : {D : Type 0} → (D → DiskState → Type 0) → Record D → Record D → Entry → Type 0
Acknowledges stands_for old new entry = (d : DiskState) (entries : List Entry)
    → IsReady stands_for old d entries
    → (e : DiskState) × IsReady stands_for new e (entries ++ entry ∷ [])
    × LeavesOnly d e (IsFound old.node old.cluster entries (Some entry))
    × (length e.past ≡ 4 + length d.past) × IsOpenAt old.recorded.gate d.seen (behind_gate entry) e.seen

-- A put of the entry has failed because the device failed: the entry is in flight. The entries stay, with it
-- or without it, without a crash and after a crash at any moment since then.
abbrev pub LeavesInFlight : {D : Type 0} → (D → DiskState → Type 0) → Record D → Record D → Entry → Type 0
LeavesInFlight stands_for old new entry = (d : DiskState) (entries : List Entry)
    → IsReady stands_for old d entries
    → (e : DiskState) × stands_for new.disk e
    × LeavesOnly d e (IsFound old.node old.cluster entries (Some entry))
    × Keeps old.node old.cluster entries (Some entry) e

-- the device failed in a put of the entry: the record stops, and the entry is in flight
pub record IsCutShort {D : Type 0} (stands_for : D → DiskState → Type 0) (old new : Record D)
    (entry : Entry) : Type 0 where
  pub follows : (entries : List Entry) → IsKept entries old.recorded → MayFollow old.cluster entries entry
  pub stops : new.stopped ≡ true
  pub in_flight : LeavesInFlight stands_for old new entry

-- the file would pass its limit with the entry
abbrev pub IsFullFor : {D : Type 0} → Record D → Entry → Type 0
IsFullFor store entry = MAX_RECORD < store.recorded.gate + 1 + length (behind_gate entry)

-- A put of the entry while a batch is open: the batch has it too, and no call of the disk is made
pub record IsBatched {D : Type 0} (stands_for : D → DiskState → Type 0) (old new : Record D) (entry : Entry)
    (result : Result (Unit {0}) RecordFault) : Type 0 where
  pub ahead : OnOk result (GoesAhead stands_for old new entry)
  pub untouched : new.disk ≡ old.disk
  pub no_device : ¬ IsErrOf result Device

-- A put of the entry. Stopped comes before Full, Full before a failed allocation, and that before any write.
pub record Puts {D : Type 0} (stands_for : D → DiskState → Type 0) (failed : D → ℕ) (old new : Record D)
    (entry : Entry) (result : Result (Unit {0}) RecordFault) : Type 0 where
  pub put : OnOk result (IsPut old new entry)
  pub acknowledged : OnOk result (Acknowledges stands_for old new entry)
  pub cut_short : IsErrOf result Device → IsCutShort stands_for old new entry
  pub counts : CountsFault Device result (failed old.disk) (failed new.disk)
  pub was_stopped : IsErrOf result Stopped ↔ (old.stopped ≡ true)
  pub full : IsErrOf result Full ↔ ((old.stopped ≡ false) × IsFullFor old entry)
  pub others : OnErr result (IsErrOf result Device
      ⊎ ((IsErrOf result Stopped ⊎ (IsErrOf result Full ⊎ IsErrOf result OutOfMemory)) × IsUnchanged old new))
  pub kept : OnErr result (IsMemoryKept old.recorded new.recorded)
  pub batched : IsBatchOpen old → IsBatched stands_for old new entry result
  pub same_mode : IsBatchOpen new ↔ IsBatchOpen old
  pub whose : (new.node ≡ old.node) × (new.cluster ≡ old.cluster)
