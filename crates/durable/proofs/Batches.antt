-- Batches: an entry more, and what sealing them leaves on the disk.
use Rattle.std.proofs.Common.{◌≡◌, ◌≢◌, inl, inr, ⊎_elim, ℕ, ◌+◌, ◌-◌, ◌<◌, ◌≤◌, nat_lt, if◌then◌else◌, Bool, true, false, List, [], ◌∷◌, ◌++◌, length, drop, refl, sym, ◌∙◌, ap, subst, arith, length-append, length-drop, append_assoc}
use Rattle.std.proofs.lemmas.Bool.{ltb-false}
use Rattle.std.proofs.lemmas.List.{append-nil}
use Rattle.site_ids.specs.declared.TheConstants.{MAX_RECORD}
use Rattle.site_disk.specs.Model.{DiskState, MayLeave, LeavesOnly, moment}
use Rattle.durable.specs.Append.{IsSettled, IsClosedAt, IsOpenAt, IsAppendedOrNot}
use Rattle.durable.specs.Entries.{Entry}
use Rattle.durable.specs.Histories.{IsHistory, MayFollow}
use Rattle.durable.specs.Items.{Item, Batch, IsLog, AreWhole, entries_of, puts, item_blocks, summed, sum_front, sum_of}
use Rattle.durable.specs.Reading.{IsKept}
use Rattle.durable.specs.Spelling.{payload, block, blocks, behind_gate}
use Rattle.durable.specs.Standing.{StandsFor}
use Rattle.durable.specs.Ready.{IsReady, IsUnchanged}
use Rattle.durable.specs.Batches.{IsBatchOpen, Waits, IsStaged, IsAhead, IsNoneOrAll, KeepsNoneOrAll, sealed_items, behind_gates, calls_for}
use Rattle.durable.specs.declared.record.Record.{Record}
use Rattle.durable.specs.declared.recorded.Recorded.{Recorded}
use Rattle.durable.specs.declared.staged.Staged.{Staged}
use Rattle.durable.proofs.Kept.{kept_same, roomy_kept}
use Rattle.durable.proofs.Logs.{blocks-push, entries-append, entries-puts, item_blocks-append, item_blocks-puts, log-append, whole-puts, sum_size}
use Rattle.durable.proofs.Moments.{started, weaker}
use Rattle.durable.proofs.Push.{history-push}
use Rattle.durable.proofs.Stand.{closed_there, still_stands, more_laid}
use Rattle.durable.proofs.Torn.{settled_leaves}

-- ---- what a seal writes

-- the batch has a sum if the file has room for it
sealed_so : (gate : ℕ) (batch : List Entry) (full : Bool) → nat_lt MAX_RECORD (gate + 19) ≡ full → sealed_items gate batch ≡ (if full then puts batch else Batch batch ∷ [])
sealed_so gate batch full is = ap (λ (b : Bool). if b then puts batch else Batch batch ∷ []) is

-- how much longer its blocks are than those of its entries
abbrev pub sum_room : ℕ → ℕ
sum_room gate = if nat_lt MAX_RECORD (gate + 19) then 0 else 18

pub summed_size : (bytes : List ℕ) → length (summed bytes) ≡ 18 + length bytes
summed_size bytes = omega (arith, length-append (sum_front (length bytes) (sum_of bytes)) bytes, sum_size bytes)

module _ (gate : ℕ) (batch : List Entry) where
  pub sealed_size : length (item_blocks (sealed_items gate batch)) ≡ length (blocks batch) + sum_room gate
  sealed_size = by (nat_lt MAX_RECORD (gate + 19))
    where
      by : (full : Bool) → length (item_blocks (if full then puts batch else Batch batch ∷ [])) ≡ length (blocks batch) + (if full then 0 else 18)
      by true = omega (arith, ap length (item_blocks-puts batch))
      by false = omega (arith, length-append (summed (blocks batch)) [], summed_size (blocks batch))

  pub sealed_bytes : item_blocks (sealed_items gate batch) ≡ (if nat_lt MAX_RECORD (gate + 19) then blocks batch else summed (blocks batch))
  sealed_bytes = by (nat_lt MAX_RECORD (gate + 19))
    where
      by : (full : Bool) → item_blocks (if full then puts batch else Batch batch ∷ []) ≡ (if full then blocks batch else summed (blocks batch))
      by true = item_blocks-puts batch
      by false = append-nil (summed (blocks batch))

  pub sealed_entries : entries_of (sealed_items gate batch) ≡ batch
  sealed_entries = by (nat_lt MAX_RECORD (gate + 19))
    where
      by : (full : Bool) → entries_of (if full then puts batch else Batch batch ∷ []) ≡ batch
      by true = entries-puts batch
      by false = append-nil batch

  pub sealed_some : batch ≢ [] → sealed_items gate batch ≢ []
  sealed_some some = by batch some (nat_lt MAX_RECORD (gate + 19))
    where
      by : (b : List Entry) → b ≢ [] → (full : Bool) → (if full then puts b else Batch b ∷ []) ≢ []
      by [] more full = absurd (more refl)
      by (e ∷ b) more true = λ none. omega (arith, ap length none)
      by (e ∷ b) more false = λ none. omega (arith, ap length none)

  -- where it has a sum, four bytes tell how long it is
  pub sealed_whole : batch ≢ [] → length (blocks batch) ≤ gate → AreWhole (sealed_items gate batch)
  sealed_whole some within = by (nat_lt MAX_RECORD (gate + 19)) refl
    where
      by : (full : Bool) → nat_lt MAX_RECORD (gate + 19) ≡ full → AreWhole (if full then puts batch else Batch batch ∷ [])
      by true is = whole-puts batch
      by false is = ((some, omega (arith, ltb-false MAX_RECORD (gate + 19) is, within)), tt)

-- where the blocks end, by where what waits does
pub sealed_end : (gate size end : ℕ) → size ≡ gate + 19 → end ≡ (if nat_lt MAX_RECORD size then gate else size - 1) → end ≡ gate + sum_room gate
sealed_end gate size end is ends = ends ∙ ap (λ (n : ℕ). if nat_lt MAX_RECORD n then gate else n - 1) is ∙ by (nat_lt MAX_RECORD (gate + 19))
  where
    by : (full : Bool) → (if full then gate else (gate + 19) - 1) ≡ gate + (if full then 0 else 18)
    by true = omega arith
    by false = omega arith

-- what is written after a gate
pub sealed_behind : (gate size : ℕ) (batch : List Entry) (bytes : List ℕ) → size ≡ gate + 19 → bytes ≡ drop 1 ((if nat_lt MAX_RECORD size then blocks batch else summed (blocks batch)) ++ 0 ∷ []) → bytes ≡ behind_gates (sealed_items gate batch)
sealed_behind gate size batch bytes is_size is =
    is ∙ ap (λ (n : ℕ). drop 1 ((if nat_lt MAX_RECORD n then blocks batch else summed (blocks batch)) ++ 0 ∷ [])) is_size
    ∙ ap (λ (l : List ℕ). drop 1 (l ++ 0 ∷ [])) (sym (sealed_bytes gate batch))

-- what has the items of a batch after an open gate stands for its entries too
module _ (node cluster gate : ℕ) (file : List ℕ) (earlier : List Entry) (stands : StandsFor node cluster file earlier) (at_gate : gate ≡ 10 + length (item_blocks stands.items)) (batch : List Entry) (some : batch ≢ [])
    (history : IsHistory cluster (earlier ++ batch)) (end : ℕ) (within : length (blocks batch) ≤ end) where
  abbrev its : List Item
  its = sealed_items end batch

  pub all_entries : entries_of stands.items ++ entries_of its ≡ earlier ++ batch
  all_entries = (λ i. stands.same i ++ sealed_entries end batch i)

  pub all_log : IsLog cluster (stands.items ++ its)
  all_log = log-append cluster stands.items its stands.laid.log (sealed_whole end batch some within) (subst (λ (l : List Entry). IsHistory cluster l) (sym all_entries) history)

  abbrev pub all_stand : (left : List ℕ) → IsOpenAt gate file (behind_gates its) left → StandsFor node cluster left (earlier ++ batch)
  all_stand left opened = record {
    items = stands.items ++ its;
    laid = more_laid node cluster gate file stands.items stands.laid at_gate its left (sealed_some end batch some) all_log opened;
    same = entries-append stands.items its ∙ all_entries;
  }

  -- the main lemma: what any moment of the append leaves stands for none of them or for all
  pub none_or_all : (left : List ℕ) → IsAppendedOrNot gate file (behind_gates its) left → IsNoneOrAll node cluster earlier batch left
  none_or_all left appended = ⊎_elim (λ closed. inl (still_stands node cluster gate file earlier stands at_gate left closed)) (λ opened. inr (all_stand left opened)) appended

-- ---- what waits

-- an entry's block is longer than its gate
some_bytes : (batch : List Entry) → batch ≢ [] → 1 < length (blocks batch ++ 0 ∷ [])
some_bytes [] some = absurd (some refl)
some_bytes (e ∷ batch) some = omega (arith, length-append (blocks (e ∷ batch)) (0 ∷ []), length-append (block e) (blocks batch))

-- how long what waits is
pub waiting_size : (batch : List Entry) (bytes : List ℕ) → drop 18 bytes ≡ blocks batch ++ 0 ∷ [] → length bytes ≡ 19 + length (blocks batch)
waiting_size batch bytes is = omega (arith, ap length is, length-drop 18 bytes, length-append (blocks batch) (0 ∷ []))

-- more waits than room for a sum and a gate where there is an entry, and only there
pub long_some : (batch : List Entry) (bytes : List ℕ) → drop 18 bytes ≡ blocks batch ++ 0 ∷ [] → 19 < length bytes → batch ≢ []
long_some [] bytes is long = λ _. omega (arith, waiting_size [] bytes is, long)
long_some (e ∷ batch) bytes is long = λ none. omega (arith, ap length none)

pub short_none : (batch : List Entry) (bytes : List ℕ) → drop 18 bytes ≡ blocks batch ++ 0 ∷ [] → ¬ (19 < length bytes) → batch ≡ []
short_none [] bytes is short = refl
short_none (e ∷ batch) bytes is short = absurd (short (omega (arith, waiting_size (e ∷ batch) bytes is, length-append (block e) (blocks batch))))

-- what is kept in memory beside the gate may change
pub waits_with : (node cluster : ℕ) (file : List ℕ) (earlier batch : List Entry) (old new : ℕ) (before after : Staged) → new ≡ old → after.bytes.items ≡ before.bytes.items → after.base ≡ before.base
    → Waits node cluster file earlier batch old before → Waits node cluster file earlier batch new after
waits_with node cluster file earlier batch old new before after gate bytes base waits = record {
  stands = waits.stands;
  history = waits.history;
  waiting = ap (λ (l : List ℕ). drop 18 l) bytes ∙ waits.waiting;
  base = λ some. base ∙ waits.base some;
  ends = gate ∙ waits.ends;
}

pub staged_with : {D : Type 0} (stands_for : D → DiskState → Type 0) (old : Record D) (recorded : Recorded) (d : DiskState) (earlier batch : List Entry) → recorded.gate ≡ old.recorded.gate
    → IsStaged stands_for old d earlier batch → IsStaged stands_for (record old { recorded = recorded }) d earlier batch
staged_with stands_for old recorded d earlier batch gate has = record {
  stands = has.stands;
  settled = has.settled;
  waits = waits_with old.node old.cluster d.seen earlier batch old.recorded.gate recorded.gate old.staged old.staged gate refl refl has.waits;
  running = has.running;
}

-- a refused put leaves the batch as it was
pub still_ahead : {D : Type 0} (stands_for : D → DiskState → Type 0) (old new : Record D) (d : DiskState) (earlier batch : List Entry) → IsUnchanged old new → IsAhead stands_for old d earlier batch
    → IsAhead stands_for new d earlier batch
still_ahead stands_for old new d earlier batch unchanged ahead =
    let recorded : Recorded = record old.recorded { slots = new.recorded.slots } in
    let has = ahead.staged in
    subst (λ r. IsAhead stands_for r d earlier batch) (sym unchanged.same)
    (record {
      staged = record {
        stands = has.stands;
        settled = has.settled;
        waits = waits_with old.node old.cluster d.seen earlier batch old.recorded.gate old.recorded.gate old.staged new.staged refl unchanged.staged unchanged.base has.waits;
        running = has.running;
      };
      kept = kept_same (earlier ++ batch) old.recorded recorded (roomy_kept old.recorded _ unchanged.slots) ahead.kept;
    })

-- an entry's bytes were taken in
module _ {D : Type 0} (stands_for : D → DiskState → Type 0) (old new : Record D) (d : DiskState) (earlier batch : List Entry) (has : IsStaged stands_for old d earlier batch) (entry : Entry) where
  abbrev waits : Waits old.node old.cluster d.seen earlier batch old.recorded.gate old.staged
  waits = has.waits

  abbrev before : List Item
  before = waits.stands.items

  new_base : (length old.staged.bytes.items ≡ 19 → new.staged.base ≡ old.recorded.gate) → (19 < length old.staged.bytes.items → new.staged.base ≡ old.staged.base) → new.staged.base ≡ 10 + length (item_blocks before)
  new_base first later = based batch waits.base (waiting_size batch old.staged.bytes.items waits.waiting) waits.ends
    where
      based : (b : List Entry) → (b ≢ [] → old.staged.base ≡ 10 + length (item_blocks before)) → length old.staged.bytes.items ≡ 19 + length (blocks b) → old.recorded.gate ≡ 10 + length (item_blocks before) + length (blocks b)
          → new.staged.base ≡ 10 + length (item_blocks before)
      based [] base size gate = omega (arith, first size, gate)
      based (e ∷ b) base size gate =
          let some : e ∷ b ≢ [] = λ none. omega (arith, ap length none) in
          later (omega (arith, size, length-append (block e) (blocks b))) ∙ base some

  pub one_more : (bytes : List ℕ) → bytes ≡ behind_gate entry → MayFollow old.cluster (earlier ++ batch) entry
      → ((front : List ℕ) → drop 18 old.staged.bytes.items ≡ front ++ 0 ∷ [] → drop 18 new.staged.bytes.items ≡ front ++ 1 ∷ bytes)
      → (length old.staged.bytes.items ≡ 19 → new.staged.base ≡ old.recorded.gate) → (19 < length old.staged.bytes.items → new.staged.base ≡ old.staged.base)
      → new.recorded.gate ≡ old.recorded.gate + length bytes → new.disk ≡ old.disk → new.node ≡ old.node → new.cluster ≡ old.cluster → new.stopped ≡ false → IsStaged stands_for new d earlier (batch ++ entry ∷ [])
  one_more bytes is follows waiting first later gate disk node cluster running = record {
    stands = subst (λ (x : D). stands_for x d) (sym disk) has.stands;
    settled = has.settled;
    waits = subst (λ (p : ℕ). Waits p new.cluster d.seen earlier (batch ++ entry ∷ []) new.recorded.gate new.staged) (sym node)
        (subst (λ (n : ℕ). Waits old.node n d.seen earlier (batch ++ entry ∷ []) new.recorded.gate new.staged) (sym cluster) (record {
          stands = waits.stands;
          history = subst (λ (l : List Entry). IsHistory old.cluster l) (append_assoc earlier batch (entry ∷ [])) (history-push old.cluster (earlier ++ batch) entry waits.history follows);
          waiting = waiting (blocks batch) waits.waiting ∙ ap (λ (l : List ℕ). blocks batch ++ 1 ∷ l) is
              ∙ sym (append_assoc (blocks batch) (block entry) (0 ∷ [])) ∙ ap (λ (l : List ℕ). l ++ 0 ∷ []) (sym (blocks-push batch entry));
          base = λ _. new_base first later;
          ends = omega (arith, gate, waits.ends, ap length is, length-append (payload entry) (0 ∷ []), ap length (blocks-push batch entry), length-append (blocks batch) (block entry));
        }));
    running = running;
  }

-- a batch is opened, and nothing is in it
pub begun : {D : Type 0} (stands_for : D → DiskState → Type 0) (old : Record D) (staged : Staged) (d : DiskState) (entries : List Entry) → IsReady stands_for old d entries → drop 18 staged.bytes.items ≡ 0 ∷ []
    → IsAhead stands_for (record old { staged = staged }) d entries []
begun stands_for old staged d entries ready is =
    let has = ready.stored in
    let all : entries ≡ entries ++ [] = sym (append-nil entries) in
    record {
      staged = record {
        stands = has.stands;
        settled = has.settled;
        waits = record {
          stands = has.reads.stands;
          history = subst (λ (l : List Entry). IsHistory old.cluster l) (has.reads.stands.same ∙ all) has.reads.stands.laid.log.history;
          waiting = is;
          base = λ some. absurd (some refl);
          ends = omega (arith, has.reads.ends);
        };
        running = has.running;
      };
      kept = subst (λ (l : List Entry). IsKept l old.recorded) all ready.kept;
    }

-- where no batch is open, none waits
pub none_waits : {D : Type 0} (stands_for : D → DiskState → Type 0) (store : Record D) (d : DiskState) (earlier batch : List Entry) → ¬ IsBatchOpen store → ¬ IsStaged stands_for store d earlier batch
none_waits stands_for store d earlier batch closed has = closed (omega (arith, waiting_size batch store.staged.bytes.items has.waits.waiting))

-- ---- the batch is sealed
module _ {D : Type 0} (stands_for : D → DiskState → Type 0) (old : Record D) (d : DiskState) (earlier batch : List Entry) (ahead : IsAhead stands_for old d earlier batch) where
  abbrev has : IsStaged stands_for old d earlier batch
  has = ahead.staged

  abbrev what : Waits old.node old.cluster d.seen earlier batch old.recorded.gate old.staged
  what = has.waits

  abbrev end : ℕ
  end = old.recorded.gate

  within : length (blocks batch) ≤ end
  within = omega (arith, what.ends)

  -- what waits would end so far after the gate with its sum
  pub with_sum_to : batch ≢ [] → old.staged.base + length old.staged.bytes.items ≡ end + 19
  with_sum_to some = omega (arith, what.base some, what.ends, waiting_size batch old.staged.bytes.items what.waiting)

  -- what a seal answers for
  abbrev pub IsSealed : Record D → DiskState → Type 0
  IsSealed new e = IsReady stands_for new e (earlier ++ batch) × LeavesOnly d e (IsNoneOrAll old.node old.cluster earlier batch)
      × (length e.past ≡ calls_for batch + length d.past) × (batch ≢ [] → IsOpenAt old.staged.base d.seen (behind_gates (sealed_items end batch)) e.seen)

  nothing_left : (left : List ℕ) → MayLeave (moment d) left → IsNoneOrAll old.node old.cluster earlier batch left
  nothing_left left may = inl (subst (λ (l : List ℕ). StandsFor old.node old.cluster l earlier) (sym (settled_leaves d left has.settled may)) what.stands)

  -- where nothing was put, the disk is left alone
  pub nothing_sealed : (staged : Staged) → batch ≡ [] → staged.bytes.items ≡ [] → IsSealed (record old { staged = staged }) d
  nothing_sealed staged none closed =
      let all : earlier ++ batch ≡ earlier = ap (λ (b : List Entry). earlier ++ b) none ∙ append-nil earlier in (
        record {
          stored = record {
            stands = has.stands;
            settled = has.settled;
            reads = record {
              stands = record { items = what.stands.items; laid = what.stands.laid; same = what.stands.same ∙ sym all };
              ends = omega (arith, what.ends, ap (λ (b : List Entry). length (blocks b)) none);
            };
            running = has.running;
            none_staged = closed;
          };
          kept = ahead.kept;
        },
        started d (IsNoneOrAll old.node old.cluster earlier batch) nothing_left,
        omega (arith, ap calls_for none),
        λ some. absurd (some none),
      )

  module _ (bytes : List ℕ) (is : bytes ≡ behind_gates (sealed_items end batch)) (some : batch ≢ []) where
    pub closed_base : IsClosedAt old.staged.base d.seen d.seen
    closed_base = closed_there old.node old.cluster old.staged.base d.seen what.stands.items what.stands.laid (what.base some)

    found : (left : List ℕ) → IsAppendedOrNot old.staged.base d.seen bytes left → IsNoneOrAll old.node old.cluster earlier batch left
    found left appended = none_or_all old.node old.cluster old.staged.base d.seen earlier what.stands (what.base some) batch some what.history end within left
        (subst (λ (b : List ℕ). IsAppendedOrNot old.staged.base d.seen b left) is appended)

    pub leaves_none_or_all : (e : DiskState) → LeavesOnly d e (IsAppendedOrNot old.staged.base d.seen bytes) → LeavesOnly d e (IsNoneOrAll old.node old.cluster earlier batch)
    leaves_none_or_all e only = weaker d e (IsAppendedOrNot old.staged.base d.seen bytes) (IsNoneOrAll old.node old.cluster earlier batch) found only

    pub keeps_none_or_all : (e : DiskState) → LeavesOnly d e (IsAppendedOrNot old.staged.base d.seen bytes) → IsAppendedOrNot old.staged.base d.seen bytes e.seen → KeepsNoneOrAll old.node old.cluster earlier batch e
    keeps_none_or_all e only here = record { read = found e.seen here; left = λ left may. (leaves_none_or_all e only).each.0 left may }

    pub all_sealed : (disk : D) (staged : Staged) (gate : ℕ) (e : DiskState) → stands_for disk e → LeavesOnly d e (IsAppendedOrNot old.staged.base d.seen bytes) → IsSettled e → IsOpenAt old.staged.base d.seen bytes e.seen
        → length e.past ≡ 4 + length d.past → staged.bytes.items ≡ [] → gate ≡ end + sum_room end
        → IsSealed (record old { disk = disk; stopped = false; staged = staged; recorded = record old.recorded { gate = gate } }) e
    all_sealed disk staged gate e stands only settled there four closed at_end =
        let opened = subst (λ (b : List ℕ). IsOpenAt old.staged.base d.seen b e.seen) is there in
        let items = what.stands.items in
        let its = sealed_items end batch in (
          record {
            stored = record {
              stands = stands;
              settled = settled;
              reads = record {
                stands = all_stand old.node old.cluster old.staged.base d.seen earlier what.stands (what.base some) batch some what.history end within e.seen opened;
                ends = omega (arith, at_end, what.ends, sealed_size end batch, ap length (item_blocks-append items its), length-append (item_blocks items) (item_blocks its));
              };
              running = refl;
              none_staged = closed;
            };
            kept = kept_same (earlier ++ batch) old.recorded _ (record { round = refl; greatest = refl; slots = λ i. refl; floor = refl; reach = refl }) ahead.kept;
          },
          leaves_none_or_all e only,
          calls batch some,
          λ _. opened,
        )
      where
        calls : (b : List Entry) → b ≢ [] → length e.past ≡ calls_for b + length d.past
        calls [] some = absurd (some refl)
        calls (entry ∷ b) some = four
