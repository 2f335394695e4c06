-- What a file is while zeros are written after its end.
use Rattle.std.proofs.Common.{◌≡◌, ◌⊎◌, ⊎_elim, inl, None, get_or, ℕ, ◌+◌, ◌-◌, ◌≤◌, max, Bool, true, false, IsTrue, IsFalse, List, [], ◌++◌, length, take, drop, replicate, refl, sym, ◌∙◌, ap, subst, arith, take-append-drop, length-append}
use Rattle.std.proofs.lemmas.Bool.{false≢true}
use Rattle.std.proofs.lemmas.List.{take_all, drop_all, append-nil, take-append-le, get_or_append_left}
use Rattle.site_disk.specs.Model.{DiskState, LeavesOnly, IsTorn, after_write, after_sync, overwritten}
use Rattle.durable.specs.Append.{IsSettled, IsClosedAt}
use Rattle.durable.specs.Growing.{GoesOnAs, with_zeros}
use Rattle.durable.specs.Entries.{Entry}
use Rattle.durable.specs.Keeping.{IsFound, Keeps}
use Rattle.durable.specs.Ready.{IsStored}
use Rattle.durable.specs.Standing.{StandsFor}
use Rattle.durable.specs.declared.record.Record.{Record}
use Rattle.durable.proofs.Stand.{closed_there, still_laid}
use Rattle.durable.proofs.Moments.{started, goes_on, weaker}
use Rattle.durable.proofs.Through.{unsynced}
use Rattle.durable.proofs.Torn.{settled_leaves}

pub same_on : (file : List ℕ) → GoesOnAs file file
same_on file = ([], sym (append-nil file))

-- a write at the end of a file, whole or torn
pub torn_on : (file left : List ℕ) (size : ℕ) → IsTorn (length file) size file left → GoesOnAs file left
torn_on file left size torn = (
  drop (length file) left,
  sym (take-append-drop (length file) left) ∙ ap (λ (l : List ℕ). l ++ drop (length file) left) (torn.before ∙ take_all (length file) file (omega arith)),
)

module _ (d : DiskState) (settled : IsSettled d) where
  abbrev On : List ℕ → Type 0
  On left = GoesOnAs d.seen left

  pub before : LeavesOnly d d On
  before = started d On (λ left may. subst On (sym (settled_leaves d left settled may)) (same_on d.seen))

  -- a write at the end, whole or torn
  pub written_on : (bytes seen : List ℕ) → length seen ≤ max (length d.seen) (length d.seen + length bytes)
      → LeavesOnly d (after_write d (length d.seen) (length bytes) seen) On
  written_on bytes seen long =
      weaker d (after_write d (length d.seen) (length bytes) seen) (λ left. IsTorn (length d.seen) (length bytes) d.seen left) On (λ left torn. torn_on d.seen left (length bytes) torn)
      (unsynced d (length d.seen) bytes settled (omega arith) seen long)

  -- and then a sync
  pub synced_on : (e : DiskState) → LeavesOnly d e On → On e.seen → LeavesOnly d (after_sync e) On
  synced_on e leaves on = goes_on d e (after_sync e) On leaves refl
      (λ left may. subst On (sym (settled_leaves (after_sync e) left (record { all_synced = refl; none_written = refl }) may)) on)

-- a file that is as long already has no zeros to get
pub long_enough : (file : List ℕ) (size : ℕ) → size - length file ≡ 0 → file ≡ with_zeros file size
long_enough file size none = sym (append-nil file) ∙ ap (λ (k : ℕ). file ++ replicate k 0) (sym none)

-- where a write at the end of a settled file left it
pub record Lengthened {D : Type 0} (stands_for : D → DiskState → Type 0) (disk : D) (d : DiskState) (bytes : List ℕ) (there : Bool) : Type 0 where
  pub e : DiskState
  pub stands : stands_for disk e
  pub leaves : LeavesOnly d e (GoesOnAs d.seen)
  pub on : GoesOnAs d.seen e.seen
  pub whole : IsTrue there → e.seen ≡ d.seen ++ bytes

module _ {D : Type 0} (stands_for : D → DiskState → Type 0) (disk : D) (d : DiskState) (settled : IsSettled d) (bytes : List ℕ) where
  abbrev end : ℕ
  end = length d.seen

  abbrev full : List ℕ
  full = overwritten d.seen end bytes

  full_is : full ≡ d.seen ++ bytes
  full_is = ap (λ (l : List ℕ). l ++ bytes ++ drop (end + length bytes) d.seen) (take_all end d.seen (omega arith))
      ∙ ap (λ (l : List ℕ). d.seen ++ bytes ++ l) (drop_all (end + length bytes) d.seen (omega arith)) ∙ append-nil (d.seen ++ bytes)

  lengthened : (there : Bool)
      → (IsTrue there → stands_for disk (after_write d end (length bytes) full))
      → (IsFalse there → stands_for disk d ⊎ ((seen : List ℕ) × IsTorn end (length bytes) d.seen seen × stands_for disk (after_write d end (length bytes) seen)))
      → Lengthened stands_for disk d bytes there
  lengthened true written torn = record {
    e = after_write d end (length bytes) full;
    stands = written refl;
    leaves = written_on d settled bytes full (omega (arith, ap length full_is, length-append d.seen bytes));
    on = (bytes, full_is);
    whole = λ _. full_is;
  }
  lengthened false written torn = ⊎_elim
      (λ same. record { e = d; stands = same; leaves = before d settled; on = same_on d.seen; whole = λ no. absurd (false≢true no) })
      (λ t. record {
        e = after_write d end (length bytes) t.0;
        stands = t.2;
        leaves = written_on d settled bytes t.0 t.1.no_longer;
        on = torn_on d.seen t.0 (length bytes) t.1;
        whole = λ no. absurd (false≢true no);
      })
      (torn refl)

  -- the same of a write at a place that is the end
  pub lengthened_at : (at : ℕ) → at ≡ length d.seen → (there : Bool)
      → (IsTrue there → stands_for disk (after_write d at (length bytes) (overwritten d.seen at bytes)))
      → (IsFalse there → stands_for disk d ⊎ ((seen : List ℕ) × IsTorn at (length bytes) d.seen seen × stands_for disk (after_write d at (length bytes) seen)))
      → Lengthened stands_for disk d bytes there
  lengthened_at at is there written torn = lengthened there
      (subst (λ (k : ℕ). IsTrue there → stands_for disk (after_write d k (length bytes) (overwritten d.seen k bytes))) is written)
      (subst (λ (k : ℕ). IsFalse there → stands_for disk d ⊎ ((seen : List ℕ) × IsTorn k (length bytes) d.seen seen × stands_for disk (after_write d k (length bytes) seen))) is torn)

-- a record whose file goes on as it was stands for the same entries
module _ {D : Type 0} (stands_for : D → DiskState → Type 0) (old : Record D) (d : DiskState) (entries : List Entry) (stored : IsStored stands_for old d entries) where
  closed : IsClosedAt old.recorded.gate d.seen d.seen
  closed = closed_there old.node old.cluster old.recorded.gate d.seen stored.reads.stands.items stored.reads.stands.laid stored.reads.ends

  still_closed : (left : List ℕ) → GoesOnAs d.seen left → IsClosedAt old.recorded.gate d.seen left
  still_closed left on =
      let at = old.recorded.gate in
      record {
        front = ap (λ (l : List ℕ). take at l) on.1 ∙ take-append-le at d.seen on.0 (omega (arith, closed.there));
        there = omega (arith, closed.there, ap length on.1, length-append d.seen on.0);
        closed = λ one. closed.closed (sym (get_or_append_left d.seen on.0 0 at closed.there) ∙ ap (λ (l : List ℕ). get_or l at 0) (sym on.1) ∙ one);
      }

  abbrev still_stood : (left : List ℕ) → GoesOnAs d.seen left → StandsFor old.node old.cluster left entries
  still_stood left on = record {
    items = stored.reads.stands.items;
    laid = still_laid old.node old.cluster old.recorded.gate d.seen stored.reads.stands.items stored.reads.stands.laid stored.reads.ends left (still_closed left on);
    same = stored.reads.stands.same;
  }

  pub leaves_all : (e : DiskState) → LeavesOnly d e (GoesOnAs d.seen) → LeavesOnly d e (IsFound old.node old.cluster entries None)
  leaves_all e only = weaker d e (GoesOnAs d.seen) (IsFound old.node old.cluster entries None) (λ left on. (entries, inl refl, still_stood left on)) only

  pub keeps_all : (e : DiskState) → LeavesOnly d e (GoesOnAs d.seen) → GoesOnAs d.seen e.seen → Keeps old.node old.cluster entries None e
  keeps_all e only on = record { read = (entries, inl refl, still_stood e.seen on); left = λ left may. (leaves_all e only).each.0 left may }

  pub stays_stored : (disk : D) (e : DiskState) → stands_for disk e → IsSettled e → GoesOnAs d.seen e.seen → IsStored stands_for (record old { disk = disk; stopped = false }) e entries
  stays_stored disk e stands settled on = record {
    stands = stands;
    settled = settled;
    reads = record { stands = still_stood e.seen on; ends = stored.reads.ends };
    running = refl;
    none_staged = stored.none_staged;
  }
