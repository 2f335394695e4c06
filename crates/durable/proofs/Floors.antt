-- No crash while a record with a floor is made leaves one without it.
use Rattle.std.proofs.Common.{◌≡◌, ◌≢◌, ◌⊎◌, inl, inr, ⊎_elim, ℕ, ◌+◌, ◌≤◌, ◌<◌, Bool, true, false, List, [], ◌∷◌, ◌++◌, length, get_or, take, drop, nat_eq, refl, sym, ◌∙◌, ap, subst, arith, codes, length-append, take-append-drop}
use Rattle.std.proofs.lemmas.Bool.Decides.{nat_tests}
use Rattle.std.proofs.lemmas.List.{append-nil, drop_all, take_all}
use Rattle.site_ids.specs.Ids.{IsInstance}
use Rattle.site_disk.specs.Model.{DiskState, LeavesOnly, IsTorn, after_write, after_sync, overwritten}
use Rattle.durable.specs.Entries.{Entry, Floor}
use Rattle.durable.specs.Items.{Batch, IsLog, item_blocks, summed}
use Rattle.durable.specs.Spelling.{head, blocks}
use Rattle.durable.specs.Standing.{StandsFor, IsNoRecord}
use Rattle.durable.specs.Formatting.{blank_head, floor_bytes, IsNoneOrFloor}
use Rattle.durable.specs.Laws.{FloorStays}
use Rattle.durable.proofs.Moments.{started, goes_on, weaker, then}
use Rattle.durable.proofs.Prefix.{stands_for_one}
use Rattle.durable.proofs.Logs.{log-push, log-none}
use Rattle.durable.proofs.Push.{history-push}

abbrev Bytes : Type 0
Bytes = List ℕ

-- ---- an empty file becomes a head without its mark

-- a file so short is no record
pub short : (file : Bytes) → length file ≤ 10 → IsNoRecord file
short file few = inl (omega (arith, few))

module _ (d : DiskState) (empty : d.seen ≡ []) where
  pub before_blank : LeavesOnly d d IsNoRecord
  before_blank = started d IsNoRecord (λ left may. short left (omega (arith, may.no_longer, ap length empty)))

  -- while the head is written, in part or whole
  pub blank_unsynced : (size : ℕ) (seen : Bytes) → length seen ≤ 10 → LeavesOnly d (after_write d 0 size seen) IsNoRecord
  blank_unsynced size seen few = goes_on d d (after_write d 0 size seen) IsNoRecord before_blank refl (λ left may. short left (omega (arith, may.no_longer, few)))

  pub blank_synced : (size : ℕ) (seen : Bytes) → length seen ≤ 10 → LeavesOnly d (after_sync (after_write d 0 size seen)) IsNoRecord
  blank_synced size seen few = goes_on d (after_write d 0 size seen) (after_sync (after_write d 0 size seen)) IsNoRecord (blank_unsynced size seen few) refl
      (λ left may. short left (omega (arith, may.no_longer, few)))

-- ---- the floor after it, and then the mark

number : (a b : ℕ) → (a ≡ b) ⊎ (a ≢ b)
number a b = by (nat_eq a b) refl
  where
    by : (t : Bool) → nat_eq a b ≡ t → (a ≡ b) ⊎ (a ≢ b)
    by true is = inl (grind (arith, nat_tests, is))
    by false is = inr (λ e. grind (arith, nat_tests, is, e))

pub empty_of : (file : Bytes) → length file ≡ 0 → file ≡ []
empty_of [] none = refl
empty_of (x ∷ file) none = absurd (omega (arith, none))

-- bytes are these, or others
bytes : (xs ys : Bytes) → (xs ≡ ys) ⊎ (xs ≢ ys)
bytes [] [] = inl refl
bytes [] (y ∷ ys) = inr (λ e. omega (arith, ap length e))
bytes (x ∷ xs) [] = inr (λ e. omega (arith, ap length e))
bytes (x ∷ xs) (y ∷ ys) =
    let rest : (xs ≡ ys) ⊎ (xs ≢ ys) = bytes xs ys in
    ⊎_elim
    (λ (first : x ≡ y). ⊎_elim (λ (e : xs ≡ ys). inl (λ i. first i ∷ e i)) (λ other. inr (λ e. other (ap (λ (l : Bytes). drop 1 l) e))) rest)
    (λ other. inr (λ e. other (ap (λ (l : Bytes). get_or l 0 0) e)))
    (number x y)

-- what was written over an empty file is all of it
pub blank_is : (node cluster : ℕ) (file written : Bytes) → file ≡ [] → written ≡ blank_head node cluster → overwritten file 0 written ≡ blank_head node cluster
blank_is node cluster file written empty is = ap (λ (l : Bytes). overwritten file 0 l) is ∙ ap (λ (l : Bytes). overwritten l 0 (blank_head node cluster)) empty

-- a file with a zero in front has no mark
unmarked : (file : Bytes) → get_or (take 10 file) 0 0 ≡ 0 → take 8 file ≢ codes "SITEREC1"
unmarked [] zero_first e = omega (arith, ap length e)
unmarked (x ∷ file) zero_first e = let s : x ≡ 83 = ap (λ (l : Bytes). get_or l 0 0) e in omega (arith, s, zero_first)

-- what is written after ten bytes comes after them
written_after : (file written : Bytes) → length file ≡ 10 → overwritten file 10 written ≡ file ++ written
written_after file written ten =
    ap (λ (l : Bytes). take 10 file ++ written ++ l) (drop_all (10 + length written) file (omega (arith, ten)))
    ∙ append-nil (take 10 file ++ written)
    ∙ ap (λ (l : Bytes). l ++ written) (take_all 10 file (omega (arith, ten)))

-- what was written after the blank head, and then over it
pub floor_is : (node cluster floor : ℕ) (file written : Bytes) → file ≡ blank_head node cluster → written ≡ floor_bytes floor
    → overwritten file 10 written ≡ blank_head node cluster ++ floor_bytes floor
floor_is node cluster floor file written before is =
    written_after file written (ap length before) ∙ (λ i. before i ++ is i)

pub mark_is : (node cluster floor : ℕ) (file : Bytes) → file ≡ blank_head node cluster ++ floor_bytes floor → overwritten file 0 (codes "SITEREC1") ≡ head node cluster ++ floor_bytes floor
mark_is node cluster floor file before = ap (λ (l : Bytes). overwritten l 0 (codes "SITEREC1")) before

module _ (node cluster floor : ℕ) where
  abbrev Fine : Bytes → Type 0
  Fine left = IsNoneOrFloor node cluster floor left

  -- a write after the blank head leaves no record
  pub floor_torn : (file left : Bytes) (size : ℕ) → file ≡ blank_head node cluster → IsTorn 10 size file left → IsNoneOrFloor node cluster floor left
  floor_torn file left size is torn = inl (inr (unmarked left (ap (λ (l : Bytes). get_or l 0 0) torn.before ∙ ap (λ (l : Bytes). get_or (take 10 l) 0 0) is)))

  module _ (d e : DiskState) (blank : LeavesOnly d e IsNoRecord) where
    pub then_blank : LeavesOnly d e (λ left. IsNoneOrFloor node cluster floor left)
    then_blank = weaker d e IsNoRecord Fine (λ left none. inl none) blank

    pub then_floor : (f : DiskState) (size : ℕ) → e.seen ≡ blank_head node cluster → LeavesOnly e f (λ left. IsTorn 10 size e.seen left) → LeavesOnly d f (λ left. IsNoneOrFloor node cluster floor left)
    then_floor f size is only = then d e f Fine then_blank (weaker e f (λ left. IsTorn 10 size e.seen left) Fine (λ left torn. floor_torn e.seen left size is torn) only)

  module _ (instance : IsInstance floor) where
    log : IsLog cluster (Batch (Floor floor ∷ []) ∷ [])
    log = log-push cluster [] (Batch (Floor floor ∷ [])) (log-none cluster) (λ none. omega (arith, ap length none), omega arith)
        (history-push cluster [] (Floor floor) (log-none cluster).history (record { in_range = instance; advances = refl }))

    pub whole : StandsFor node cluster (head node cluster ++ floor_bytes floor) (Floor floor ∷ [])
    whole = record {
      items = Batch (Floor floor ∷ []) ∷ [];
      laid = record {
        log = log;
        gate = 0;
        rest = [];
        closed = λ one. omega (arith, one);
        layout = ap (λ (l : Bytes). head node cluster ++ l ++ 0 ∷ []) (sym (append-nil (summed (blocks (Floor floor ∷ [])))));
      };
      same = refl;
    }

    -- a write of the mark leaves no record, or the whole one
    pub mark_torn : (file left : Bytes) → file ≡ blank_head node cluster ++ floor_bytes floor → IsTorn 0 8 file left → IsNoneOrFloor node cluster floor left
    mark_torn file left is torn = ⊎_elim
        (λ (marked : take 8 left ≡ codes "SITEREC1").
        let behind : drop 8 left ≡ node ∷ cluster ∷ floor_bytes floor = torn.after ∙ ap (λ (l : Bytes). drop 8 l) is in
        let all : left ≡ head node cluster ++ floor_bytes floor = sym (take-append-drop 8 left) ∙ (λ i. marked i ++ behind i) in
        inr (subst (λ (l : Bytes). StandsFor node cluster l (Floor floor ∷ [])) (sym all) whole))
        (λ other. inl (inr other))
        (bytes (take 8 left) (codes "SITEREC1"))

    pub then_mark : (d e f : DiskState) → LeavesOnly d e (λ left. IsNoneOrFloor node cluster floor left) → e.seen ≡ blank_head node cluster ++ floor_bytes floor → LeavesOnly e f (λ left. IsTorn 0 8 e.seen left)
        → LeavesOnly d f (λ left. IsNoneOrFloor node cluster floor left)
    then_mark d e f so_far is only = then d e f Fine so_far (weaker e f (λ left. IsTorn 0 8 e.seen left) Fine (λ left torn. mark_torn e.seen left is torn) only)

-- ---- what is left stands for the floor alone, or for nothing

stands_marked : (node cluster : ℕ) (file : Bytes) (entries : List Entry) → StandsFor node cluster file entries → ¬ IsNoRecord file
stands_marked node cluster file entries stands none = ⊎_elim
    (λ (few : length file < 11). omega (arith, few, ap length stands.laid.layout, length-append (item_blocks stands.items) (stands.laid.gate ∷ stands.laid.rest)))
    (λ other. other (ap (λ (l : Bytes). take 8 l) stands.laid.layout))
    none

pub floor_stays : FloorStays
floor_stays node cluster floor file entries left stands = ⊎_elim
    (λ (none : IsNoRecord file). absurd (stands_marked node cluster file entries stands none))
    (λ alone. stands_for_one node cluster file entries (Floor floor ∷ []) stands alone)
    left
