-- The entry in flight, from a failed put to the next opening.
use Rattle.std.proofs.Common.{◌≡◌, ◌≢◌, ◌⊎◌, inl, inr, ⊎_elim, ℕ, ◌≤◌, ◌<◌, Option, Some, List, ◌∷◌, ◌++◌, length, get_or, take, refl, sym, ap, subst, arith, codes, length-append}
use Rattle.site_disk.specs.Model.{DiskState, MayLeave, LeavesOnly, moment, after_sync}
use Rattle.durable.specs.Entries.{Entry}
use Rattle.durable.specs.Items.{item_blocks}
use Rattle.durable.specs.Standing.{StandsFor, IsNoRecord, IsOfAnother}
use Rattle.durable.specs.Keeping.{IsFound, Keeps, Settles}
use Rattle.durable.specs.Batches.{IsNoneOrAll, KeepsNoneOrAll}
use Rattle.durable.specs.Laws.{SettledKeeps, CrashSettles, OpeningSettles, SyncKeeps, NeverRefused, OpeningSettlesBatch, CrashSettlesBatch, SyncKeepsBatch, NeverRefusedBatch}
use Rattle.durable.proofs.Torn.{settled_leaves}
use Rattle.durable.proofs.Moments.{started, goes_on}
use Rattle.durable.proofs.Prefix.{stands_for_one}

abbrev Bytes : Type 0
Bytes = List ℕ

pub settled_keeps : SettledKeeps
settled_keeps node cluster entries d settled stands = record {
  read = (entries, inl refl, stands);
  left = λ left may. (entries, inl refl, (let P : Bytes → Type 0 = λ l. StandsFor node cluster l entries in subst P (sym (settled_leaves d left settled may)) stands));
}

-- a put whose device failed leaves its entry in flight
pub put_keeps : (node cluster : ℕ) (entries : List Entry) (entry : Entry) (d e : DiskState) → LeavesOnly d e (IsFound node cluster entries (Some entry)) → IsFound node cluster entries (Some entry) e.seen
    → Keeps node cluster entries (Some entry) e
put_keeps node cluster entries entry d e only here = record { read = here; left = λ left may. only.each.0 left may }

pub crash_settles : CrashSettles
crash_settles node cluster entries in_flight d left keeps may =
    let at = keeps.left left may in
    (at.0, at.1, λ past. settled_keeps node cluster at.0 _ (record { all_synced = refl; none_written = refl }) at.2)

pub opening_settles : OpeningSettles
opening_settles node cluster entries in_flight d found keeps here =
    let S : List Entry → Type 0 = λ l. Settles entries in_flight l in
    subst S (stands_for_one node cluster d.seen keeps.read.0 found keeps.read.2 here) keeps.read.1

synced_found : (node cluster : ℕ) (entries : List Entry) (in_flight : Option Entry) (d : DiskState) → Keeps node cluster entries in_flight d → (left : Bytes) → MayLeave (moment (after_sync d)) left → IsFound node cluster entries in_flight left
synced_found node cluster entries in_flight d keeps left may =
    let P : Bytes → Type 0 = λ l. IsFound node cluster entries in_flight l in
    subst P (sym (settled_leaves (after_sync d) left (record { all_synced = refl; none_written = refl }) may)) keeps.read

pub sync_keeps : SyncKeeps
sync_keeps node cluster entries in_flight d keeps =
    let P : Bytes → Type 0 = λ l. IsFound node cluster entries in_flight l in (
      record { read = keeps.read; left = synced_found node cluster entries in_flight d keeps },
      goes_on d d (after_sync d) P (started d P keeps.left) refl (synced_found node cluster entries in_flight d keeps),
    )

module _ (node cluster : ℕ) (file : Bytes) (entries : List Entry) (stands : StandsFor node cluster file entries) where
  not_unread : ¬ IsNoRecord file
  not_unread none =
      let size : 11 ≤ length file = omega (arith, ap length stands.laid.layout, length-append (item_blocks stands.items) (stands.laid.gate ∷ stands.laid.rest)) in
      ⊎_elim (λ (x : length file < 11). omega (arith, x, size)) (λ (x : take 8 file ≢ codes "SITEREC1"). x (ap (λ (l : Bytes). take 8 l) stands.laid.layout)) none

  not_another : ¬ IsOfAnother node cluster file
  not_another other = ⊎_elim (λ (x : get_or file 8 0 ≢ node). x (ap (λ (l : Bytes). get_or l 8 0) stands.laid.layout)) (λ (x : get_or file 9 0 ≢ cluster). x (ap (λ (l : Bytes). get_or l 9 0) stands.laid.layout)) other

pub never_refused : NeverRefused
never_refused node cluster entries in_flight d keeps =
    let found = keeps.read in
    (not_unread node cluster d.seen found.0 found.2, not_another node cluster d.seen found.0 found.2, λ damaged. damaged found.0 found.2)

kept_so : (node cluster : ℕ) (earlier batch : List Entry) (file : Bytes) → IsNoneOrAll node cluster earlier batch file → (found : List Entry) × ((found ≡ earlier) ⊎ (found ≡ earlier ++ batch)) × StandsFor node cluster file found
kept_so node cluster earlier batch file is = ⊎_elim (λ none. (earlier, inl refl, none)) (λ all. (earlier ++ batch, inr refl, all)) is

pub opening_settles_batch : OpeningSettlesBatch
opening_settles_batch node cluster earlier batch d found keeps here = ⊎_elim (λ none. inl (stands_for_one node cluster d.seen found earlier here none)) (λ all. inr (stands_for_one node cluster d.seen found (earlier ++ batch) here all)) keeps.read

pub crash_settles_batch : CrashSettlesBatch
crash_settles_batch node cluster earlier batch d left keeps may =
    let at = kept_so node cluster earlier batch left (keeps.left left may) in
    (at.0, at.1, λ past. settled_keeps node cluster at.0 _ (record { all_synced = refl; none_written = refl }) at.2)

synced_batch : (node cluster : ℕ) (earlier batch : List Entry) (d : DiskState) → KeepsNoneOrAll node cluster earlier batch d → (left : Bytes) → MayLeave (moment (after_sync d)) left → IsNoneOrAll node cluster earlier batch left
synced_batch node cluster earlier batch d keeps left may =
    let P : Bytes → Type 0 = λ l. IsNoneOrAll node cluster earlier batch l in
    subst P (sym (settled_leaves (after_sync d) left (record { all_synced = refl; none_written = refl }) may)) keeps.read

pub sync_keeps_batch : SyncKeepsBatch
sync_keeps_batch node cluster earlier batch d keeps =
    let P : Bytes → Type 0 = λ l. IsNoneOrAll node cluster earlier batch l in (
      record { read = keeps.read; left = synced_batch node cluster earlier batch d keeps },
      goes_on d d (after_sync d) P (started d P keeps.left) refl (synced_batch node cluster earlier batch d keeps),
    )

pub never_refused_batch : NeverRefusedBatch
never_refused_batch node cluster earlier batch d keeps =
    let found = kept_so node cluster earlier batch d.seen keeps.read in
    (not_unread node cluster d.seen found.0 found.2, not_another node cluster d.seen found.0 found.2, λ damaged. damaged found.0 found.2)
