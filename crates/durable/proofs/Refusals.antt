-- What an opening answers.
use Rattle.std.proofs.Common.{◌≡◌, ◌≢◌, ◌⊎◌, inl, inr, ⊎_elim, ℕ, ◌≤◌, ◌<◌, List, [], ◌∷◌, ◌++◌, length, get_or, take, drop, codes, Result, Ok, Err, OnErr, IfErr, refl, sym, ◌∙◌, ap, subst, arith, append_assoc, take-append-drop, length-drop}
use Rattle.std.specs.Result.{IsErrOf}
use Rattle.std.proofs.lemmas.List.{get_or-take, take-take, drop_more, length-take}
use Rattle.durable.specs.Damage.{IsDamagedAt}
use Rattle.durable.specs.Items.{Item, IsLog, item_blocks}
use Rattle.durable.specs.Reading.{AreSpelled}
use Rattle.durable.specs.Spelling.{head}
use Rattle.durable.specs.Standing.{HasHead, IsLaid, IsNoRecord, IsOfAnother, IsDamaged, IsRefusal}
use Rattle.durable.specs.declared.fault.RecordFault.{RecordFault}
use Rattle.durable.specs.declared.fault.RecordFault.TheVariants.{Device, OutOfMemory, NotARecord, WrongNode, Full, Damaged, Stopped}
use Rattle.durable.proofs.Logs.{log_items}
use Rattle.durable.proofs.Prefix.{one_begins}
use Rattle.durable.proofs.Results.{same_error}

abbrev Bytes : Type 0
Bytes = List ℕ

empty_of : (xs : Bytes) → length xs ≡ 0 → xs ≡ []
empty_of [] is = refl
empty_of (x ∷ xs) is = absurd (omega (arith, is))

-- a refusal for which no byte is a reason
pub by_device_or_memory : (fault : RecordFault) (node cluster : ℕ) (file : Bytes) → IsRefusal fault node cluster file → (¬ IsNoRecord file) × (¬ IsOfAnother node cluster file) × (¬ IsDamaged node cluster file)
    → (fault ≡ Device) ⊎ (fault ≡ OutOfMemory)
by_device_or_memory Device node cluster file h none = inl refl
by_device_or_memory OutOfMemory node cluster file h none = inr refl
by_device_or_memory NotARecord node cluster file h none = absurd (none.0 h)
by_device_or_memory WrongNode node cluster file h none = absurd (none.1 h.1)
by_device_or_memory Full node cluster file h none = absurd h
by_device_or_memory Damaged node cluster file h none = absurd (none.2 h.2)
by_device_or_memory Stopped node cluster file h none = absurd h

-- the items after the head of a file
pub behind_head : (node cluster : ℕ) (file : Bytes) (items : List Item) → IsLaid node cluster file items → AreSpelled (drop 10 file) items
behind_head node cluster file items s = record { gate = s.gate; rest = s.rest; closed = s.closed; layout = ap (λ (l : Bytes). drop 10 l) s.layout }

-- what the entries of a file whose head is right are refused for
pub refused_entries : {T : Type 0} (r : Result T RecordFault) (P : RecordFault → Type 0) → OnErr r (IsErrOf r Device ⊎ (IsErrOf r OutOfMemory ⊎ IsErrOf r Damaged))
    → ((fault : RecordFault) → r ≡ Err fault → (fault ≡ Device) ⊎ ((fault ≡ OutOfMemory) ⊎ (fault ≡ Damaged)) → P fault) → IfErr r P
refused_entries (Ok x) P why each = tt
refused_entries (Err fault) P why each = each fault refl
    (⊎_elim (λ is. inl (same_error (Err fault) fault Device refl is)) (λ other. inr (⊎_elim (λ is. inl (same_error (Err fault) fault OutOfMemory refl is)) (λ is. inr (same_error (Err fault) fault Damaged refl is)) other)) why)

-- what is read in front of a file is its head
pub head_there : (node cluster : ℕ) (file front : Bytes) → front ≡ take 10 file → 11 ≤ length file → take 8 front ≡ codes "SITEREC1" → get_or front 8 0 ≡ node → get_or front 9 0 ≡ cluster → HasHead node cluster file
head_there node cluster file front is long mark at8 at9 =
    let front_size : length front ≡ 10 = omega (arith, ap length is, length-take 10 file, long) in
    let last : drop 10 front ≡ [] = empty_of (drop 10 front) (omega (arith, length-drop 10 front, front_size)) in
    let split : drop 8 front ≡ get_or front 8 0 ∷ get_or front 9 0 ∷ [] = drop_more front 8 0 (omega (arith, front_size))
    ∙ ap (λ (l : Bytes). get_or front 8 0 ∷ l) (drop_more front 9 0 (omega (arith, front_size)) ∙ ap (λ (l : Bytes). get_or front 9 0 ∷ l) last) in (
      long,
      sym is ∙ sym (take-append-drop 8 front) ∙ ap (λ (l : Bytes). l ++ drop 8 front) mark ∙ ap (λ (l : Bytes). codes "SITEREC1" ++ l) split
          ∙ (λ i. codes "SITEREC1" ++ at8 i ∷ at9 i ∷ []),
    )

module _ (node cluster : ℕ) (file : Bytes) (head_is : HasHead node cluster file) where
  pub is_record : ¬ IsNoRecord file
  is_record none = ⊎_elim
      (λ (short : length file < 11). omega (arith, head_is.0, short))
      (λ (x : take 8 file ≢ codes "SITEREC1"). x (sym (take-take 8 10 file (omega arith)) ∙ ap (λ (l : Bytes). take 8 l) head_is.1)) none

  pub is_own : ¬ IsOfAnother node cluster file
  is_own other = ⊎_elim
      (λ (x : get_or file 8 0 ≢ node). x (sym (get_or-take 10 file 8 0 (omega arith)) ∙ ap (λ (l : Bytes). get_or l 8 0) head_is.1))
      (λ (x : get_or file 9 0 ≢ cluster). x (sym (get_or-take 10 file 9 0 (omega arith)) ∙ ap (λ (l : Bytes). get_or l 9 0) head_is.1)) other

  -- the items after the head are those of which the file is laid
  pub laid_whole : (items : List Item) → IsLog cluster items → AreSpelled (drop 10 file) items → IsLaid node cluster file items
  laid_whole items log s = record {
    log = log;
    gate = s.gate;
    rest = s.rest;
    closed = s.closed;
    layout = sym (take-append-drop 10 file) ∙ ap (λ (l : Bytes). l ++ drop 10 file) head_is.1 ∙ ap (λ (l : Bytes). head node cluster ++ l) s.layout
        ∙ sym (append_assoc (head node cluster) (item_blocks items) (s.gate ∷ s.rest));
  }

  -- a file that is damaged at some gate stands for no entries
  pub damaged_there : (gate : ℕ) → IsDamagedAt cluster gate file → IsRefusal Damaged node cluster file
  damaged_there gate at = (is_record, is_own, λ entries s. none s.items s.laid.log (behind_head node cluster file s.items s.laid))
    where
      none : (items : List Item) → IsLog cluster items → AreSpelled (drop 10 file) items → ⊥
      none items log s =
          let parts = one_begins cluster at.items items (drop gate file) s.rest s.gate s.closed (log_items cluster [] at.items at.log) (log_items cluster [] items log) (sym at.layout ∙ s.layout) in
          at.none parts.0 (subst (λ (l : List Item). IsLog cluster l) parts.1 log) (record { gate = s.gate; rest = s.rest; closed = λ _. s.closed; layout = parts.2 })

  -- the refusal of its items
  pub items_refused : (fault : RecordFault) → (fault ≡ Device) ⊎ ((fault ≡ OutOfMemory) ⊎ (fault ≡ Damaged)) → (fault ≡ Damaged → (gate : ℕ) × IsDamagedAt cluster gate file) → IsRefusal fault node cluster file
  items_refused fault why damaged =
      let P : RecordFault → Type 0 = λ f. IsRefusal f node cluster file in
      ⊎_elim (λ (is : fault ≡ Device). subst P (sym is) tt)
      (λ other. ⊎_elim (λ (is : fault ≡ OutOfMemory). subst P (sym is) (is_record, is_own))
      (λ (is : fault ≡ Damaged). subst P (sym is) (damaged_there (damaged is).0 (damaged is).1)) other) why
