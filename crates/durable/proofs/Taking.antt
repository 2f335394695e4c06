-- Entries that are taken, one after the other.
use Rattle.std.proofs.Common.{◌≡◌, ◌↔◌, ℕ, ◌+◌, ◌-◌, ◌≤◌, ◌<◌, ◌^◌, ◌≢◌, List, [], ◌∷◌, ◌++◌, length, get_or, take, drop, Option, None, Some, Result, Ok, Err, refl, sym, ◌∙◌, ap, subst, arith, length-append, length-take, length-drop, append_assoc, take-append-drop}
use Rattle.std.proofs.Math.Seq.{take-length}
use Rattle.std.proofs.lemmas.List.{append-nil}
use Rattle.durable.specs.Entries.{Entry}
use Rattle.durable.specs.Histories.{IsInRange, IsHistory, Advances}
use Rattle.durable.specs.Items.{Item, Put, Batch, entries_of, item_block, item_blocks}
use Rattle.durable.specs.Spelling.{block, blocks}
use Rattle.durable.specs.Reading.{AreBefore, AreRead, IsKept, Takes, TakesEntry, TakesEntries, IsDamagedEntry}
use Rattle.durable.specs.declared.fault.RecordFault.{RecordFault}
use Rattle.durable.specs.declared.fault.RecordFault.TheVariants.{Damaged}
use Rattle.durable.specs.declared.recorded.Recorded.{Recorded}
use Rattle.durable.proofs.Batches.{summed_size}
use Rattle.durable.proofs.Logs.{history_in_range, entries-push, item_blocks-push, whole-append}
use Rattle.durable.proofs.Piece.{read_before}
use Rattle.durable.proofs.Prefix.{block_back, batch_begins}
use Rattle.durable.proofs.Push.{history-push}

abbrev Bytes : Type 0
Bytes = List ℕ

-- an entry was taken, or none
pub some_taken : (cluster : ℕ) (bytes : Bytes) (old new : Recorded) (o : Option ℕ) (size : ℕ) → TakesEntry cluster bytes old new o → o ≡ Some size → (entry : Entry) × IsInRange cluster entry × TakesEntries cluster bytes size (entry ∷ []) old new
some_taken cluster bytes old new o size takes is = subst (λ (x : Option ℕ). TakesEntry cluster bytes old new x) is takes

pub none_taken : (cluster : ℕ) (bytes : Bytes) (old new : Recorded) (o : Option ℕ) → TakesEntry cluster bytes old new o → o ≡ None → (get_or bytes 0 0 ≢ 1) × (new ≡ old)
none_taken cluster bytes old new o takes is = subst (λ (x : Option ℕ). TakesEntry cluster bytes old new x) is takes

-- memory is as it was when only the gate moved
pub kept_at : (entries : List Entry) (gate : ℕ) (recorded : Recorded) → IsKept entries recorded → IsKept entries (record recorded { gate = gate })
kept_at entries gate recorded kept = record { round = kept.round; greatest = kept.greatest; slots = kept.slots; learned = kept.learned; floor = kept.floor; reach = kept.reach }

-- the bytes, split after a block
pub behind_block : (bytes b : Bytes) (size : ℕ) → take size bytes ≡ b → bytes ≡ b ++ drop size bytes
behind_block bytes b size here = sym (take-append-drop size bytes) ∙ ap (λ (l : Bytes). l ++ drop size bytes) here

-- an entry that advances those before it was taken
pub one_taken : (cluster : ℕ) (bytes : Bytes) (size : ℕ) (e : Entry) (old mid : Recorded) (new : Recorded) → IsInRange cluster e → size ≡ length (block e) → size ≤ length bytes → take size bytes ≡ block e
    → Takes e old mid (Ok tt) → new ≡ record mid { gate = mid.gate + size } → TakesEntries cluster bytes size (e ∷ []) old new
one_taken cluster bytes size e old mid new range is within here takes moved = subst (λ (r : Recorded). TakesEntries cluster bytes size (e ∷ []) old r) (sym moved) (record {
  within = within;
  spelled = here ∙ sym (append-nil (block e));
  gate = omega (arith, takes.0);
  behind = λ before at.
      let one = takes.1 before at.first at.kept in
      record {
        history = history-push cluster before e at.history (record { in_range = range; advances = one.0 });
        behind = omega (arith, takes.0, at.behind);
        first = (λ none. absurd (omega (arith, ap length none, length-append before (e ∷ []))), λ first. absurd (omega (arith, first, takes.0, at.behind, is)));
        kept = kept_at (before ++ e ∷ []) (mid.gate + size) mid one.1;
      };
})

pub refused_damaged : (e : Entry) (old new : Recorded) (fault : RecordFault) (r : Result (Unit {0}) RecordFault) → Takes e old new r → r ≡ Err fault → fault ≡ Damaged
    → (new.gate ≡ old.gate) × ((entries : List Entry) → (entries ≡ []) ↔ (old.gate ≡ 10) → IsKept entries old → ¬ Advances entries e)
refused_damaged e old new fault r takes was is = subst (λ (x : Result (Unit {0}) RecordFault). Takes e old new x) (was ∙ ap (λ (f : RecordFault). Err f) is) takes

-- one that doesn't is refused
pub one_refused : (cluster : ℕ) (bytes : Bytes) (size : ℕ) (e : Entry) (old new : Recorded) (fault : RecordFault) (r : Result (Unit {0}) RecordFault) → IsInRange cluster e → take size bytes ≡ block e
    → Takes e old new r → r ≡ Err fault → fault ≡ Damaged → IsDamagedEntry cluster bytes old
one_refused cluster bytes size e old new fault r range here takes was is =
    let split = behind_block bytes (block e) size here in (
      ap (λ (l : Bytes). get_or l 0 0) split,
      λ before f rest at history same.
          let follows = history before f [] refl in
          let one = (block_back cluster e f (drop size bytes) rest range follows.in_range (sym split ∙ same)).0 in
          (refused_damaged e old new fault r takes was is).1 before at.first at.kept (subst (λ (x : Entry). Advances before x) (sym one) follows.advances),
    )

-- what stands after `n` bytes
pub all_behind : (n : ℕ) (bytes : Bytes) → take (length bytes - n) (drop n bytes) ≡ drop n bytes
all_behind n bytes = ap (λ (k : ℕ). take k (drop n bytes)) (sym (length-drop n bytes)) ∙ take-length (drop n bytes)

-- ---- a batch

module _ (cluster : ℕ) (whole rest : Bytes) (entries : List Entry) (split : whole ≡ blocks entries ++ rest) (old now : Recorded) (taken : (before : List Entry) → AreBefore cluster before old → AreBefore cluster (before ++ entries) now) where
  -- entries that all of the bytes spell go on after those that were taken
  goes_on : (before others : List Entry) → AreBefore cluster before old → IsHistory cluster (before ++ others) → whole ≡ blocks others → (more : List Entry) × (others ≡ entries ++ more) × (rest ≡ blocks more)
  goes_on before others at history same = batch_begins cluster entries others rest (history_in_range cluster before entries (taken before at).history) (history_in_range cluster before others history) (sym split ∙ same)

  module _ (before others : List Entry) (at : AreBefore cluster before old) (history : IsHistory cluster (before ++ others)) (same : whole ≡ blocks others) (some : 0 < length rest) where
    -- the next of them
    next_one : (e : Entry) × (more : List Entry) × (rest ≡ block e ++ blocks more) × IsHistory cluster ((before ++ entries) ++ e ∷ [])
    next_one =
        let on = goes_on before others at history same in
        by on.0 on.1 on.2
      where
        history_to : (a b : List Entry) → IsHistory cluster (a ++ b) → IsHistory cluster a
        history_to a b h = λ earlier entry later is. h earlier entry (later ++ b) (ap (λ (l : List Entry). l ++ b) is ∙ append_assoc earlier (entry ∷ later) b)

        by : (more : List Entry) → others ≡ entries ++ more → rest ≡ blocks more → (e : Entry) × (more : List Entry) × (rest ≡ block e ++ blocks more) × IsHistory cluster ((before ++ entries) ++ e ∷ [])
        by [] is none = absurd (omega (arith, some, ap length none))
        by (e ∷ more) is there = (
          e,
          more,
          there,
          history_to ((before ++ entries) ++ e ∷ []) more (subst (λ (l : List Entry). IsHistory cluster l)
              (ap (λ (l : List Entry). before ++ l) is ∙ sym (append_assoc before entries (e ∷ more)) ∙ sym (append_assoc (before ++ entries) (e ∷ []) more)) history),
        )

    pub not_ended : get_or rest 0 0 ≢ 1 → ⊥
    not_ended closed = closed (ap (λ (l : Bytes). get_or l 0 0) next_one.2)

    pub not_refused : IsDamagedEntry cluster rest now → ⊥
    not_refused refused = refused.1 (before ++ entries) next_one.0 (blocks next_one.1) (taken before at) next_one.3 next_one.2

-- entries more were taken
pub more_taken : (cluster : ℕ) (entries more : List Entry) (rest : Bytes) (size : ℕ) (old mid new : Recorded) → ((before : List Entry) → AreBefore cluster before old → AreBefore cluster (before ++ entries) mid)
    → TakesEntries cluster rest size more mid new → (before : List Entry) → AreBefore cluster before old → AreBefore cluster (before ++ (entries ++ more)) new
more_taken cluster entries more rest size old mid new taken takes before at =
    subst (λ (l : List Entry). AreBefore cluster l new) (append_assoc before entries more) (takes.behind (before ++ entries) (taken before at))

-- ---- an item

-- an entry that was taken is an item more
pub put_read : (cluster : ℕ) (before : List Item) (bytes : Bytes) (size : ℕ) (e : Entry) (old new : Recorded) → AreRead cluster before old → TakesEntries cluster bytes size (e ∷ []) old new → AreRead cluster (before ++ Put e ∷ []) new
put_read cluster before bytes size e old new read takes =
    let after = takes.behind (entries_of before) (read_before cluster before old read) in
    let all = sym (entries-push before (Put e)) in
    record {
      log = record { whole = whole-append before (Put e ∷ []) read.log.whole (tt, tt); history = subst (λ (l : List Entry). IsHistory cluster l) all after.history };
      gate = omega (arith, takes.gate, read.gate, ap length takes.spelled, length-take size bytes, takes.within, length-append (block e) [], ap length (item_blocks-push before (Put e)), length-append (item_blocks before) (block e));
      kept = subst (λ (l : List Entry). IsKept l new) all after.kept;
    }

-- entries that were taken after their sum are an item more
pub batch_read : (cluster : ℕ) (before : List Item) (bytes : Bytes) (es : List Entry) (old mid new : Recorded) → AreRead cluster before old → TakesEntries cluster bytes (length bytes) es old mid → new ≡ record mid { gate = mid.gate + 18 }
    → 0 < length bytes → length bytes < 2 ^ 32 → bytes ≡ blocks es → AreRead cluster (before ++ Batch es ∷ []) new
batch_read cluster before bytes es old mid new read takes moved some counted is = subst (λ (r : Recorded). AreRead cluster (before ++ Batch es ∷ []) r) (sym moved)
    (let after = takes.behind (entries_of before) (read_before cluster before old read) in
    let all = sym (entries-push before (Batch es)) in
    record {
      log = record { whole = whole-append before (Batch es ∷ []) read.log.whole ((some_entries es is, omega (arith, counted, ap length is)), tt); history = subst (λ (l : List Entry). IsHistory cluster l) all after.history };
      gate = omega (arith, takes.gate, read.gate, ap length is, summed_size (blocks es), ap length (item_blocks-push before (Batch es)), length-append (item_blocks before) (item_block (Batch es)));
      kept = subst (λ (l : List Entry). IsKept l (record mid { gate = mid.gate + 18 })) all (kept_at (entries_of before ++ es) (mid.gate + 18) mid after.kept);
    })
  where
    some_entries : (es : List Entry) → bytes ≡ blocks es → es ≢ []
    some_entries es is none = omega (arith, some, ap length (is ∙ ap (λ (l : List Entry). blocks l) none))
