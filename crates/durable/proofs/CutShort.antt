-- What stands after the gate at which a record ends.
use Rattle.std.proofs.Common.{◌≡◌, ℕ, ◌+◌, ◌<◌, List, [], ◌∷◌, ◌++◌, length, get_or, take, drop, refl, sym, ◌∙◌, ap, arith, length-append, length-drop, length-take, append_assoc, take-append-drop}
use Rattle.std.specs.Prelude.{slice_set}
use Rattle.std.proofs.lemmas.List.{append-nil, take-take, drop_more, drop-drop, take_at, get_or-take}
use Rattle.durable.specs.Cutting.{HasBatchAfter}
use Rattle.durable.specs.Items.{sum_of, sum_front}
use Rattle.durable.specs.Reading.{HasNoSum, IsSumAt}
use Rattle.durable.proofs.Logs.{sum_size}
use Rattle.durable.proofs.Prefix.{front_back}

abbrev Bytes : Type 0
Bytes = List ℕ

module _ (gate : ℕ) (file : Bytes) where
  abbrev behind : Bytes
  behind = drop (gate + 1) file

  abbrev blocks_on : Bytes
  blocks_on = drop (gate + 18) file

  -- what is read there, with the gate opened
  opened : (front : Bytes) → gate < length file → front ≡ take 18 (drop gate file) → slice_set front 0 1 ≡ 1 ∷ take 17 behind
  opened front there is = ap (λ (l : Bytes). slice_set l 0 1) (is ∙ ap (λ (l : Bytes). take 18 l) (drop_more file gate 0 there))

  -- a sum that is read stands in front of what goes on
  goes_on : (front : Bytes) (size : ℕ) (sum : Bytes) → gate < length file → front ≡ take 18 (drop gate file) → IsSumAt (slice_set front 0 1) size sum → 1 ∷ behind ≡ sum_front size sum ++ blocks_on
  goes_on front size sum there is at =
      let same : 1 ∷ take 17 behind ≡ sum_front size sum
      = sym (ap (λ (l : Bytes). 1 ∷ l) (take-take 17 17 behind (omega arith))) ∙ sym (ap (λ (l : Bytes). take 18 l) (opened front there is)) ∙ at.front in
      ap (λ (l : Bytes). 1 ∷ l) (sym (take-append-drop 17 behind)) ∙ ap (λ (l : Bytes). l ++ drop 17 behind) same ∙ ap (λ (l : Bytes). sum_front size sum ++ l) (drop-drop 17 (gate + 1) file ∙ ap (λ (k : ℕ). drop k file) (omega arith))

  module _ (cut : HasBatchAfter gate file) where
    abbrev bytes : Bytes
    bytes = cut.blocks

    split : 1 ∷ behind ≡ sum_front (length bytes) (sum_of bytes) ++ (bytes ++ 1 ∷ cut.rest)
    split = cut.there ∙ append_assoc (sum_front (length bytes) (sum_of bytes)) bytes (1 ∷ cut.rest)

    -- so the file goes on
    pub long_enough : gate + 18 < length file
    long_enough = omega (arith, ap length split, length-drop (gate + 1) file, length-append bytes (1 ∷ cut.rest), sum_size bytes, length-append (sum_front (length bytes) (sum_of bytes)) (bytes ++ 1 ∷ cut.rest))

    -- a sum is read there
    pub sum_there : (front : Bytes) → front ≡ take 18 (drop gate file) → ¬ HasNoSum (slice_set front 0 1)
    sum_there front is none =
        let at : slice_set front 0 1 ≡ sum_front (length bytes) (sum_of bytes)
        = opened front (omega (arith, long_enough)) is ∙ ap (λ (l : Bytes). take 18 l) split ∙ take_at (sum_front (length bytes) (sum_of bytes)) (bytes ++ 1 ∷ cut.rest) 18 (omega (arith, sum_size bytes)) in
        none (length bytes) (sum_of bytes) [] cut.some cut.counted (sum_size bytes) (at ∙ sym (append-nil (sum_front (length bytes) (sum_of bytes))))

    -- and it is the batch's
    pub its_sum : (front : Bytes) (size : ℕ) (sum : Bytes) → front ≡ take 18 (drop gate file) → IsSumAt (slice_set front 0 1) size sum → (size ≡ length bytes) × (sum ≡ sum_of bytes) × (blocks_on ≡ bytes ++ 1 ∷ cut.rest)
    its_sum front size sum is at =
        front_back size (length bytes) sum (sum_of bytes) blocks_on (bytes ++ 1 ∷ cut.rest) at.counted cut.counted at.eight (sum_size bytes) (sym (goes_on front size sum (omega (arith, long_enough)) is at) ∙ split)

    pub longer : (front : Bytes) (size : ℕ) (sum : Bytes) → front ≡ take 18 (drop gate file) → IsSumAt (slice_set front 0 1) size sum → gate + 18 + size < length file
    longer front size sum is at =
        let its = its_sum front size sum is at in
        omega (arith, its.0, ap length its.2, length-drop (gate + 18) file, length-append bytes (1 ∷ cut.rest), long_enough)

    pub goes_open : (front batch : Bytes) (size : ℕ) (sum : Bytes) → front ≡ take 18 (drop gate file) → IsSumAt (slice_set front 0 1) size sum → batch ≡ take (size + 1) blocks_on → (get_or batch size 0 ≡ 1) × (sum ≡ sum_of (take size batch))
    goes_open front batch size sum is at read =
        let its = its_sum front size sum is at in
        let whole : batch ≡ bytes ++ 1 ∷ [] = read ∙ ap (λ (l : Bytes). take (size + 1) l) (its.2 ∙ sym (append_assoc bytes (1 ∷ []) cut.rest)) ∙ take_at (bytes ++ 1 ∷ []) cut.rest (size + 1) (omega (arith, its.0, length-append bytes (1 ∷ []))) in (
          ap (λ (l : Bytes). get_or l size 0) whole ∙ last_of bytes size its.0,
          its.1 ∙ ap (λ (l : Bytes). sum_of l) (sym (ap (λ (l : Bytes). take size l) whole ∙ take_at bytes (1 ∷ []) size (sym its.0))),
        )
      where
        last_of : (l : Bytes) (n : ℕ) → n ≡ length l → get_or (l ++ 1 ∷ []) n 0 ≡ 1
        last_of [] n is = ap (λ (k : ℕ). get_or (1 ∷ []) k 0) is
        last_of (x ∷ l) n is = ap (λ (k : ℕ). get_or (x ∷ l ++ 1 ∷ []) k 0) is ∙ last_of l (length l) refl

  -- what is read as such was cut short
  pub was_cut : (front batch : Bytes) (size : ℕ) (sum : Bytes) → front ≡ take 18 (drop gate file) → IsSumAt (slice_set front 0 1) size sum → gate + 18 + size < length file → batch ≡ take (size + 1) blocks_on
      → get_or batch size 0 ≡ 1 → sum ≡ sum_of (take size batch) → HasBatchAfter gate file
  was_cut front batch size sum is at long read one same =
      let bytes : Bytes = take size blocks_on in
      let size_is : length bytes ≡ size = omega (arith, length-take size blocks_on, length-drop (gate + 18) file, long) in
      let part : take size batch ≡ bytes = ap (λ (l : Bytes). take size l) read ∙ take-take size (size + 1) blocks_on (omega arith) in
      let gate_is : get_or blocks_on size 0 ≡ 1 = sym (get_or-take (size + 1) blocks_on size 0 (omega arith)) ∙ sym (ap (λ (l : Bytes). get_or l size 0) read) ∙ one in
      let whole : blocks_on ≡ bytes ++ 1 ∷ drop (size + 1) blocks_on
      = sym (take-append-drop size blocks_on) ∙ ap (λ (l : Bytes). bytes ++ l) (drop_more blocks_on size 0 (omega (arith, length-drop (gate + 18) file, long)) ∙ ap (λ (x : ℕ). x ∷ drop (size + 1) blocks_on) gate_is) in
      record {
        blocks = bytes;
        some = omega (arith, size_is, at.some);
        counted = omega (arith, size_is, at.counted);
        rest = drop (size + 1) blocks_on;
        there = goes_on front size sum (omega (arith, long)) is at ∙ (λ i. sum_front (sym size_is i) ((same ∙ ap (λ (l : Bytes). sum_of l) part) i) ++ whole i)
            ∙ sym (append_assoc (sum_front (length bytes) (sum_of bytes)) bytes (1 ∷ drop (size + 1) blocks_on));
      }
