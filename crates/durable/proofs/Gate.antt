-- What the two steps of an append leave: after the closed gate, then at the gate.
use Rattle.std.proofs.Common.{◌≡◌, inl, inr, ℕ, zero, suc, add-one, ◌+◌, ◌≤◌, ◌<◌, List, [], ◌∷◌, ◌++◌, length, get_or, take, drop, refl, sym, ◌∙◌, ap, subst, arith, append_assoc}
use Rattle.std.proofs.lemmas.List.{take_at, drop_at, drop_more, get_or-take, length-take-le}
use Rattle.std.proofs.lemmas.Bool.{cases_eq}
use Rattle.site_disk.specs.Model.{IsTorn, overwritten}
use Rattle.durable.specs.Append.{IsClosedAt, IsOpenAt, IsAppendedOrNot}
use Rattle.durable.proofs.Torn.{overwritten_torn}

shorter : (n : ℕ) (xs : List ℕ) → take n (take (suc n) xs) ≡ take n xs
shorter zero xs = refl
shorter (suc n) [] = refl
shorter (suc n) (x ∷ xs) = ap (λ (l : List ℕ). x ∷ l) (shorter n xs)

-- a shorter front of what has the same front
take_front : (n : ℕ) (xs ys : List ℕ) → take (n + 1) xs ≡ take (n + 1) ys → take n xs ≡ take n ys
take_front n xs ys same =
    let P : ℕ → Type 0 = λ k. take k xs ≡ take k ys in
    sym (shorter n xs) ∙ ap (λ (l : List ℕ). take n l) (subst P (add-one n) same) ∙ shorter n ys

get_front : (n : ℕ) (xs ys : List ℕ) → take (n + 1) xs ≡ take (n + 1) ys → get_or xs n 0 ≡ get_or ys n 0
get_front n xs ys same = sym (get_or-take (n + 1) xs n 0 (omega arith)) ∙ ap (λ (l : List ℕ). get_or l n 0) same ∙ get_or-take (n + 1) ys n 0 (omega arith)

module _ (gate : ℕ) (file bytes : List ℕ) (at_gate : IsClosedAt gate file file) where
  pub behind : (left : List ℕ) → IsTorn (gate + 1) (length bytes) file left → IsClosedAt gate file left
  behind left torn = record {
    front = take_front gate left file torn.before;
    there = omega (arith, at_gate.there, torn.no_shorter);
    closed = λ one. at_gate.closed (sym (get_front gate left file torn.before) ∙ one);
  }

  abbrev staged : List ℕ
  staged = overwritten file (gate + 1) bytes

  staged_torn : IsTorn (gate + 1) (length bytes) file staged
  staged_torn = overwritten_torn file (gate + 1) bytes (omega (arith, at_gate.there))

  pub staged_size : gate < length staged
  staged_size = omega (arith, staged_torn.no_shorter, at_gate.there)

  abbrev rest : List ℕ
  rest = drop (gate + 1 + length bytes) file

  staged_behind : drop (gate + 1) staged ≡ bytes ++ rest
  staged_behind = ap (λ (l : List ℕ). drop (gate + 1) l) (append_assoc (take (gate + 1) file) bytes rest)
      ∙ drop_at (take (gate + 1) file) (bytes ++ rest) (gate + 1) (length-take-le (gate + 1) file (omega (arith, at_gate.there)))

  -- the gate's byte is any, what stands before and after it stays
  pub at_the_gate : (left : List ℕ) → IsTorn gate 1 staged left → IsAppendedOrNot gate file bytes left
  at_the_gate left torn =
      let there : gate < length left = omega (arith, torn.no_shorter, staged_size) in
      let front : take gate left ≡ take gate file = torn.before ∙ take_front gate staged file staged_torn.before in
      let split : drop gate left ≡ get_or left gate 0 ∷ bytes ++ rest = drop_more left gate 0 there ∙ ap (λ (l : List ℕ). get_or left gate 0 ∷ l) (torn.after ∙ staged_behind) in
      elim (cases_eq (get_or left gate 0) 1) [
        | inl one ↦ inr (record { front = front; rest = rest; behind = split ∙ ap (λ (b : ℕ). b ∷ bytes ++ rest) one })
        | inr other ↦ inl (record { front = front; there = there; closed = other })
      ]

  pub opened : (left : List ℕ) → left ≡ overwritten staged gate (1 ∷ []) → IsOpenAt gate file bytes left
  opened left is =
      let within : gate ≤ length staged = omega (arith, staged_size) in
      let front_size = length-take-le gate staged within in
      let whole : left ≡ take gate staged ++ 1 ∷ drop (gate + 1) staged = is ∙ append_assoc (take gate staged) (1 ∷ []) (drop (gate + 1) staged) in
      record {
        front = ap (λ (l : List ℕ). take gate l) whole ∙ take_at (take gate staged) (1 ∷ drop (gate + 1) staged) gate front_size ∙ take_front gate staged file staged_torn.before;
        rest = rest;
        behind = ap (λ (l : List ℕ). drop gate l) whole ∙ drop_at (take gate staged) (1 ∷ drop (gate + 1) staged) gate front_size ∙ ap (λ (l : List ℕ). 1 ∷ l) staged_behind;
      }
