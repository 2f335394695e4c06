-- What a link is given, one more.
use Rattle.std.proofs.Common.{◌≡◌, ℕ, zero, suc, ◌+◌, ◌<◌, ◌≤◌, inl, inr, slice_index_or, List, [], ◌∷◌, ◌++◌, length, map, take, drop, refl, sym, ap, ◌∙◌, append_assoc, append-nil, arith}
use Rattle.std.proofs.Math.Seq.{take-append_seam}
use Rattle.std.proofs.lemmas.Grind.{flat_map-append}
use Rattle.std.proofs.lemmas.List.{map-append, take-append-drop}
use Rattle.site_ids.specs.Lists.{In}
use Rattle.wire.specs.declared.message.Message.{Message}
use Rattle.node.specs.declared.to.To.{To}
use Rattle.site_drive.specs.Drives.{up_to, addressed, sent_of}

-- to the next node too
pub next_to : (k p : ℕ) (d : List ℕ) (gs : List (ℕ × List ℕ)) → p ≡ k + 1
    → (gs ++ map (λ q. (q, d)) (up_to k)) ++ (p, d) ∷ [] ≡ gs ++ map (λ q. (q, d)) (up_to (k + 1))
next_to k p d gs is =
    let next : suc k ≡ k + 1 = omega arith in
    let whose : p ≡ suc k = omega (arith, is) in
    append_assoc gs (map (λ q. (q, d)) (up_to k)) ((p, d) ∷ [])
    ∙ ap (λ (q : ℕ). gs ++ (map (λ q. (q, d)) (up_to k) ++ (q, d) ∷ [])) whose
    ∙ ap (λ (l : List (ℕ × List ℕ)). gs ++ l) (sym (map-append (λ (q : ℕ). (q, d)) (up_to k) (suc k ∷ [])))
    ∙ ap (λ (i : ℕ). gs ++ map (λ q. (q, d)) (up_to i)) next

pub take_more : {X : Type 0} (xs : List X) (k : ℕ) (x : X) → k < length xs → x ≡ slice_index_or xs k x → take (suc k) xs ≡ take k xs ++ x ∷ []
take_more [] k x below got = absurd (omega (arith, below))
take_more (y ∷ ys) zero x below got = ap (λ z. z ∷ []) (sym got)
take_more (y ∷ ys) (suc k) x below got = ap (λ l. y ∷ l) (take_more ys k x (omega (arith, below)) got)

pub in_at : {X : Type 0} (xs : List X) (k : ℕ) (x : X) → k < length xs → x ≡ slice_index_or xs k x → In xs x
in_at [] k x below got = absurd (omega (arith, below))
in_at (y ∷ ys) zero x below got = inl (sym got)
in_at (y ∷ ys) (suc k) x below got = inr (in_at ys k x (omega (arith, below)) got)

pub take_past : {X : Type 0} (xs : List X) (k : ℕ) → length xs ≤ k → take k xs ≡ xs
take_past [] zero past = refl
take_past [] (suc k) past = refl
take_past (y ∷ ys) zero past = absurd (omega (arith, past))
take_past (y ∷ ys) (suc k) past = ap (λ l. y ∷ l) (take_past ys k (omega (arith, past)))

-- the next message too
pub next_given : (n : ℕ) (items : List (To × Message)) (i : ℕ) (x : To × Message) (gs : List (ℕ × List ℕ)) → i < length items → x ≡ slice_index_or items i x
    → (gs ++ sent_of n (take i items)) ++ addressed n x ≡ gs ++ sent_of n (take (i + 1) items)
next_given n items i x gs below got =
    let next : suc i ≡ i + 1 = omega arith in
    let one : sent_of n (x ∷ []) ≡ addressed n x = append-nil (addressed n x) in
    append_assoc gs (sent_of n (take i items)) (addressed n x)
    ∙ ap (λ (l : List (ℕ × List ℕ)). gs ++ (sent_of n (take i items) ++ l)) (sym one)
    ∙ ap (λ (l : List (ℕ × List ℕ)). gs ++ l) (sym (flat_map-append (addressed n) (take i items) (x ∷ [])))
    ∙ ap (λ (l : List (To × Message)). gs ++ sent_of n l) (sym (take_more items i x below got))
    ∙ ap (λ (k : ℕ). gs ++ sent_of n (take k items)) next

-- what was given so far begins what is to be given
pub given_begins : (n : ℕ) (items : List (To × Message)) (i : ℕ) → sent_of n (take i items) ≡ take (length (sent_of n (take i items))) (sent_of n items)
given_begins n items i =
    let split : sent_of n items ≡ sent_of n (take i items) ++ sent_of n (drop i items) =
    ap (sent_of n) (sym (take-append-drop i items)) ∙ flat_map-append (addressed n) (take i items) (drop i items)
    in
    sym (ap (take (length (sent_of n (take i items)))) split ∙ take-append_seam (sent_of n (take i items)) (sent_of n (drop i items)))

-- all of them
pub all_given : (n : ℕ) (items : List (To × Message)) (i : ℕ) → length items ≤ i → sent_of n (take i items) ≡ sent_of n items
all_given n items i past = ap (sent_of n) (take_past items i past)
