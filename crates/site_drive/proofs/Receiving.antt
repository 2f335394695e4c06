-- What a receive gives of a datagram.
use Rattle.std.proofs.Common.{◌≡◌, ℕ, zero, suc, ◌+◌, ◌<◌, min, slice_index_or, List, [], ◌∷◌, ◌++◌, take, drop, map, length, Vec, refl, sym, ap, subst, ◌∙◌, arith}
use Rattle.std.proofs.lemmas.List.{length-append, length-take, length-drop, take_min}
use Rattle.std.proofs.Math.Seq.{take-append_seam}

pub take_of_take : {X : Type 0} (n : ℕ) (xs : List X) → take n xs ≡ take (length xs) (take n xs)
take_of_take zero [] = refl
take_of_take zero (x ∷ xs) = refl
take_of_take (suc n) [] = refl
take_of_take (suc n) (x ∷ xs) = ap (λ l. x ∷ l) (take_of_take n xs)

take_more : {A : Type 0} (queue : List (Vec ℕ A)) (k : ℕ) (d : Vec ℕ A) → k < length queue → d ≡ slice_index_or queue k d
    → take k (map (λ x. x.items) queue) ++ d.items ∷ [] ≡ take (suc k) (map (λ x. x.items) queue)
take_more [] k d below got = absurd (omega (arith, below))
take_more (y ∷ ys) zero d below got = ap (λ x. x.items ∷ []) got
take_more (y ∷ ys) (suc k) d below got = ap (λ l. y.items ∷ l) (take_more ys k d (omega (arith, below)) got)

pub one_received : {A : Type 0} (queue : List (Vec ℕ A)) (k : ℕ) (d : Vec ℕ A) (ds : List (List ℕ)) → k < length queue → d ≡ slice_index_or queue k d
    → ds ≡ take k (map (λ x. x.items) queue) → ds ++ d.items ∷ [] ≡ take (k + 1) (map (λ x. x.items) queue)
one_received queue k d ds below got is =
    let next : suc k ≡ k + 1 = omega arith in
    ap (λ l. l ++ d.items ∷ []) is ∙ take_more queue k d below got ∙ ap (λ i. take i (map (λ x. x.items) queue)) next

-- as much of it as the slice holds
pub cut_to : (n : ℕ) (d piece buf : List ℕ) → n ≡ min (length d) (length buf) → piece ≡ take n d
    → take n (piece ++ drop n buf) ≡ take (length (piece ++ drop n buf)) d
cut_to n d piece buf n_is is =
    let long : length piece ≡ n = ap length is ∙ length-take n d ∙ omega (arith, n_is) in
    let whole : length (piece ++ drop n buf) ≡ length buf = omega (arith, length-append piece (drop n buf), long, length-drop n buf, n_is) in
    let front : take n (piece ++ drop n buf) ≡ piece = subst (λ k. take k (piece ++ drop n buf) ≡ piece) long (take-append_seam piece (drop n buf)) in
    let least : min (length buf) (length d) ≡ n = omega (arith, n_is) in
    front ∙ is ∙ ap (λ k. take k d) (sym least) ∙ take_min (length buf) d ∙ ap (λ k. take k d) (sym whole)
