-- A plan's events, one more at the end.
use Rattle.std.proofs.Common.{◌≡◌, ℕ, zero, suc, ◌+◌, List, [], ◌∷◌, ◌++◌, sym, ap, ◌∙◌, append_assoc, arith}
use Rattle.world.specs.declared.event.Event.{Event}
use Rattle.world.specs.declared.event.Event.TheVariants.{Deliver}
use Rattle.world.specs.Quiet.{to_each, each_to}

no_more : (a : ℕ) → a ≡ a + 0
no_more a = omega arith

one_on : (a k : ℕ) → suc a + k ≡ a + suc k
one_on a k = omega arith

pub after_one : (k : ℕ) → k + 1 ≡ suc k
after_one k = omega arith

pub one_and : (index p k : ℕ) → p ≡ k + 1 → Deliver p index ≡ Deliver (1 + k) index
one_and index p k is = let e : p ≡ 1 + k = omega (arith, is) in ap (λ (q : ℕ). Deliver q index) e

pub each_to_push : (p index k : ℕ) → each_to p index (suc k) ≡ each_to p index k ++ Deliver p (index + k) ∷ []
each_to_push p index zero = ap (λ (j : ℕ). Deliver p j ∷ []) (no_more index)
each_to_push p index (suc k) = ap (λ (l : List Event). Deliver p index ∷ l) (each_to_push p (suc index) k ∙ ap (λ (j : ℕ). each_to p (suc index) k ++ Deliver p j ∷ []) (one_on index k))

pub to_each_push : (index q k : ℕ) → to_each index q (suc k) ≡ to_each index q k ++ Deliver (q + k) index ∷ []
to_each_push index q zero = ap (λ (j : ℕ). Deliver j index ∷ []) (no_more q)
to_each_push index q (suc k) = ap (λ (l : List Event). Deliver q index ∷ l) (to_each_push index (suc q) k ∙ ap (λ (j : ℕ). to_each index (suc q) k ++ Deliver j index ∷ []) (one_on q k))

-- one more event after those that are there
pub each_to_more : (old now new : List Event) (p index k next : ℕ) (event : Event) → now ≡ old ++ each_to p index k → new ≡ now ++ event ∷ [] → event ≡ Deliver p (index + k) → next ≡ suc k → new ≡ old ++ each_to p index next
each_to_more old now new p index k next event is more at on =
    more ∙ ap (λ (l : List Event). l ++ event ∷ []) is ∙ append_assoc old (each_to p index k) (event ∷ []) ∙ ap (λ (e : Event). old ++ (each_to p index k ++ e ∷ [])) at
    ∙ ap (λ (l : List Event). old ++ l) (sym (each_to_push p index k)) ∙ ap (λ (j : ℕ). old ++ each_to p index j) (sym on)

pub to_each_more : (old now new : List Event) (index q k next : ℕ) (event : Event) → now ≡ old ++ to_each index q k → new ≡ now ++ event ∷ [] → event ≡ Deliver (q + k) index → next ≡ suc k → new ≡ old ++ to_each index q next
to_each_more old now new index q k next event is more at on =
    more ∙ ap (λ (l : List Event). l ++ event ∷ []) is ∙ append_assoc old (to_each index q k) (event ∷ []) ∙ ap (λ (e : Event). old ++ (to_each index q k ++ e ∷ [])) at
    ∙ ap (λ (l : List Event). old ++ l) (sym (to_each_push index q k)) ∙ ap (λ (j : ℕ). old ++ to_each index q j) (sym on)
