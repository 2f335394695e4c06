use Rattle.std.proofs.Common.{◌≡◌, ◌-◌, ◌<◌, ◌++◌, ◌∷◌, [], ℕ, List, length, take, drop, refl, sym, ◌∙◌, ap, arith, length-append, length-drop, append_assoc}
use Rattle.std.proofs.lemmas.List.{take_at}
use Rattle.durable.specs.Items.{sum_front, sum_of}
use Rattle.durable.proofs.Logs.{sum_size}
use Rattle.durable.proofs.staged.Staged.sum_up.Goals as goal

-- how long the front is, and so the whole
front_size : (front bytes : List ℕ) → front ≡ sum_front (length bytes) (sum_of bytes) → length front ≡ 18
front_size front bytes is = omega (arith, ap length is, sum_size bytes)

same_size : (front old new : List ℕ) → length front ≡ 18 → new ≡ front ++ drop (length front) old → 18 < length old → length new ≡ length old
same_size front old new size is some = omega (arith, size, ap length is, length-append front (drop (length front) old), length-drop (length front) old, some)

pub invariant_of-self : goal.invariant_of-self
invariant_of-self c =
    let size = same_size c.sum_front-front.result c.args.self.now.bytes.items c.write_front.new.bytes.items (front_size c.sum_front-front.result _ c.sum_front-front.ensures) c.write_front.ensures c.requires.open in
    record {
      near = λ long. c.args.self.now.near (omega (arith, long, size));
      room = λ some. omega (arith, size, c.requires.open);
    }

pub returns-clause-summed : goal.returns-clause-summed
returns-clause-summed c = λ blocks is.
    let old = c.args.self.now.bytes.items in
    let behind = drop 18 c.deref.result.now in
    let n = c.len-end.result - 1 - 18 in
    let split : behind ≡ blocks ++ 0 ∷ [] = ap (λ (l : List ℕ). drop 18 l) c.deref.ensures.value ∙ is in
    let long : n ≡ length blocks = omega (arith, c.len-end.ensures, ap length split, length-drop 18 c.deref.result.now, c.deref.ensures.len, length-append blocks (0 ∷ [])) in
    let same : take n behind ≡ blocks = ap (λ (l : List ℕ). take n l) split ∙ take_at blocks (0 ∷ []) n (sym long) in
    let front : c.sum_front-front.result ≡ sum_front (length blocks) (sum_of blocks) = c.sum_front-front.ensures ∙ ap (λ (l : List ℕ). sum_front (length l) (sum_of l)) same in
    let size = front_size c.sum_front-front.result blocks front in
    c.write_front.ensures ∙ (λ i. front i ++ drop (size i) old) ∙ ap (λ (l : List ℕ). sum_front (length blocks) (sum_of blocks) ++ l) is ∙ sym (append_assoc (sum_front (length blocks) (sum_of blocks)) blocks (0 ∷ []))

pub returns-clause-same : goal.returns-clause-same
returns-clause-same c = (same_size c.sum_front-front.result c.args.self.now.bytes.items c.write_front.new.bytes.items (front_size c.sum_front-front.result _ c.sum_front-front.ensures) c.write_front.ensures c.requires.open, refl)
