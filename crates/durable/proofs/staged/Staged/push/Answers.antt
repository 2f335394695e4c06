use Rattle.std.proofs.Common.{◌≡◌, ◌-◌, ◌++◌, ◌∷◌, [], ℕ, List, length, take, drop, sym, ◌∙◌, ap, arith, rules, append_assoc, length-append, length-take, length-drop, take-append-drop}
use Rattle.std.proofs.Math.ListN.{set}
use Rattle.std.proofs.lemmas.List.{set_at, drop_at}
use Rattle.durable.proofs.staged.Staged.push.Goals as goal

-- the gate that ends a list is opened, with an entry's bytes after it
opened_behind : (old bytes longer : List ℕ) (size : ℕ) → size ≡ length old → longer ≡ old ++ bytes → (front : List ℕ) → old ≡ front ++ 0 ∷ [] → set longer (size - 1) 1 ≡ front ++ 1 ∷ bytes
opened_behind old bytes longer size is more front split =
    ap (λ (l : List ℕ). set l (size - 1) 1) (more ∙ ap (λ (l : List ℕ). l ++ bytes) split ∙ append_assoc front (0 ∷ []) bytes)
    ∙ set_at front 0 bytes 1 (size - 1) (omega (arith, is, ap length split, length-append front (0 ∷ [])))

-- the same after the room for a sum
behind_room : (old bytes longer : List ℕ) (size : ℕ) → size ≡ length old → longer ≡ old ++ bytes → (front : List ℕ) → drop 18 old ≡ front ++ 0 ∷ [] → drop 18 (set longer (size - 1) 1) ≡ front ++ 1 ∷ bytes
behind_room old bytes longer size is more front split =
    let room = take 18 old in
    let room_size : length room ≡ 18 = omega (arith, length-take 18 old, length-drop 18 old, ap length split, length-append front (0 ∷ [])) in
    let whole : old ≡ (room ++ front) ++ 0 ∷ [] = sym (take-append-drop 18 old) ∙ ap (λ (l : List ℕ). room ++ l) split ∙ sym (append_assoc room front (0 ∷ [])) in
    ap (λ (l : List ℕ). drop 18 l) (opened_behind old bytes longer size is more (room ++ front) whole ∙ append_assoc room front (1 ∷ bytes)) ∙ drop_at room (front ++ 1 ∷ bytes) 18 room_size

pub returns-then-closed-eq-SUM_BLOCK-clause-waiting : goal.returns-then-closed-eq-SUM_BLOCK-clause-waiting
returns-then-closed-eq-SUM_BLOCK-clause-waiting c =
    behind_room c.args.self.now.bytes.items c.args.bytes.now c.extend_from_slice.new.self.items c.len-closed.result (search rules) c.in_ok-extend_from_slice.ensures.items

pub returns-else-closed-eq-SUM_BLOCK-clause-waiting : goal.returns-else-closed-eq-SUM_BLOCK-clause-waiting
returns-else-closed-eq-SUM_BLOCK-clause-waiting c =
    behind_room c.args.self.now.bytes.items c.args.bytes.now c.extend_from_slice.new.self.items c.len-closed.result (search rules) c.in_ok-extend_from_slice.ensures.items
