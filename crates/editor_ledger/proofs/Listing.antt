-- Tests, searches and filters of mapped lists, and one text more under a number.
use Rattle.std.proofs.Common.{◌≡◌, ℕ, ◌+◌, List, [], ◌∷◌, ◌++◌, length, map, filter, Bool, true, false, cond, Option, Some, None, option_map, refl, ap, ◌∙◌, arith}
use Rattle.std.specs.List.{find}
use Rattle.editor_ledger.specs.Books.{Given}
use Rattle.editor_ledger.specs.Steps.{numbered}

-- one text more takes the next number
pub numbered_push : (next : ℕ) (texts : List (List ℕ)) (t : List ℕ) → numbered next (texts ++ (t ∷ [])) ≡ numbered next texts ++ (record { number = next + length texts; text = t } ∷ [])
numbered_push next [] t = let first : next ≡ next + 0 = omega arith in ap (λ (n : ℕ). let g : Given = record { number = n; text = t } in g ∷ []) first
numbered_push next (u ∷ texts) t =
    let after : next + 1 + length texts ≡ next + length (u ∷ texts) = omega arith in
    let rest : numbered (next + 1) (texts ++ (t ∷ [])) ≡ numbered (next + 1) texts ++ (record { number = next + 1 + length texts; text = t } ∷ []) = numbered_push (next + 1) texts t in
    ap (λ gs. record { number = next; text = u } ∷ gs) (rest ∙ ap (λ (n : ℕ). numbered (next + 1) texts ++ (let g : Given = record { number = n; text = t } in g ∷ [])) after)

find_head : {X Y : Type 0} (b : Bool) (p : X → Bool) (h : Y → X) (y : Y) (ys : List Y) → find p (map h ys) ≡ option_map h (find (λ z. p (h z)) ys)
    → cond b (Some (h y)) (find p (map h ys)) ≡ option_map h (cond b (Some y) (find (λ z. p (h z)) ys))
find_head true p h y ys later = refl
find_head false p h y ys later = later

pub find_map : {X Y : Type 0} (p : X → Bool) (h : Y → X) (ys : List Y) → find p (map h ys) ≡ option_map h (find (λ y. p (h y)) ys)
find_map p h [] = refl
find_map p h (y ∷ ys) = find_head (p (h y)) p h y ys (find_map p h ys)

filter_head : {X Y : Type 0} (b : Bool) (p : X → Bool) (h : Y → X) (y : Y) (ys : List Y) → map h (filter (λ z. p (h z)) ys) ≡ filter p (map h ys)
    → map h (cond b (y ∷ filter (λ z. p (h z)) ys) (filter (λ z. p (h z)) ys)) ≡ cond b (h y ∷ filter p (map h ys)) (filter p (map h ys))
filter_head true p h y ys later = ap (λ zs. h y ∷ zs) later
filter_head false p h y ys later = later

pub filter_map_is : {X Y : Type 0} (p : X → Bool) (h : Y → X) (ys : List Y) → map h (filter (λ y. p (h y)) ys) ≡ filter p (map h ys)
filter_map_is p h [] = refl
filter_map_is p h (y ∷ ys) = filter_head (p (h y)) p h y ys (filter_map_is p h ys)

pub option_map_map : {X Y Z : Type 0} (f : Y → Z) (g : X → Y) (o : Option X) → option_map f (option_map g o) ≡ option_map (λ x. f (g x)) o
option_map_map f g None = refl
option_map_map f g (Some x) = refl
