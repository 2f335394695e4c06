-- What a node that has published all was fed: its known prefix.
use Rattle.std.proofs.Common.{◌≡◌, ℕ, zero, suc, ◌-◌, ◌<◌, Option, Some, None, List, [], ◌∷◌, length, refl, sym, ap, subst, ◌∙◌, arith}
use Rattle.std.specs.Prelude.{slice_get}
use Rattle.site_ids.specs.Ids.{IsNode}
use Rattle.node.specs.Nodes.{Value, Up, Node, opened, IsKnownPrefix}
use Rattle.world.specs.declared.machine.Machine.{Machine}
use Rattle.world.specs.declared.machine.Machine.TheVariants.{Open, Bare}
use Rattle.world.specs.declared.world.World.{World as Code}
use Rattle.world.specs.Worlds.{World, start}
use Rattle.world.specs.Standing.{IsMachineOf, HasPublished, IsWorldOf, IsPublishedAt}
use Rattle.world.specs.Telling.{fed_in, fed_at}

-- ---- a known prefix

pub there_at : {X : Type 0} (xs : List X) (k : ℕ) → k < length xs → (x : X) × (slice_get xs k ≡ Some x)
there_at [] k below = absurd (omega (arith, below))
there_at (x ∷ xs) zero below = (x, refl)
there_at (x ∷ xs) (suc k) below = there_at xs k (omega (arith, below))

no_value : (v : Value) → ◌≡◌ {A = Option Value} None (Some v) → ⊥
no_value v e = cc

not_longer : (s : Node) (us vs : List Value) → IsKnownPrefix s us → IsKnownPrefix s vs → ¬ (length us < length vs)
not_longer s us vs u v less = let more = there_at vs (length us) less in no_value more.0 (sym u.gap ∙ v.begins (length us) more.0 more.1)

one_value : (v u : Value) → ◌≡◌ {A = Option Value} (Some v) (Some u) → v ≡ u
one_value v u e = cc

shorter : (x y : Value) (xs ys : List Value) → length (x ∷ xs) ≡ length (y ∷ ys) → length xs ≡ length ys
shorter x y xs ys e = cc

-- lists of one length whose members are told by one map
one_list : (told : ℕ → Option Value) (us vs : List Value) → ((k : ℕ) (v : Value) → slice_get us k ≡ Some v → told k ≡ Some v) → ((k : ℕ) (v : Value) → slice_get vs k ≡ Some v → told k ≡ Some v)
    → length us ≡ length vs → us ≡ vs
one_list told [] [] u v long = refl
one_list told [] (y ∷ ys) u v long = cc
one_list told (x ∷ xs) [] u v long = cc
one_list told (x ∷ xs) (y ∷ ys) u v long =
    let first = one_value x y (sym (u 0 x refl) ∙ v 0 y refl) in
    let others = one_list (λ k. told (suc k)) xs ys (λ k w got. u (suc k) w got) (λ k w got. v (suc k) w got) (shorter x y xs ys long) in
    ap (λ z. z ∷ xs) first ∙ ap (λ l. y ∷ l) others

-- a node has one
pub one_prefix : (s : Node) (us vs : List Value) → IsKnownPrefix s us → IsKnownPrefix s vs → us ≡ vs
one_prefix s us vs u v =
    let a = not_longer s us vs u v in
    let b = not_longer s vs us v u in
    let long : length us ≡ length vs = omega (arith, a, b) in
    one_list (λ k. s.known (suc k)) us vs u.begins v.begins long

-- ---- what was published

-- of two nodes that a machine stands for both have published all, or neither
both_published : (n p : ℕ) (machine : Machine) (s t : Node) → IsMachineOf n p machine s → IsMachineOf n p machine t → HasPublished machine s → HasPublished machine t
both_published n p (Open code armed) s t at bt published =
    let i = suc (length code.releases) in
    record { begins = bt.stands.fed; gap = sym (bt.stands.parts.known.values i) ∙ at.stands.parts.known.values i ∙ published.gap }
both_published n p (Bare disk) s t at bt published = tt

-- and so in two worlds that a value stands for
pub published_alike : (code : Code) (a b : World) → IsWorldOf code a → IsWorldOf code b → (p : ℕ) → IsPublishedAt code a p → IsPublishedAt code b p
published_alike code a b is js p published k machine here got =
    let first : HasPublished machine (a.node (suc k)) = subst (λ (q : ℕ). HasPublished machine (a.node q)) here (published k machine here got) in
    subst (λ (q : ℕ). HasPublished machine (b.node q)) (sym here) (both_published code.cluster (suc k) machine (a.node (suc k)) (b.node (suc k)) (is.machines k machine got) (js.machines k machine got) first)

nothing_known : (n p : ℕ) (machine : Machine) → IsMachineOf n p machine (opened Up [] None) → HasPublished machine (opened Up [] None)
nothing_known n p (Open code armed) at = record { begins = at.stands.fed; gap = refl }
nothing_known n p (Bare disk) at = tt

-- as a world begins there is nothing to publish
pub start_published : (code : Code) → IsWorldOf code start → (p : ℕ) → IsPublishedAt code start p
start_published code stands p k machine here got = nothing_known code.cluster (suc k) machine (stands.machines k machine got)

fed_of : (n p : ℕ) (machine : Machine) (s : Node) → IsMachineOf n p machine s → HasPublished machine s → IsKnownPrefix s (fed_in (Some machine))
fed_of n p (Open code armed) s at published = published
fed_of n p (Bare disk) s at published = record { begins = λ k v lost. cc; gap = ap (λ (t : Node). t.known 1) at.down }

-- a node that has published all was fed its known prefix, or nothing if it is down
pub fed_whole : (code : Code) (w : World) (p : ℕ) → IsNode code.cluster p → IsWorldOf code w → IsPublishedAt code w p → IsKnownPrefix (w.node p) (fed_at code p)
fed_whole code w p node stands published =
    let k = p - 1 in
    let here : p ≡ suc k = omega (arith, node.0) in
    let below : k < length code.machines.items = omega (arith, node.0, node.1, code.all_there) in
    let machine = there_at code.machines.items k below in
    let mine : IsMachineOf code.cluster p machine.0 (w.node p) = subst (λ (q : ℕ). IsMachineOf code.cluster q machine.0 (w.node q)) (sym here) (stands.machines k machine.0 machine.1) in
    subst (λ (x : Option Machine). IsKnownPrefix (w.node p) (fed_in x)) (sym machine.1) (fed_of code.cluster p machine.0 (w.node p) mine (published k machine.0 here machine.1))
