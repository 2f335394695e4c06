-- Messages at places of a list, and the nodes from one number on.
use Rattle.std.proofs.Common.{◌≡◌, ⊎_elim, ℕ, zero, suc, ◌+◌, ◌<◌, ◌≤◌, Some, List, [], ◌∷◌, ◌++◌, length, refl, subst, ◌∙◌, arith, append_assoc, length-append}
use Rattle.std.specs.Prelude.{slice_get, ⊤}
use Rattle.site_ids.specs.Ids.{IsNode}
use Rattle.site_ids.specs.Lists.{In, Distinct}
use Rattle.site_ids.specs.Majorities.{Majority}
use Rattle.wire.specs.declared.message.Message.{Message}
use Rattle.world.specs.Quiet.{quorum}

pub get_left : {X : Type 0} (xs ys : List X) (k : ℕ) (x : X) → slice_get xs k ≡ Some x → slice_get (xs ++ ys) k ≡ Some x
get_left [] ys k x e = (cc)
get_left (y ∷ xs) ys zero x e = e
get_left (y ∷ xs) ys (suc k) x e = get_left xs ys k x e

pub get_at : {X : Type 0} (xs ys : List X) (x : X) → slice_get (xs ++ x ∷ ys) (length xs) ≡ Some x
get_at [] ys x = refl
get_at (y ∷ xs) ys x = get_at xs ys x

pub get_within : {X : Type 0} (xs : List X) (k : ℕ) (x : X) → slice_get xs k ≡ Some x → k < length xs
get_within [] k x e = (cc)
get_within (y ∷ xs) zero x e = omega arith
get_within (y ∷ xs) (suc k) x e = let rest = get_within xs k x e in omega (arith, rest)

-- the messages are there one after another, from the place on
abbrev pub Stand : List Message → ℕ → List Message → Type 0
Stand sent k [] = ⊤
Stand sent k (m ∷ ms) = (slice_get sent k ≡ Some m) × Stand sent (suc k) ms

pub stand_left : (sent more : List Message) (k : ℕ) (ms : List Message) → Stand sent k ms → Stand (sent ++ more) k ms
stand_left sent more k [] h = tt
stand_left sent more k (m ∷ ms) h = (get_left sent more k m h.0, stand_left sent more (suc k) ms h.1)

push_length : (before : List Message) (m : Message) → length (before ++ m ∷ []) ≡ suc (length before)
push_length before m = length-append before (m ∷ []) ∙ (omega arith)

pub stand_behind : (before ms : List Message) → Stand (before ++ ms) (length before) ms
stand_behind before [] = tt
stand_behind before (m ∷ ms) = (
  get_at before ms m,
  subst (λ (l : List Message). Stand l (suc (length before)) ms) (append_assoc before (m ∷ []) ms)
      (subst (λ (k : ℕ). Stand ((before ++ m ∷ []) ++ ms) k ms) (push_length before m) (stand_behind (before ++ m ∷ []) ms)),
)

-- ---- nodes

-- k nodes, from node q on
abbrev pub nodes_from : ℕ → ℕ → List ℕ
nodes_from q zero = []
nodes_from q (suc k) = q ∷ nodes_from (suc q) k

pub among : (q k x : ℕ) → In (nodes_from q k) x → (q ≤ x) × (x < q + k)
among q zero x h = absurd h
among q (suc k) x h = ⊎_elim (λ (e : q ≡ x). (omega (arith, e), omega (arith, e))) (λ (h : In (nodes_from (suc q) k) x). let r = among (suc q) k x h in let a = r.0 in let b = r.1 in (omega (arith, a), omega (arith, b))) h

all_apart : (q k : ℕ) → Distinct (nodes_from q k)
all_apart q zero = tt
all_apart q (suc k) = ((λ h. let r = (among (suc q) k q h).0 in omega (arith, r)), all_apart (suc q) k)

so_many : (q k : ℕ) → length (nodes_from q k) ≡ k
so_many q zero = refl
so_many q (suc k) = let r = so_many (suc q) k in omega (arith, r)

pub quorum_within : (n q : ℕ) → 1 ≤ n → IsNode (quorum n) q → IsNode n q
quorum_within n q some h = let a = h.0 in let b = h.1 in (a, omega (arith, a, b, some))

pub quorum_majority : (n : ℕ) → 1 ≤ n → Majority n (nodes_from 1 (quorum n))
quorum_majority n some = record {
  distinct = all_apart 1 (quorum n);
  nodes = λ x h. let r = among 1 (quorum n) x h in let a = r.0 in let b = r.1 in quorum_within n x some (a, omega (arith, b));
  enough = let r = so_many 1 (quorum n) in omega (arith, r);
}
