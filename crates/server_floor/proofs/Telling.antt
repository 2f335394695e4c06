-- What was told, place by place.
use Rattle.std.proofs.Common.{◌≡◌, inl, inr, ℕ, zero, suc, ◌+◌, ◌/◌, ◌<◌, ◌≤◌, ◌^◌, List, [], ◌∷◌, ◌++◌, length, map, take, slice_index_or, decimal, Bor, refl, sym, ap, subst, ⊎_elim, arith}
use Rattle.std.proofs.lemmas.Fmt.{decimal_is_IsNumeral}
use Rattle.std.proofs.lemmas.Str.Parse.{digit_at}
use Rattle.site_ids.specs.Ids.{IsNode}
use Rattle.site_ids.specs.Lists.{In, Distinct}
use Rattle.site_ids.specs.Majorities.{Majority}
use Rattle.engine_common.specs.Cuts.{Lacks, IsCut}
use Rattle.engine_common.proofs.CutLemmas.{Same, one_cut}
use Rattle.server_floor.specs.Told.{Fits, AreFitting, AreOthers, spelled, nodes_of, furthest}
use Rattle.server_floor.specs.declared.told.Told.{Told}

-- ---- members

pub stands : {X : Type 0} (xs : List X) (i : ℕ) (x : X) → i < length xs → x ≡ slice_index_or xs i x → In xs x
stands [] i x lt is = absurd (omega (arith, lt))
stands (y ∷ xs) zero x lt is = inl (sym is)
stands (y ∷ xs) (suc i) x lt is = inr (stands xs i x (omega arith) is)

pub node_stands : (told : List Told) (t : Told) → In told t → In (nodes_of told) t.node
node_stands [] t h = absurd h
node_stands (x ∷ told) t h = ⊎_elim (λ (e : x ≡ t). inl (ap (λ (y : Told). y.node) e)) (λ k. inr (node_stands told t k)) h

nodes_are : (n p : ℕ) (told : List Told) → AreOthers n p told → (q : ℕ) → In (nodes_of told) q → IsNode n q
nodes_are n p [] others q h = absurd h
nodes_are n p (t ∷ told) others q h = ⊎_elim (λ (e : t.node ≡ q). subst (IsNode n) e (others t (inl refl)).0) (λ k. nodes_are n p told (λ s m. others s (inr m)) q k) h

as_many : (told : List Told) → length (nodes_of told) ≡ length told
as_many [] = refl
as_many (t ∷ told) = ap suc (as_many told)

-- different nodes of the n, enough of them, are a majority
pub majority_of : (n p : ℕ) (told : List Told) → AreOthers n p told → Distinct (nodes_of told) → n / 2 + 1 ≤ length told → Majority n (nodes_of told)
majority_of n p told others distinct enough = record { distinct = distinct; nodes = nodes_are n p told others; enough = omega (arith, enough, as_many told) }

-- what is told of a node that was asked
pub told_of : (told : List Told) (q : ℕ) → In (nodes_of told) q → (t : Told) × In told t × (t.node ≡ q)
told_of [] q h = absurd h
told_of (t ∷ told) q h = ⊎_elim (λ (e : t.node ≡ q). (t, inl refl, e)) (λ k. let r = told_of told q k in (r.0, inr r.1, r.2)) h

-- no reach is further than the furthest
pub within_furthest : (told : List Told) (t : Told) → In told t → t.reach ≤ furthest told
within_furthest [] t h = absurd h
within_furthest (s ∷ told) t h = ⊎_elim (λ (e : s ≡ t). let same : s.reach ≡ t.reach = ap (λ (x : Told). x.reach) e in omega (arith, same)) (λ k. let r = within_furthest told t k in omega (arith, r)) h

-- ---- words

lacks_colon : (n : ℕ) → n < 2 ^ 64 → Lacks 58 (decimal n)
lacks_colon n small i l = let digit = digit_at (decimal n) i (decimal_is_IsNumeral n small).0.1 l in λ e. omega arith

pub told_cut : (t : Told) → Fits t → IsCut 58 (spelled t) (decimal t.node) (decimal t.reach)
told_cut t fits = record { whole = refl; first = lacks_colon t.node (omega (arith, fits.0.1)) }

-- what is cut at the colon are the node and its reach
pub told_parts : (word front back : List ℕ) (t : Told) → IsCut 58 word front back → Fits t → word ≡ spelled t → Same front back (decimal t.node) (decimal t.reach)
told_parts word front back t cut fits is = one_cut 58 word front back (decimal t.node) (decimal t.reach) cut (rw is (told_cut t fits))

-- what the word at a place tells
pub told_at : (told : List Told) (words : List (Bor (List ℕ))) (i : ℕ) (d : Bor (List ℕ)) → AreFitting told → map spelled told ≡ map (λ v. v.now) words
    → i < length words → (t : Told) × Fits t × ((slice_index_or words i d).now ≡ spelled t)
told_at told [] i d fit spell lt = absurd (omega (arith, lt))
told_at [] (v ∷ words) i d fit spell lt = cc
told_at (t ∷ told) (v ∷ words) zero d fit spell lt = let head : spelled t ≡ v.now = cc in (t, fit t (inl refl), sym head)
told_at (t ∷ told) (v ∷ words) (suc i) d fit spell lt =
    let tail : map spelled told ≡ map (λ (b : Bor (List ℕ)). b.now) words = cc in told_at told words i d (λ s m. fit s (inr m)) tail (omega arith)

-- one more
pub words_more : (words : List (Bor (List ℕ))) (i : ℕ) (d : Bor (List ℕ)) → i < length words
    → take (suc i) (map (λ v. v.now) words) ≡ take i (map (λ v. v.now) words) ++ (slice_index_or words i d).now ∷ []
words_more [] i d lt = absurd (omega (arith, lt))
words_more (v ∷ words) zero d lt = refl
words_more (v ∷ words) (suc i) d lt = ap (λ l. v.now ∷ l) (words_more words i d (omega arith))
