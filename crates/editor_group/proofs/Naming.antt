-- The nodes of URLs, read one after the other.
use Rattle.std.proofs.Common.{◌≡◌, Result, Ok, Err, IfErr, IsErrAnd, inl, inr, ◌+◌, ◌<◌, ◌≤◌, ℕ, zero, suc, List, [], ◌∷◌, ◌++◌, length, take, get_or, refl, sym, ap, subst, arith}
use Rattle.std.proofs.lemmas.List.{take_more}
use Rattle.editor_common.specs.declared.editor_fault.EditorFault.{EditorFault}
use Rattle.editor_group.specs.Addresses.{AreNamed, IsRefused, Names, OneIsRefused}
use Rattle.editor_group.specs.declared.address.Address.{Address}

one_more : {X : Type 0} (url_of : X → List ℕ) (xs : List X) (nodes : List Address) (x : X) (node : Address)
    → AreNamed url_of xs nodes → Names (url_of x) node → AreNamed url_of (xs ++ x ∷ []) (nodes ++ node ∷ [])
one_more url_of [] [] x node all one = (one, tt)
one_more url_of [] (n ∷ ns) x node all one = absurd all
one_more url_of (y ∷ ys) [] x node all one = absurd all
one_more url_of (y ∷ ys) (n ∷ ns) x node all one = (all.0, one_more url_of ys ns x node all.1 one)

-- the node of the next URL, behind the others
pub next_named : {X : Type 0} (url_of : X → List ℕ) (xs : List X) (i : ℕ) (d : X)
    (nodes now : List Address) (node : Address)
    → i < length xs → now ≡ nodes ++ node ∷ [] → AreNamed url_of (take i xs) nodes
    → Names (url_of (get_or xs i d)) node → AreNamed url_of (take (i + 1) xs) now
next_named url_of xs i d nodes now node below more all one =
    subst (λ ns. AreNamed url_of (take (i + 1) xs) ns) (sym more)
    (subst (λ ys. AreNamed url_of ys (nodes ++ node ∷ [])) (sym (take_more xs i d below))
    (one_more url_of (take i xs) nodes (get_or xs i d) node all one))

whole : {X : Type 0} (xs : List X) (i : ℕ) → length xs ≤ i → take i xs ≡ xs
whole [] zero past = refl
whole [] (suc i) past = refl
whole (x ∷ xs) zero past = absurd (omega (arith, past))
whole (x ∷ xs) (suc i) past = ap (λ l. x ∷ l) (whole xs i (omega (arith, past)))

-- all of them
pub all_named : {X : Type 0} (url_of : X → List ℕ) (xs : List X) (i : ℕ) (nodes : List Address)
    → length xs ≤ i → AreNamed url_of (take i xs) nodes → AreNamed url_of xs nodes
all_named url_of xs i nodes past all = subst (λ l. AreNamed url_of l nodes) (whole xs i past) all

-- there are as many nodes as URLs
pub as_many : {X : Type 0} (url_of : X → List ℕ) (xs : List X) (nodes : List Address)
    → AreNamed url_of xs nodes → length nodes ≡ length xs
as_many url_of [] [] all = refl
as_many url_of [] (n ∷ ns) all = absurd all
as_many url_of (x ∷ xs) [] all = absurd all
as_many url_of (x ∷ xs) (n ∷ ns) all = ap suc (as_many url_of xs ns all.1)

-- one that is refused is among them
pub one_refused : {X : Type 0} (url_of : X → List ℕ) (xs : List X) (i : ℕ) (d : X) (why : EditorFault)
    → i < length xs → IsRefused (url_of (get_or xs i d)) why → OneIsRefused url_of xs why
one_refused url_of [] i d why below refused = absurd (omega (arith, below))
one_refused url_of (x ∷ xs) zero d why below refused = inl refused
one_refused url_of (x ∷ xs) (suc i) d why below refused = inr (one_refused url_of xs i d why (omega (arith, below)) refused)

-- what holds of a fault holds of the one that a `?` passes on
pub passes_on : {T : Type 0} (P : EditorFault → Type 0) (r : Result T EditorFault) (fault : EditorFault) → IsErrAnd r (λ y. y ≡ fault) → P fault → IfErr r P
passes_on P (Ok x) fault same holds = tt
passes_on P (Err y) fault same holds = subst P (sym same) holds
