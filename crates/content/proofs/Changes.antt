-- What is at each name, as one name changes.
use Rattle.std.proofs.Common.{◌≡◌, ℕ, List, [], ◌∷◌, ◌++◌, Bool, true, false, cond, Option, Some, option_and_then, bytes_eq, refl, ap, ◌∙◌}
use Rattle.std.specs.Map.{update}
use Rattle.command.specs.Action.{Kind, Action, Order}
use Rattle.command.specs.Site.{is_about, last_about, if_put, standing}
use Rattle.command.proofs.OneMoreLemmas.{last_more}
use Rattle.content.specs.View.{Named, at_name}

-- what stands at a kind and name after one more command
pub standing_more : {W : Type 0} (pick : Action → Option W) (kind : Kind) (name : List ℕ) (os : List Order) (o : Order)
    → option_and_then pick (standing kind name (os ++ o ∷ [])) ≡ cond (is_about kind name o.action) (option_and_then pick (if_put o.action)) (option_and_then pick (standing kind name os))
standing_more pick kind name os o = ap (λ l. option_and_then pick (option_and_then if_put l)) (last_more kind name os o) ∙ joined (is_about kind name o.action) o.action (last_about kind name os)
  where
    joined : (b : Bool) (a : Action) (l : Option Action)
        → option_and_then pick (option_and_then if_put (cond b (Some a) l)) ≡ cond b (option_and_then pick (if_put a)) (option_and_then pick (option_and_then if_put l))
    joined true a l = refl
    joined false a l = refl

-- each name has what stands there by a relation of the two
abbrev pub Fits : {V W : Type 0} → (Option V → Option W → Type 0) → (Action → Option W) → Kind → Named V → List Order → Type 0
Fits R pick kind entries orders = (name : List ℕ) → R (at_name name entries) (option_and_then pick (standing kind name orders))

-- nothing of that kind changes
pub stays : {V W : Type 0} (R : Option V → Option W → Type 0) (pick : Action → Option W) (kind : Kind) (entries : Named V) (os : List Order) (o : Order)
    → ((name : List ℕ) → is_about kind name o.action ≡ false) → Fits R pick kind entries os → Fits R pick kind entries (os ++ o ∷ [])
stays R pick kind entries os o never fits name = rw (standing_more pick kind name os o, never name) (fits name)

-- one name of that kind changes
pub changes : {V W : Type 0} (R : Option V → Option W → Type 0) (pick : Action → Option W) (kind : Kind) (old new : Named V) (os : List Order) (o : Order) (key : List ℕ) (v : Option V)
    → ((name : List ℕ) → at_name name new ≡ update bytes_eq (λ m. at_name m old) key v name) → ((name : List ℕ) → is_about kind name o.action ≡ bytes_eq key name)
    → R v (option_and_then pick (if_put o.action)) → Fits R pick kind old os → Fits R pick kind new (os ++ o ∷ [])
changes R pick kind old new os o key v written touched here fits name = rw (written name, standing_more pick kind name os o, touched name) (by (bytes_eq key name))
  where
    by : (b : Bool) → R (cond b v (at_name name old)) (cond b (option_and_then pick (if_put o.action)) (option_and_then pick (standing kind name os)))
    by true = here
    by false = fits name
