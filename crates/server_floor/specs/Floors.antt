-- Which floor a record of node p of n has, if it takes the place of a lost one.
use Rattle.std.specs.Prelude.{◌≡◌, ◌≢◌, ℕ, ◌+◌, ◌/◌, ◌<◌, map, List, length}
use Rattle.site_ids.specs.Ids.{IsInstance}
use Rattle.site_ids.specs.Lists.{Distinct}
use Rattle.site_ids.specs.Majorities.{Majority}
use Rattle.site_ids.specs.declared.TheConstants.{MAX_INSTANCE}
use Rattle.proposer.specs.declared.TheConstants.{MAX_ATTEMPTS}
use Rattle.server_floor.specs.Told.{spelled, nodes_of, furthest, AreFitting, AreOthers}
use Rattle.server_floor.specs.declared.fault.FloorFault.{FloorFault}
use Rattle.server_floor.specs.declared.fault.FloorFault.TheVariants.{OutOfMemory, NotTold, NotAnother, Twice}
use Rattle.server_floor.specs.declared.fault.FloorFault.TheVariants.{TooFew, TooFar}
use Rattle.server_floor.specs.declared.told.Told.{Told}

-- a majority of the n was asked, node p is not among them, and the floor is 64 above the furthest reach
pub record IsFloorAbove (n p : ℕ) (told : List Told) (floor : ℕ) : Type 0 where
  pub others : AreOthers n p told
  pub majority : Majority n (nodes_of told)
  pub above : floor ≡ furthest told + MAX_ATTEMPTS
  pub instance : IsInstance floor

-- the first of these that applies
abbrev pub Refuses : ℕ → ℕ → List Told → FloorFault → Type 0
Refuses n p told NotAnother = ¬ AreOthers n p told
Refuses n p told Twice = AreOthers n p told × ¬ Distinct (nodes_of told)
Refuses n p told TooFew = AreOthers n p told × Distinct (nodes_of told) × (length told < n / 2 + 1)
Refuses n p told TooFar = AreOthers n p told × Majority n (nodes_of told)
    × (MAX_INSTANCE < furthest told + MAX_ATTEMPTS)
Refuses n p told _ = ⊥

-- ---- in words

-- the words give this floor
pub record NamesFloor (n p : ℕ) (words : List (List ℕ)) (floor : ℕ) : Type 0 where
  pub told : List Told
  pub fit : AreFitting told
  pub spell : map spelled told ≡ words
  pub is : IsFloorAbove n p told floor

-- a word is not a node and its reach; or the reaches that the words spell are refused
abbrev pub RefusesWords : ℕ → ℕ → List (List ℕ) → FloorFault → Type 0
RefusesWords n p words NotTold = (told : List Told) → AreFitting told → map spelled told ≢ words
RefusesWords n p words OutOfMemory = ⊥
RefusesWords n p words fault = (told : List Told) × AreFitting told × (map spelled told ≡ words)
    × Refuses n p told fault
