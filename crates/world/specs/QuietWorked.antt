-- Worked plans: each is taken, and leads where it should.
use Rattle.std.specs.Prelude.{◌≡◌, ◌≢◌, ℕ, Some, List, [], ◌∷◌}
use Rattle.node.specs.Nodes.{Value}
use Rattle.world.specs.declared.event.Event.{Event}
use Rattle.world.specs.declared.event.Event.TheVariants.{Submit, Tick, Deliver}
use Rattle.world.specs.Worlds.{World, start}
use Rattle.world.specs.Taking.{TakesAll}
use Rattle.site_ids.specs.Ids.{IsNode}
use Rattle.world.specs.Quiet.{IsQuiet, IsPlan, one_attempt, overbid_first}

-- Nodes 2 and 3 have voted for node 1's value, and no vote was delivered. Node 2 learns that value first, and
-- after it its own at the next instance
abbrev pub two_votes : Value → Value → List Event
two_votes a b = Submit 1 a ∷ Submit 2 b ∷ Tick 1 ∷ Deliver 1 0 ∷ Deliver 2 0 ∷ Deliver 1 1 ∷ Deliver 1 2
    ∷ Deliver 2 3 ∷ Deliver 3 3 ∷ []

pub record VotesAreTakenUp : Type 0 where
  pub a : Value
  pub b : Value
  pub apart : a ≢ b
  pub before : World
  pub first : World
  pub second : World
  pub takes : TakesAll 3 start (two_votes a b) before
  pub plan : TakesAll 3 before (one_attempt 3 2 6 0) first
  pub next_plan : TakesAll 3 first (one_attempt 3 2 12 0) second
  pub known : (first.node 2).known 1 ≡ Some a
  pub own : (second.node 2).known 2 ≡ Some b

-- Nodes 1 and 2 have promised node 2's prepare, at a ballot above the one that node 1 begins with
pub record RefusalIsHeard : Type 0 where
  pub a : Value
  pub before : World
  pub after : World
  pub takes : TakesAll 3 start (Submit 1 a ∷ Tick 2 ∷ Deliver 1 0 ∷ Deliver 2 0 ∷ []) before
  pub plan : TakesAll 3 before (overbid_first 1 1 3 0 (one_attempt 3 1 5 0)) after
  pub known : (after.node 1).known 1 ≡ Some a

-- the start is quiet for each node, and has this plan
abbrev pub StartIsQuiet : Type 0
StartIsQuiet = (n p : ℕ) → IsNode n p → IsQuiet n start p × IsPlan n start p (one_attempt n p 0 0)

-- the last of nine nodes decides with the help of five
pub record NineAreEnough : Type 0 where
  pub a : Value
  pub before : World
  pub after : World
  pub takes : TakesAll 9 start (Submit 9 a ∷ []) before
  pub plan : TakesAll 9 before (one_attempt 9 9 0 0) after
  pub known : (after.node 9).known 1 ≡ Some a
