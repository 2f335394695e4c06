-- Worked schedules of three nodes that all lose power. What a node kept is told again, and what it did not
-- keep is not.
use Rattle.std.specs.Prelude.{◌≡◌, ℕ, ◌+◌, Bool, true, false, if◌then◌else◌, None, Some, List, [], ◌∷◌, ◌++◌}
use Rattle.site_ids.specs.Ids.{BallotOf}
use Rattle.durable.specs.Entries.{Promised, Voted, Learned}
use Rattle.node.specs.Nodes.{Value}
use Rattle.world.specs.declared.event.Event.{Event}
use Rattle.world.specs.declared.event.Event.TheVariants.{Submit, Tick, Tell, Deliver, Crash, Restart, Keep}
use Rattle.world.specs.Worlds.{World, start}
use Rattle.world.specs.Taking.{TakesAll}
use Rattle.world.specs.Together.{tells_of, delivers_to}

-- node 2 gets a value decided by nodes 1 and 2; c messages were handed out before
abbrev pub decides_one : Value → ℕ → List Event
decides_one v c =
    Submit 2 v ∷ Tick 2 ∷ Deliver 1 c ∷ Deliver 2 c ∷ Deliver 2 (c + 1) ∷ Deliver 2 (c + 2) ∷ Deliver 1
    (c + 3) ∷ Deliver 2 (c + 3) ∷ Deliver 2 (c + 4) ∷ Deliver 2 (c + 5) ∷ []

-- a node receives a message about an instance, and keeps what it learned there, or does not
abbrev pub hears_one : Bool → ℕ → ℕ → ℕ → List Event
hears_one keeps p index i = Deliver p index ∷ (if keeps then Keep p i ∷ [] else [])

-- three values are decided while node 3 receives nothing; then node 2 reports them to it
abbrev pub catches_up : Bool → (ℕ → Value) → List Event
catches_up keeps v =
    decides_one (v 1) 0 ++ (decides_one (v 2) 6
    ++ (decides_one (v 3) 12
    ++ (Tell 2 1 ∷ hears_one keeps 3 18 1 ++ (hears_one keeps 3 19 2 ++ hears_one keeps 3 20 3))))

-- all nodes lose power, and nodes 2 and 3 start again. Each reports from instance 1 on, and receives what
-- both reported, which is `told` messages
abbrev pub starts_again : ℕ → List Event
starts_again told =
    Crash 1 0 ∷ Crash 2 0 ∷ Crash 3 0 ∷ Restart 2 ∷ Restart 3 ∷ tells_of (2 ∷ 3 ∷ []) 1
    ++ delivers_to (2 ∷ 3 ∷ []) 21 told

pub record KeptIsShown : Type 0 where
  pub v : ℕ → Value
  pub w : World
  pub takes : TakesAll 3 start (catches_up true v) w
  pub on_record : (w.node 3).entries ≡ Learned 1 (v 1) ∷ Learned 2 (v 2) ∷ Learned 3 (v 3) ∷ []
  pub after : World
  pub starts : TakesAll 3 w (starts_again 6) after
  pub known_2 : ((after.node 2).known 1 ≡ Some (v 1)) × ((after.node 2).known 2 ≡ Some (v 2))
      × ((after.node 2).known 3 ≡ Some (v 3))
  pub known_3 : ((after.node 3).known 1 ≡ Some (v 1)) × ((after.node 3).known 2 ≡ Some (v 2))
      × ((after.node 3).known 3 ≡ Some (v 3))

-- If node 3 kept nothing, neither of the two knows anything, though they are a majority, and node 2 has its
-- votes
pub record UnkeptIsLost : Type 0 where
  pub v : ℕ → Value
  pub w : World
  pub takes : TakesAll 3 start (catches_up false v) w
  pub knew : ((w.node 3).known 1 ≡ Some (v 1)) × ((w.node 3).known 2 ≡ Some (v 2))
      × ((w.node 3).known 3 ≡ Some (v 3))
  pub after : World
  pub starts : TakesAll 3 w (starts_again 3) after
  pub unknown_2 : ((after.node 2).known 1 ≡ None) × ((after.node 2).known 2 ≡ None)
      × ((after.node 2).known 3 ≡ None)
  pub unknown_3 : ((after.node 3).known 1 ≡ None) × ((after.node 3).known 2 ≡ None)
      × ((after.node 3).known 3 ≡ None)

-- ---- a vote after a learned value

abbrev pub by : ℕ → ℕ → BallotOf
by round node = record { round = round; node = node }

-- Node 1 proposes a value, and no other node receives the proposal yet. Nodes 1 and 2 decide another value at
-- a higher ballot. Node 3 learns and keeps that one, and then votes for the first
abbrev pub votes_late : (ℕ → Value) → List Event
votes_late v =
    Submit 1 (v 1) ∷ Tick 1 ∷ Deliver 1 0 ∷ Deliver 3 0 ∷ Deliver 1 1 ∷ Deliver 1 2 ∷ decides_one (v 2) 4
    ++ (Tell 2 1 ∷ Deliver 3 10 ∷ Keep 3 1 ∷ Deliver 3 3 ∷ Keep 3 1 ∷ Restart 3 ∷ Tell 3 1 ∷ Deliver 3 12
    ∷ [])

-- So a vote for another value may come after a learned one, at a ballot below the one that decided. That is
-- no damage, and the learned value is reported
pub record VotesForAnother : Type 0 where
  pub v : ℕ → Value
  pub w : World
  pub takes : TakesAll 3 start (votes_late v) w
  pub on_record : (w.node 3).entries ≡ Promised 1 (by 1 1) ∷ Learned 1 (v 2) ∷ Voted 1 (by 1 1) (v 1) ∷ []
  pub known : (w.node 3).known 1 ≡ Some (v 2)
