-- A worked schedule of three nodes: one is lost and replaced. The new node is mute up to its floor, learns,
-- and votes above it.
use Rattle.std.specs.Prelude.{◌≡◌, ℕ, zero, suc, None, Some, List, [], ◌∷◌, ◌++◌}
use Rattle.site_ids.specs.Ids.{BallotOf}
use Rattle.wire.specs.declared.message.Message.{Message}
use Rattle.wire.specs.declared.message.Message.TheVariants as say
use Rattle.durable.specs.Entries.{Promised, Voted, Floor, Learned}
use Rattle.node.specs.Nodes.{Value}
use Rattle.world.specs.declared.event.Event.{Event}
use Rattle.world.specs.declared.event.Event.TheVariants.{Submit, Tick, Widen, Tell, Deliver, Restart, Replace}
use Rattle.world.specs.declared.event.Event.TheVariants.{Keep}
use Rattle.world.specs.Worlds.{World, start}
use Rattle.world.specs.Taking.{TakesAll}
use Rattle.world.specs.Decided.{Decides}

abbrev pub by_2 : ℕ → BallotOf
by_2 round = record { round = round; node = 2 }

-- values are submitted at node 2, as many as the last number says, from the k-th on
abbrev pub submits_each : (ℕ → Value) → ℕ → ℕ → List Event
submits_each v k zero = []
submits_each v k (suc more) = Submit 2 (v k) ∷ submits_each v (suc k) more

-- nodes 1 and 2 vote for the first value
abbrev pub before_loss : (ℕ → Value) → List Event
before_loss v = Submit 2 (v 1) ∷ Tick 2 ∷ Deliver 1 0 ∷ Deliver 2 0 ∷ Deliver 2 1 ∷ Deliver 2 2 ∷ Deliver 1 3
    ∷ Deliver 2 3 ∷ Deliver 2 4 ∷ Deliver 2 5 ∷ []

-- Node 1 is lost. No other node has voted past instance 1, so 65 is a floor. The new node learns the first
-- value from the old votes, its own among them, and keeps the value. At instance 2 it answers nothing, and
-- nodes 2 and 3 decide
abbrev pub mute_below : (ℕ → Value) → List Event
mute_below v =
    Replace 1 65 ∷ Restart 1 ∷ Deliver 1 4 ∷ Deliver 1 5 ∷ Keep 1 1 ∷ Submit 2 (v 2) ∷ Tick 2 ∷ Deliver 1 6
    ∷ Deliver 2 6 ∷ Deliver 3 6 ∷ Deliver 2 7 ∷ Deliver 2 8 ∷ Deliver 1 9 ∷ Deliver 2 9 ∷ Deliver 3 9
    ∷ Deliver 2 10 ∷ Deliver 2 11 ∷ []

-- Node 2 tries 63 values, at instances 3 to 65, and one at 66. There node 1 promises and votes
abbrev pub heard_above : (ℕ → Value) → List Event
heard_above v = submits_each v 3 63
    ++ (Widen 2 ∷ Submit 2 (v 66) ∷ Widen 2 ∷ Deliver 1 13 ∷ Deliver 2 13 ∷ Deliver 2 14 ∷ Deliver 2 15
    ∷ Deliver 1 16 ∷ Deliver 2 16 ∷ [])

-- node 1 is opened again, and receives what it reports of the value that it kept
abbrev pub opened_anew : List Event
opened_anew = Restart 1 ∷ Tell 1 1 ∷ Deliver 1 19 ∷ []

abbrev pub said_of_replaced : (ℕ → Value) → List Message
said_of_replaced v =
    say.Prepare 2 1 (by_2 1) 1
    ∷ say.Promise 1 1 (by_2 1) None
    ∷ say.Promise 2 1 (by_2 1) None
    ∷ say.Propose 2 1 (by_2 1) (v 1)
    ∷ say.Accepted 1 1 (by_2 1) (v 1)
    ∷ say.Accepted 2 1 (by_2 1) (v 1)
    ∷ say.Prepare 2 2 (by_2 2) 1
    ∷ say.Promise 2 2 (by_2 2) None
    ∷ say.Promise 3 2 (by_2 2) None
    ∷ say.Propose 2 2 (by_2 2) (v 2)
    ∷ say.Accepted 2 2 (by_2 2) (v 2)
    ∷ say.Accepted 3 2 (by_2 2) (v 2)
    ∷ say.Prepare 2 3 (by_2 3) 63
    ∷ say.Prepare 2 66 (by_2 4) 1
    ∷ say.Promise 1 66 (by_2 4) None
    ∷ say.Promise 2 66 (by_2 4) None
    ∷ say.Propose 2 66 (by_2 4) (v 66)
    ∷ say.Accepted 1 66 (by_2 4) (v 66)
    ∷ say.Accepted 2 66 (by_2 4) (v 66)
    ∷ []

-- With its vote the value at 66 is decided. Its record has the floor, what it learned, and what it promised
-- and voted for above the floor
pub record ReplacedVotes : Type 0 where
  pub v : ℕ → Value
  pub w : World
  pub takes : TakesAll 3 start (before_loss v ++ (mute_below v ++ heard_above v)) w
  pub said : w.sent ≡ said_of_replaced v
  pub on_record : (w.node 1).entries ≡ Floor 65 ∷ Learned 1 (v 1) ∷ Promised 66 (by_2 4) ∷ Voted 66 (by_2 4)
      (v 66) ∷ []
  pub decided : Decides 3 w.sent 66 (v 66)
  pub later : World
  pub opens : TakesAll 3 w opened_anew later
  pub tells : later.sent ≡ said_of_replaced v ++ say.Chosen 1 1 (v 1) ∷ []
  pub known : (later.node 1).known 1 ≡ Some (v 1)
