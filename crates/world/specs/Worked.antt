-- Worked schedules of three nodes, each event of which is taken, with the messages that they lead to.
use Rattle.std.specs.Prelude.{◌≡◌, ◌≢◌, ℕ, ◌+◌, Some, None, List, [], ◌∷◌, ◌++◌}
use Rattle.site_ids.specs.Ids.{BallotOf}
use Rattle.site_ids.specs.declared.value.Vote.{Vote}
use Rattle.wire.specs.declared.message.Message.{Message}
use Rattle.wire.specs.declared.message.Message.TheVariants as say
use Rattle.node.specs.Nodes.{Value}
use Rattle.world.specs.declared.event.Event.{Event}
use Rattle.world.specs.declared.event.Event.TheVariants.{Submit, Tick, Widen, Ask, Deliver, Arm, Crash}
use Rattle.world.specs.declared.event.Event.TheVariants.{Restart}
use Rattle.world.specs.Worlds.{World, start}
use Rattle.world.specs.Taking.{TakesAll}
use Rattle.durable.specs.Entries.{PromisedSpan, Voted}
use Rattle.world.specs.Decided.{Decides, Publishes}

abbrev pub at : ℕ → ℕ → BallotOf
at round node = record { round = round; node = node }

abbrev pub vote : BallotOf → Value → Vote
vote b v = record { ballot = b; value = v }

-- ---- a duel

-- Nodes 1 and 2 both begin at instance 1. Node 2's ballot is the higher one, so nodes 2 and 3 refuse node 1's
-- proposal, and vote for that of node 2. Node 1 learns this, and begins again at instance 2, a round higher
abbrev pub duel : Value → Value → List Event
duel a b =
    Submit 1 a ∷ Submit 2 b ∷ Tick 1 ∷ Tick 2 ∷ Deliver 1 0 ∷ Deliver 2 0 ∷ Deliver 2 1 ∷ Deliver 3 1
    ∷ Deliver 1 2 ∷ Deliver 1 3 ∷ Deliver 1 6 ∷ Deliver 2 6 ∷ Deliver 3 6 ∷ Deliver 2 4
    ∷ Deliver 2 5 ∷ Deliver 2 10 ∷ Deliver 3 10 ∷ Deliver 1 11 ∷ Deliver 1 12 ∷ Deliver 2 11 ∷ Deliver 2 12
    ∷ Deliver 1 8 ∷ Tick 1 ∷ []

abbrev pub said_in_duel : Value → Value → List Message
said_in_duel a b =
    say.Prepare 1 1 (at 1 1) 1
    ∷ say.Prepare 2 1 (at 1 2) 1
    ∷ say.Promise 1 1 (at 1 1) None
    ∷ say.Promise 2 1 (at 1 1) None
    ∷ say.Promise 2 1 (at 1 2) None
    ∷ say.Promise 3 1 (at 1 2) None
    ∷ say.Propose 1 1 (at 1 1) a
    ∷ say.Accepted 1 1 (at 1 1) a
    ∷ say.Nack 2 1 (at 1 1) (at 1 2)
    ∷ say.Nack 3 1 (at 1 1) (at 1 2)
    ∷ say.Propose 2 1 (at 1 2) b
    ∷ say.Accepted 2 1 (at 1 2) b
    ∷ say.Accepted 3 1 (at 1 2) b
    ∷ say.Prepare 1 2 (at 2 1) 1
    ∷ []

pub record DuelIsTaken : Type 0 where
  pub a : Value
  pub b : Value
  pub apart : a ≢ b
  pub w : World
  pub takes : TakesAll 3 start (duel a b) w
  pub said : w.sent ≡ said_in_duel a b
  pub decided : Decides 3 w.sent 1 b
  pub known_by_1 : (w.node 1).known 1 ≡ Some b
  pub known_by_2 : (w.node 2).known 1 ≡ Some b
  pub waits : (w.node 1).pending ≡ a ∷ []

-- ---- a vote lost, or not

-- Node 2's device fails as it votes for node 1's proposal, which no other node has received. Node 2 crashes,
-- and node 3 continues with it
abbrev pub vote_in_flight : Value → ℕ → List Event
vote_in_flight a choice =
    Submit 1 a ∷ Tick 1 ∷ Deliver 1 0 ∷ Deliver 2 0 ∷ Deliver 1 1 ∷ Deliver 1 2 ∷ Arm 2 3 ∷ Deliver 2 3
    ∷ Crash 2 choice ∷ Restart 2 ∷ Tick 3 ∷ Deliver 2 4 ∷ Deliver 3 4 ∷ Deliver 3 5
    ∷ Deliver 3 6 ∷ []

abbrev pub said_before_crash : Value → List Message
said_before_crash a =
    say.Prepare 1 1 (at 1 1) 1 ∷ say.Promise 1 1 (at 1 1) None ∷ say.Promise 2 1
    (at 1 1) None ∷ say.Propose 1 1 (at 1 1) a ∷ []

-- the crash leaves the vote: node 2 reports it, and node 3 proposes its value
pub record VoteIsKept : Type 0 where
  pub a : Value
  pub some : a ≢ []
  pub w : World
  pub takes : TakesAll 3 start (vote_in_flight a 1) w
  pub said : w.sent
      ≡ said_before_crash a
      ++ (say.Prepare 3 1 (at 1 3) 1 ∷ say.Promise 2 1 (at 1 3) (Some (vote (at 1 1) a)) ∷ say.Promise 3 1
      (at 1 3) None ∷ say.Propose 3 1 (at 1 3) a ∷ [])

-- the crash leaves no vote: nobody voted, and node 3 proposes the no-op
pub record VoteIsLost : Type 0 where
  pub a : Value
  pub some : a ≢ []
  pub w : World
  pub takes : TakesAll 3 start (vote_in_flight a 7) w
  pub said : w.sent ≡ said_before_crash a
      ++ (say.Prepare 3 1 (at 1 3) 1 ∷ say.Promise 2 1 (at 1 3) None ∷ say.Promise 3 1
      (at 1 3) None ∷ say.Propose 3 1 (at 1 3) [] ∷ [])

-- ---- a release over a gap

-- Node 1 gets its oldest pending value decided at its first unknown instance, with node 2's help. k messages
-- were handed out before
abbrev pub bring_through : ℕ → List Event
bring_through k =
    Tick 1 ∷ Deliver 1 k ∷ Deliver 2 k ∷ Deliver 1 (k + 1) ∷ Deliver 1 (k + 2) ∷ Deliver 1 (k + 3) ∷ Deliver 2
    (k + 3) ∷ Deliver 1 (k + 4) ∷ Deliver 1 (k + 5) ∷ []

-- node 3 receives the votes at instances 1 and 3
abbrev pub gap : Value → Value → Value → List Event
gap a b c =
    Submit 1 a ∷ Submit 1 b ∷ Submit 1 c ∷
    (bring_through 0 ++ (bring_through 6
    ++ (bring_through 12 ++ (Deliver 3 4 ∷ Deliver 3 5 ∷ Deliver 3 16 ∷ Deliver 3 17 ∷ []))))

-- and then the votes at instance 2
abbrev pub gap_closes : List Event
gap_closes = Deliver 3 10 ∷ Deliver 3 11 ∷ []

-- the release at instance 3 is published only when instance 2 is known
pub record GapIsWaitedFor : Type 0 where
  pub a : Value
  pub b : Value
  pub c : Value
  pub w : World
  pub takes : TakesAll 3 start (gap a b c) w
  pub first : (w.node 3).known 1 ≡ Some a
  pub third : (w.node 3).known 3 ≡ Some c
  pub unpublished : (fed : List Value) (r : ℕ) → ¬ Publishes (w.node 3) fed r
  pub later : World
  pub closes : TakesAll 3 w gap_closes later
  pub published : Publishes (later.node 3) (a ∷ b ∷ c ∷ []) 1

-- ---- openings

-- Node 1 has voted for its own proposal, and is opened again while it runs. Node 3 begins above it, receives
-- that vote, and refuses the proposal that comes late. Node 2's device is set to fail, and fails as node 2
-- votes for node 3's proposal. Node 2 is opened without a crash: its vote is on record, and it reports the
-- vote when the proposal comes again. Node 1 asks, and receives the value
abbrev pub openings : Value → List Event
openings a =
    Submit 1 a ∷ Tick 1 ∷ Deliver 1 0 ∷ Deliver 2 0 ∷ Deliver 1 1 ∷ Deliver 1 2 ∷ Deliver 1 3 ∷ Restart 1
    ∷ Tick 3 ∷ Deliver 1 5 ∷ Deliver 3 5 ∷ Deliver 3 3 ∷ Deliver 1 8 ∷ Deliver 3 6
    ∷ Deliver 3 7 ∷ Arm 2 0 ∷ Deliver 2 9 ∷ Restart 2 ∷ Deliver 2 9 ∷ Deliver 3 9 ∷ Deliver 3 10
    ∷ Deliver 3 11 ∷ Ask 1 ∷ Deliver 3 12 ∷ Deliver 1 13 ∷ []

abbrev pub said_over_openings : Value → List Message
said_over_openings a =
    say.Prepare 1 1 (at 1 1) 1
    ∷ say.Promise 1 1 (at 1 1) None
    ∷ say.Promise 2 1 (at 1 1) None
    ∷ say.Propose 1 1 (at 1 1) a
    ∷ say.Accepted 1 1 (at 1 1) a
    ∷ say.Prepare 3 1 (at 1 3) 1
    ∷ say.Promise 1 1 (at 1 3) (Some (vote (at 1 1) a))
    ∷ say.Promise 3 1 (at 1 3) None
    ∷ say.Nack 3 1 (at 1 1) (at 1 3)
    ∷ say.Propose 3 1 (at 1 3) a
    ∷ say.Accepted 2 1 (at 1 3) a
    ∷ say.Accepted 3 1 (at 1 3) a
    ∷ say.Ask 1 1
    ∷ say.Chosen 3 1 a
    ∷ []

pub record OpeningsAreTaken : Type 0 where
  pub a : Value
  pub some : a ≢ []
  pub w : World
  pub takes : TakesAll 3 start (openings a) w
  pub said : w.sent ≡ said_over_openings a
  pub heard : (w.node 1).heard ≡ 1
  pub known : (w.node 1).known 1 ≡ Some a

-- ---- three attempts at once

abbrev pub three_begun : Value → Value → Value → List Event
three_begun a b c = Submit 1 a ∷ Submit 1 b ∷ Submit 1 c ∷ Tick 1 ∷ Widen 1 ∷ Widen 1 ∷ []

-- one round is for the first, and one is for the span of the other two: then nothing is left to widen for
abbrev pub said_by_three : List Message
said_by_three = say.Prepare 1 1 (at 1 1) 1 ∷ say.Prepare 1 2 (at 2 1) 2 ∷ []

-- nodes 1 and 2 promise the span, each by one entry and for each of its instances
abbrev pub promised_by_two : List Message
promised_by_two =
    say.Promise 1 2 (at 2 1) None ∷ say.Promise 1 3 (at 2 1) None ∷ say.Promise 2 2
    (at 2 1) None ∷ say.Promise 2 3 (at 2 1) None ∷ []

-- Node 1 tries its three values at once, and node 2 helps it with the last one. Node 3 knows that one, and
-- nothing below it
abbrev pub last_of_three : Value → Value → Value → List Event
last_of_three a b c = three_begun a b c
    ++ (Deliver 1 1 ∷ Deliver 2 1 ∷ Deliver 1 3 ∷ Deliver 1 5 ∷ Deliver 1 6 ∷ Deliver 2 6 ∷ Deliver 3 7
    ∷ Deliver 3 8 ∷ [])

pub record LastOfThreeIsKnown : Type 0 where
  pub a : Value
  pub b : Value
  pub c : Value
  pub w : World
  pub takes : TakesAll 3 start (last_of_three a b c) w
  pub said : w.sent ≡ said_by_three ++ promised_by_two
      ++ (say.Propose 1 3 (at 2 1) c ∷ say.Accepted 1 3 (at 2 1) c ∷ say.Accepted 2 3 (at 2 1) c ∷ [])
  pub third : (w.node 3).known 3 ≡ Some c
  pub second : (w.node 3).known 2 ≡ None

-- Node 1 has proposed the second of its three values, node 2 has voted for it, and node 1 crashes. Node 3
-- widens over that instance, node 2 reports the vote to it, and it proposes the vote's value
abbrev pub crash_of_three : Value → Value → Value → Value → Value → List Event
crash_of_three a b c d e =
    three_begun a b c
    ++ (Deliver 1 1 ∷ Deliver 2 1 ∷ Deliver 1 2 ∷ Deliver 1 4 ∷ Deliver 2 6 ∷ Crash 1 0 ∷ Submit 3 d
    ∷ Submit 3 e ∷ Tick 3 ∷ Widen 3 ∷ Deliver 2 9 ∷ Deliver 3 9 ∷ Deliver 3 10 ∷ Deliver 3 11 ∷ [])

pub record CrashOfThreeIsTaken : Type 0 where
  pub a : Value
  pub b : Value
  pub c : Value
  pub d : Value
  pub e : Value
  pub apart : b ≢ e
  pub w : World
  pub takes : TakesAll 3 start (crash_of_three a b c d e) w
  pub said : w.sent
      ≡ said_by_three ++ promised_by_two
      ++ (say.Propose 1 2 (at 2 1) b
      ∷ say.Accepted 2 2 (at 2 1) b
      ∷ say.Prepare 3 1 (at 1 3) 1
      ∷ say.Prepare 3 2 (at 2 3) 1
      ∷ say.Promise 2 2 (at 2 3) (Some (vote (at 2 1) b))
      ∷ say.Promise 3 2 (at 2 3) None
      ∷ say.Propose 3 2 (at 2 3) b
      ∷ [])

-- ---- a higher span

-- Nodes 1 and 2 promise node 1's span of two, and node 2 votes at its first instance. Node 3, with two values
-- of its own, prepares the same span at a higher ballot. Node 2 promises both instances with one entry, and
-- reports the vote at the first. Node 1's proposal at the second comes late, and is refused
abbrev pub higher_span : Value → Value → Value → Value → Value → List Event
higher_span a b c d e =
    three_begun a b c
    ++ (Deliver 1 1 ∷ Deliver 2 1 ∷ Deliver 1 2 ∷ Deliver 1 4 ∷ Deliver 2 6 ∷ Deliver 1 3 ∷ Deliver 1 5
    ∷ Submit 3 a ∷ Submit 3 d ∷ Submit 3 e ∷ Tick 3 ∷ Widen 3 ∷ Deliver 2 10 ∷ Deliver 2 8 ∷ [])

pub record HigherSpanIsTaken : Type 0 where
  pub a : Value
  pub b : Value
  pub c : Value
  pub d : Value
  pub e : Value
  pub w : World
  pub takes : TakesAll 3 start (higher_span a b c d e) w
  pub said : w.sent
      ≡ said_by_three ++ promised_by_two
      ++ (say.Propose 1 2 (at 2 1) b
      ∷ say.Accepted 2 2 (at 2 1) b
      ∷ say.Propose 1 3 (at 2 1) c
      ∷ say.Prepare 3 1 (at 1 3) 1
      ∷ say.Prepare 3 2 (at 2 3) 2
      ∷ say.Promise 2 2 (at 2 3) (Some (vote (at 2 1) b))
      ∷ say.Promise 2 3 (at 2 3) None
      ∷ say.Nack 2 3 (at 2 1) (at 2 3)
      ∷ [])
  pub recorded : (w.node 2).entries ≡ PromisedSpan 2 2 (at 2 1) ∷ Voted 2 (at 2 1) b ∷ PromisedSpan 2 2
      (at 2 3) ∷ []
