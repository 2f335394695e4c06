-- Running nodes that report to one another learn whatever they hold together.
use Rattle.std.specs.Prelude.{◌≡◌, ◌⊎◌, ℕ, ◌+◌, ◌-◌, ◌≤◌, Some, List, [], ◌∷◌, ◌++◌, length}
use Rattle.site_ids.specs.Ids.{IsNode}
use Rattle.site_ids.specs.Lists.{In}
use Rattle.site_ids.specs.Majorities.{Majority}
use Rattle.site_ids.specs.Spans.{IsInSpan}
use Rattle.site_ids.specs.declared.value.Vote.{Vote}
use Rattle.wire.specs.declared.message.Message.{Message}
use Rattle.durable.specs.Entries.{last_vote}
use Rattle.node.specs.declared.TheConstants.{MAX_TOLD, MAX_TOLD_BYTES}
use Rattle.node.specs.Nodes.{Value, Up, Node, IsKnown}
use Rattle.node.specs.Tellings.{remembered, telling, tellings, told_from, value_in}
use Rattle.world.specs.declared.event.Event.{Event}
use Rattle.world.specs.declared.event.Event.TheVariants.{Tell}
use Rattle.world.specs.Worlds.{World, Runs, start}
use Rattle.world.specs.Taking.{TakesAll}
use Rattle.world.specs.Quiet.{each_to}

-- ---- what they hold

-- one of the nodes remembers a value there: it knows the value, or has it on record as learned
abbrev pub IsRemembered : List ℕ → World → ℕ → Type 0
IsRemembered nodes w i = (p : ℕ) × (v : Value) × In nodes p × (remembered (w.node p) i ≡ Some v)

-- some of the nodes are a majority of the cluster, and their last votes at the instance are for one value at
-- one ballot
pub record IsVotedBySome (n : ℕ) (nodes : List ℕ) (w : World) (i : ℕ) : Type 0 where
  pub vote : Vote
  pub voters : List ℕ
  pub majority : Majority n voters
  pub among : (p : ℕ) → In voters p → In nodes p
  pub voted : (p : ℕ) → In voters p → last_vote i (w.node p).entries ≡ Some vote

abbrev pub IsHeld : ℕ → List ℕ → World → ℕ → Type 0
IsHeld n nodes w i = IsRemembered nodes w i ⊎ IsVotedBySome n nodes w i

-- ---- the plan

-- each of the nodes reports to all nodes from an instance on
abbrev pub tells_of : List ℕ → ℕ → List Event
tells_of [] i = []
tells_of (p ∷ ps) i = Tell p i ∷ tells_of ps i

-- k messages, from an index on, go to each of the nodes
abbrev pub delivers_to : List ℕ → ℕ → ℕ → List Event
delivers_to [] index k = []
delivers_to (p ∷ ps) index k = each_to p index k ++ delivers_to ps index k

-- each of the nodes reports from an instance on, and then all that they reported is delivered to each of them
pub record IsRound (n : ℕ) (nodes : List ℕ) (first : ℕ) (w after : World) : Type 0 where
  pub told : World
  pub tells : TakesAll n w (tells_of nodes first) told
  pub delivers : TakesAll n told (delivers_to nodes (length w.sent) (length told.sent - length w.sent)) after

-- a telling from the first instance on includes what node p has to report of instance j
abbrev pub IsReached : ℕ → Node → ℕ → ℕ → Type 0
IsReached p s first j = (m : Message) → telling p s j ≡ Some m → In (told_from p s first) m

-- rounds, one after another. Each is about the next k instances, and its tellings include what is to be
-- reported of these
abbrev pub AreRounds : ℕ → List ℕ → ℕ → List ℕ → World → World → Type 0
AreRounds n nodes first [] w after = after ≡ w
AreRounds n nodes first (k ∷ ks) w after =
    ((p j : ℕ) → In nodes p → IsInSpan first k j → IsReached p (w.node p) first j)
    × ((next : World) × IsRound n nodes first w next × AreRounds n nodes (first + k) ks next after)

-- ---- laws

abbrev pub all_of : List ℕ → ℕ
all_of [] = 0
all_of (k ∷ ks) = k + all_of ks

-- After the rounds each of the nodes knows each of the rounds' instances that was held. This needs nothing
-- else: no tick, and no other node
abbrev pub TogetherShows : Type 0
TogetherShows = (n first : ℕ) (nodes counts : List ℕ) (past : List Event) (w after : World)
    → Runs n start past w → ((p : ℕ) → In nodes p → (w.node p).mode ≡ Up)
    → AreRounds n nodes first counts w after → (p i : ℕ) → In nodes p → IsInSpan first (all_of counts) i
    → IsHeld n nodes w i → IsKnown (after.node p) i

-- at each moment of a schedule nodes of the cluster that run can do such a round
abbrev pub RoundIsTaken : Type 0
RoundIsTaken = (n first : ℕ) (nodes : List ℕ) (past : List Event) (w : World) → Runs n start past w
    → ((p : ℕ) → In nodes p → IsNode n p × ((w.node p).mode ≡ Up)) → (after : World)
    × IsRound n nodes first w after

abbrev pub bytes_in : List Message → ℕ
bytes_in [] = 0
bytes_in (m ∷ ms) = length (value_in m) + bytes_in ms

-- A telling includes what is to be reported of k instances, if k is 64 at most and their values have 65,536
-- bytes at most: these k are a round
abbrev pub TellingReaches : Type 0
TellingReaches = (p : ℕ) (s : Node) (first k : ℕ) → k ≤ MAX_TOLD
    → bytes_in (tellings p s k first) ≤ MAX_TOLD_BYTES → (j : ℕ) → IsInSpan first k j → IsReached p s first j
