-- How often a server ticks.
use Rattle.std.specs.Prelude.{◌≡◌, ◌⊎◌, ℕ, zero, suc, ◌+◌, ◌*◌, ◌≤◌, Bool, false, not, ◌&&◌, if◌then◌else◌}
use Rattle.std.specs.Prelude.{None, List}
use Rattle.site_ids.specs.Ids.{BallotOf, Below, IsNode}
use Rattle.site_ids.specs.Lists.{In}
use Rattle.durable.specs.Entries.{Entry, Raises}
use Rattle.node.specs.declared.to.To.{To}
use Rattle.site_drive.specs.declared.last_call.LastCall.{LastCall}
use Rattle.site_drive.specs.declared.last_call.LastCall.TheVariants.{TickOrAsk, Widen}
use Rattle.server_pace.specs.declared.due.Due.{Due}
use Rattle.world.specs.declared.event.Event.{Event}
use Rattle.rounds.specs.Rounds.{Server, Group, Steps, IsRound, AreRounds}
use Rattle.rounds.specs.Agreeing.{IsLedTo}
use Rattle.rounds.specs.Proposing.{IsAskedFor, NobodyIsMute}

-- the server ticks because its patience has passed, and not for a fresh value
abbrev pub ticks_as_due : LastCall → Due → Bool
ticks_as_due TickOrAsk due = due.tick && not due.fresh
ticks_as_due last due = false

-- how many such ticks server q makes in these rounds
abbrev pub due_ticks : (n d k : ℕ) (g h : Group) → AreRounds n d k g h → (q : ℕ) → IsNode n q → ℕ
due_ticks n d zero g h rounds q here = 0
due_ticks n d (suc k) g h rounds q here =
    if ticks_as_due (rounds.1.steps q here).last (rounds.1.steps q here).calls.due
    then suc (due_ticks n d k rounds.0 h rounds.2 q here)
    else due_ticks n d k rounds.0 h rounds.2 q here

-- Such ticks of a server are a patience apart, which bounds their number in k rounds
abbrev pub TicksAreApart : Type 0
TicksAreApart = (n d k : ℕ) (g h : Group) (rounds : AreRounds n d k g h) (q : ℕ) (here : IsNode n q)
    → due_ticks n d k g h rounds q here * (g q).pace.patience ≤ (g q).pace.patience + k * d

-- each ballot that a server promised at the instance is below this one
abbrev pub NobodyPromisedIt : ℕ → ℕ → BallotOf → Group → Type 0
NobodyPromisedIt n i b g = (q : ℕ) → IsNode n q → (e : Entry) (c : BallotOf) → In (g q).node.entries e
    → Raises e i c → Below c b

-- the step ends in a tick; or in widenings, and no attempt was open at the instance before them
abbrev pub Begins : (n p i : ℕ) (x y : Server) (letters : List (To × List ℕ)) → Steps n p x y letters → Type 0
Begins n p i x y letters step = (step.last ≡ TickOrAsk)
    ⊎ ((step.last ≡ Widen) × (step.batch.works.mid.attempts i ≡ None))

-- A schedule led to a group, which takes a round. If a ballot is asked for after it that nobody promised
-- before, its server began an attempt in the round, or sent the prepare of an old one again
abbrev pub NewIsBegun : Type 0
NewIsBegun = (n d i : ℕ) (b : BallotOf) (events : List Event) (x e : Group) → IsLedTo n events x
    → NobodyIsMute n x → (round : IsRound n d x e) → NobodyPromisedIt n i b x → IsAskedFor n i b e
    → (here : IsNode n b.node) × Begins n b.node i (x b.node) (e b.node) (round.letters b.node) (round.steps
    b.node here)
