-- When a server tries again, asks and tells, and how long it rests. Times are milliseconds since it began,
-- rests microseconds.
use Rattle.std.specs.Prelude.{◌≡◌, ◌≢◌, ◌⊎◌, ℕ, suc, ◌+◌, ◌-◌, ◌*◌, ◌/◌, ◌^◌, ◌<◌, ◌≤◌, min, max, List}
use Rattle.std.specs.Prelude.{length, Bool, true, false, not, ◌||◌, ◌&&◌, nat_eq, nat_lt, Option, Some, None}
use Rattle.std.specs.Prelude.{unwrap_or, IsSome, IsTrue, ◌↔◌, is_none, [], if◌then◌else◌}
use Rattle.site_ids.specs.Ids.{BallotOf, IsInstance}
use Rattle.site_ids.specs.NodeSets.{no_nodes, with_node, has_node, count_of, AreUnited}
use Rattle.site_ids.specs.declared.value.Vote.{Vote}
use Rattle.durable.specs.Entries.{last_vote, IsPromise}
use Rattle.node.specs.Nodes.{Node, Value, IsKnownPrefix, WantsTick}
use Rattle.node.specs.Tellings.{IsRemembered}
use Rattle.server_pace.specs.Keeping.{keeping_after, owed_at, IsNextBlock}
use Rattle.server_pace.specs.Questioning.{asking_of, no_questions, AreAsked, Asks, TellsNext}
use Rattle.server_pace.specs.Places.{places_behind}
use Rattle.server_pace.specs.Turns.{call_behind, goes_first, is_telling}
use Rattle.server_pace.specs.declared.due.Due.{Due}
use Rattle.site_drive.specs.declared.delivered.Delivered.{Delivered}
use Rattle.site_drive.specs.declared.last_call.LastCall.{LastCall}
use Rattle.site_drive.specs.declared.last_call.LastCall.TheVariants.{Ask, TickOrAsk}
use Rattle.server_pace.specs.declared.last_question.LastQuestion.{LastQuestion}
use Rattle.server_pace.specs.declared.pace.Pace.{Pace}
use Rattle.server_pace.specs.declared.questions.Questions.{Questions}
use Rattle.server_pace.specs.declared.questions.Teller.{Teller}
use Rattle.server_pace.specs.declared.resting.Resting.{Resting}
use Rattle.server_pace.specs.declared.seen.Seen.{Seen}
use Rattle.server_pace.specs.declared.ticking.Ticking.{Ticking}
use Rattle.server_pace.specs.declared.yielding.Yielding.{Yielding}
use Rattle.server_times.specs.Timing.{patience_of}
use Rattle.server_times.specs.declared.times.Times.{Times}

-- ---- ticks

-- no tick is wanted
abbrev pub first_ticking : Ticking
first_ticking =
    record { since = None; first = None; known = 0; ticks = 0; longer = 0; at = None; resumes = false }

-- a value was just submitted, and nobody tries one: a tick begins to be wanted, and the last batch delivered
-- at most questions
abbrev pub IsFresh : Ticking → Bool → Bool → Type 0
IsFresh t wanted stirred = (wanted ≡ true) × (t.since ≡ None) × (stirred ≡ false)

-- one value more is known than at the last tick
abbrev pub is_one_more : Option ℕ → ℕ → Bool
is_one_more None known = false
is_one_more (Some at) known = nat_eq known (min (at + 1) (2 ^ 32 - 1))

-- a server without a stake leaves the decision to the others while their messages come, for times.leaving at
-- most
abbrev pub leaves : Ticking → Times → ℕ → Seen → Bool → Bool
leaves t times now seen stirred =
    not seen.stake && (stirred && nat_lt (now - unwrap_or t.first now) times.leaving)

-- A tick is waited for since it began to be wanted, or something became known, or the server left the
-- decision to the others. Ticks in vain are forgotten if news came without a tick that was due. If the news
-- is one value more than at the last tick, of an own attempt, the server tries the next instance at once
abbrev pub noted : Ticking → Times → ℕ → Seen → Bool → Ticking
noted t times now seen stirred =
    if nat_eq seen.known t.known
    then record t {
      since = if not seen.wanted then None
          else (if leaves t times now seen stirred then Some now else Some (unwrap_or t.since now));
      first = if seen.wanted then Some (unwrap_or t.first now) else None;
    }
    else record {
      since = if seen.wanted then Some now else None;
      first = if seen.wanted then Some now else None;
      known = seen.known;
      ticks = 0;
      longer = if nat_eq t.ticks 0 then 0 else t.longer;
      at = t.at;
      resumes = seen.resumes && is_one_more t.at seen.known;
    }

-- the next tick is due at once, not a patience later
abbrev pub GoesOn : Ticking → Type 0
GoesOn t = (t.resumes ≡ true) × IsSome t.since

-- it would go on, but it heard of no further instance
abbrev pub awaits : Ticking → Bool
awaits t = t.resumes && is_none t.since

-- it ticks
abbrev pub begun : Ticking → Ticking
begun t = record t { at = Some t.known; resumes = false }

-- how many times the patience: once more after each tick, up to times.growth; or longer after ticks in vain,
-- and by at least times.longer without a stake
abbrev pub waited : Ticking → Times → Bool → ℕ
waited t times stake =
    max (min (t.ticks + 1) times.growth) (max t.longer (if stake then 0 else times.longer) + 1)

-- the patience has passed that many times
abbrev pub Ticks : Ticking → ℕ → ℕ → Times → Bool → Type 0
Ticks t now patience times stake =
    (since : ℕ) × (t.since ≡ Some since) × (patience * waited t times stake ≤ now - since)

-- A tick was in vain if a majority answered since, and nothing became known before the next one: after each
-- in a row the server waits longer. A tick that no majority answered ends the row
abbrev pub longer_after : Ticking → Times → Bool → ℕ
longer_after t times answered =
    if not answered then 0
    else (if nat_eq t.ticks 0 then t.longer else min (t.longer + times.longer) (2 ^ 32 - 1))

abbrev pub ticked : Ticking → Times → ℕ → Bool → Ticking
ticked t times now answered = record (begun t) {
  since = Some now;
  ticks = min (t.ticks + 1) (2 ^ 32 - 1);
  longer = longer_after t times answered;
}

-- ---- yields: nodes take turns at the first unknown instance, by their numbers, with 1 after 9

-- it saw no attempt
abbrev pub first_yielding : Yielding
first_yielding =
    record { tried = no_nodes; tries = None; last = None; stands = None; free = None; took = 0; since = None }

-- how long attempts stood, after they ended. An attempt stands at the instance while that is promised to its
-- node
abbrev pub took_by : Option ℕ → ℕ → ℕ → ℕ
took_by None now took = took
took_by (Some stands) now took = now - stands

abbrev pub ended : Yielding → ℕ → Yielding
ended y now = record y { stands = None; took = took_by y.stands now y.took }

abbrev pub stood_by : Option ℕ → ℕ → Bool
stood_by None q = false
stood_by (Some p) q = nat_eq p q

-- the first unknown instance is promised to a node, or to none: the attempts of another node end
abbrev pub noted_tries : Yielding → ℕ → Option ℕ → Yielding
noted_tries y now None = record (ended y now) { tries = None; free = Some (unwrap_or y.free now) }
noted_tries y now (Some q) =
    let stood = if stood_by y.tries q then y else ended y now in
    record stood {
      tried = with_node y.tried q;
      tries = Some q;
      last = Some q;
      stands = Some
          (unwrap_or stood.stands now);
      free = None;
    }

-- another server that tried comes before this one, after the one that tried last
pub record IsBehind (y : Yielding) (me : ℕ) : Type 0 where
  pub last : ℕ
  pub node : ℕ
  pub is_last : y.last ≡ Some last
  pub range : (1 ≤ node) × (node ≤ 9)
  pub tried : has_node y.tried node ≡ true
  pub before : places_behind last node < places_behind last me

-- another server's attempt stands at the first unknown instance, or it is another one's turn
abbrev pub Waits : Yielding → ℕ → Type 0
Waits y me = ((q : ℕ) × (y.tries ≡ Some q) × (q ≢ me)) ⊎ IsBehind y me

-- no attempt has stood there for longer than those of the last node did, and a millisecond more
abbrev pub IsSoon : Yielding → ℕ → Type 0
IsSoon y now = (free : ℕ) × (y.free ≡ Some free) × (now - free ≤ y.took + 1)

-- The server may yield on after millis: its bound has not passed, nor six times as long as the last attempts
-- stood, and a millisecond more
abbrev pub MayGoOn : Yielding → Times → ℕ → Type 0
MayGoOn y times millis = (millis < times.yielding) × (millis < 6 * (y.took + 1))

-- The server yields while it waits, but in a stretch no longer than MayGoOn permits. For an attempt that has
-- not begun it yields hardly longer than the last attempts stood
abbrev pub Yields : Yielding → Times → ℕ → ℕ → Type 0
Yields y times now me =
    Waits y me
    × MayGoOn y times (now - unwrap_or y.since now)
    × ((y.tries ≢ None) ⊎ IsSoon y now)

-- if it waited in vain, nobody's turn is before its own until another one tries again
abbrev pub yielding_after : Yielding → ℕ → Bool → Bool → Yielding
yielding_after y now waits true = record y { since = Some (unwrap_or y.since now) }
yielding_after y now waits false = record y { tried = if waits then no_nodes else y.tried; since = None }

-- ---- rests

-- nothing came and nothing was served
abbrev pub Rests : Resting → Type 0
Rests r = (r.came ≡ false) × (r.served ≡ false) × (r.stirred ≡ false)

-- a response, or a message that is no question, wakes a server; a step in which only other things came does
-- not count as empty
abbrev pub empty_after : Resting → ℕ
empty_after r =
    if r.served || r.stirred then 0
    else (if r.came then r.empty else min (r.empty + 1) (2 ^ 32 - 1))

abbrev pub resting_of : Pace → Bool → Bool → Resting
resting_of p came served = record { came = came; served = served; stirred = p.stirred; empty = p.empty }

-- ---- a pace, and what is due

-- after a batch that delivered this many messages of attempts, and this many messages that are no questions
abbrev pub heard : Pace → ℕ → ℕ → Pace
heard p attempts stirs = record p {
  last = record p.last { tried = p.last.tried || nat_lt 0 attempts };
  stirred = p.stirred || nat_lt 0 stirs;
}

-- the instance is promised to a ballot of that node, or to none
abbrev pub IsTriedBy : Node → ℕ → Option ℕ → Type 0
IsTriedBy s i None = IsInstance i → IsPromise s.entries i None
IsTriedBy s i (Some q) = IsInstance i × ((b : BallotOf) × IsPromise s.entries i (Some b) × (b.node ≡ q))

-- nobody tries a value: the first unknown instance is promised to none
abbrev pub IsUntried : Node → Type 0
IsUntried s = (values : List Value) → IsKnownPrefix s values → IsPromise s.entries (suc (length values)) None

-- its last vote at the instance is at a ballot of node p
abbrev pub IsVotedBy : Node → ℕ → ℕ → Type 0
IsVotedBy s i p = (vote : Vote) × (last_vote i s.entries ≡ Some vote) × (vote.ballot.node ≡ p)

-- it has something to decide: a value of its own waits to be proposed, or its record had a vote after the
-- known values as it began
abbrev pub HasStake : Node → ℕ → ℕ → Type 0
HasStake s known recorded = (s.pending ≢ []) ⊎ (known < recorded)

-- it has no attempt open
abbrev pub IsIdle : Node → Type 0
IsIdle s = (i : ℕ) → s.attempts i ≡ None

-- it voted for the last of the known values at an own ballot, its record had a vote further on as it began,
-- and it has no attempt open
pub record Resumes (s : Node) (me known recorded : ℕ) : Type 0 where
  pub range : IsInstance known
  pub own : IsVotedBy s known me
  pub more : known < recorded
  pub idle : IsIdle s

-- the value of the first unknown instance is on record as learned
abbrev pub HasKept : Node → ℕ → Type 0
HasKept s known = IsInstance (suc known) × IsRemembered s (suc known)

-- What node p shows: how many values it knows without a gap; whether it wants a tick and has a stake; whether
-- it decides again what is on its record; whether it kept the value after those that it knows
pub record IsSeen (s : Node) (p recorded : ℕ) (drained : Bool) (seen : Seen) : Type 0 where
  pub known : (values : List Value) × IsKnownPrefix s values × (seen.known ≡ length values)
  pub reached : seen.reached ≡ s.reached
  pub wanted : IsTrue seen.wanted ↔ WantsTick s
  pub drained_is : seen.drained ≡ drained
  pub stake : IsTrue seen.stake ↔ HasStake s seen.known recorded
  pub resumes : IsTrue seen.resumes ↔ Resumes s p seen.known recorded
  pub kept : IsTrue seen.kept ↔ HasKept s seen.known

-- a server of n begins quiet; recorded is the instance of the furthest vote on its record. It never asked,
-- and no tick is wanted
abbrev pub first_pace : Times → ℕ → ℕ → ℕ → Pace
first_pace times n node recorded = record {
  times = times;
  cluster = n;
  patience = patience_of times node;
  ticking = first_ticking;
  answered = no_nodes;
  last = record { at = None; known = 0; tried = false; again = 0 };
  questions = no_questions node;
  keeping = record { kept = 0; since = None };
  stirred = false;
  empty = times.quiet;
  me = node;
  recorded = recorded;
  yielding = first_yielding;
  told = false;
  tells = false;
}

-- more than half of the nodes, this one counted, promised or refused something since the last tick
abbrev pub IsAnswered : Pace → Type 0
IsAnswered p = p.cluster / 2 + 1 ≤ count_of p.answered

-- a tick that was due counts towards a longer patience; one for a fresh value, or at once, does not
abbrev pub ticking_after : Times → Ticking → ℕ → Due → LastCall → Ticking
ticking_after times t now due TickOrAsk =
    if due.fresh || not due.tick then begun t else ticked t times now due.answered
ticking_after times t now due last = t

-- a tick begins a new count of those that answered
abbrev pub answers_after : List Bool → LastCall → List Bool
answers_after answered TickOrAsk = no_nodes
answers_after answered last = answered

-- one more question in a row for one instance, or the first
abbrev pub again_after : LastQuestion → ℕ → ℕ
again_after q known = if nat_eq known q.known then min (q.again + 1) (2 ^ 32 - 1) else 0

-- a question begins a new count of what came since
abbrev pub question_after : LastQuestion → ℕ → ℕ → LastCall → LastQuestion
question_after q now known Ask =
    record { at = Some now; known = known; tried = false; again = again_after q known }
question_after q now known last = q

-- it yields if the first unknown instance is promised to tries
abbrev pub IsYielding : Pace → ℕ → Option ℕ → Type 0
IsYielding p now tries = Yields (noted_tries p.yielding now tries) p.times now p.me

-- the pace after the server noticed what is due
abbrev pub noticed : Pace → ℕ → Seen → Option ℕ → Due → Pace
noticed p now seen tries due = record p {
  ticking = noted p.ticking p.times now seen p.stirred;
  keeping = owed_at p.keeping now seen.known;
  yielding = yielding_after (noted_tries p.yielding now tries) now due.waits due.yields;
}

-- the pace after that call, with this many values known
abbrev pub called : Pace → ℕ → ℕ → Due → LastCall → Pace
called p now known due last = record p {
  ticking = ticking_after p.times p.ticking now due last;
  answered = answers_after p.answered last;
  last = question_after p.last now known last;
  keeping = keeping_after p.keeping last;
  stirred = false;
  told = is_telling last;
  tells = p.told || is_telling last;
}

abbrev pub pace_after : Pace → ℕ → Seen → Option ℕ → Due → LastCall → Pace
pace_after p now seen tries due last = called (noticed p now seen tries due) now seen.known due last

-- what is due as a batch begins
pub record IsDue (p : Pace) (now : ℕ) (seen : Seen) (tries : Option ℕ) (block telling : Option (ℕ × ℕ))
    (due : Due) : Type 0 where
  pub fresh : IsTrue due.fresh ↔ (IsFresh p.ticking seen.wanted p.stirred × (due.yields ≡ false))
  pub kept : due.block ≡ block
  pub told : due.telling ≡ telling
  pub question : IsTrue due.question
      ↔ Asks (asking_of p.last p.times now seen p.empty (awaits (noted p.ticking p.times now seen p.stirred)))
  pub tick : IsTrue due.tick
      ↔ Ticks (noted p.ticking p.times now seen p.stirred) now p.patience p.times seen.stake
  pub answered : IsTrue due.answered ↔ IsAnswered p
  pub goes_on : IsTrue due.goes_on ↔ GoesOn (noted p.ticking p.times now seen p.stirred)
  pub waits : IsTrue due.waits ↔ Waits (noted_tries p.yielding now tries) p.me
  pub yields : IsTrue due.yields ↔ IsYielding p now tries

-- ---- what is called, and heard

-- this server as a teller
abbrev pub teller_of : Pace → ℕ → Seen → Teller
teller_of p now seen = record {
  times = p.times;
  at = now;
  me = p.me;
  known = seen.known;
  furthest = max seen.reached p.recorded;
  calm = not p.last.tried;
}

-- nobody is told in the step after a telling, nor if something goes first; else the next telling may be due
abbrev pub IsTelling : Pace → ℕ → Node → ℕ → Seen → Bool → Option (ℕ × ℕ) → Questions → Type 0
IsTelling p n s now seen waits telling new =
    ((waits ≡ true) × (telling ≡ None) × (new ≡ p.questions))
    ⊎ ((waits ≡ false) × TellsNext p.questions (teller_of p now seen) n s telling new)

-- a server in a group of n makes the call last after the turns of a batch that begins now, over node s; new
-- is its pace then
pub record CallsDue (old : Pace) (n : ℕ) (s : Node) (now : ℕ) (drained : Bool) (last : LastCall)
    (new : Pace) : Type 0 where
  pub seen : Seen
  pub tries : Option ℕ
  pub block : Option (ℕ × ℕ)
  pub telling : Option (ℕ × ℕ)
  pub due : Due
  pub is_seen : IsSeen s old.me old.recorded drained seen
  pub is_tried : IsTriedBy s (suc seen.known) tries
  pub is_block : IsNextBlock (owed_at old.keeping now seen.known) old.times now seen.known block
  pub is_told : IsTelling old n s now seen (old.told || goes_first due) telling new.questions
  pub is_due : IsDue old now seen tries block telling due
  pub is_called : last ≡ call_behind due
  pub after : new ≡ record (pace_after old now seen tries due last) { questions = new.questions }

-- its pace after it heard what the batch delivered
pub record HearsBatch (old : Pace) (delivered : Delivered) (new : Pace) : Type 0 where
  pub asked : AreAsked old.questions.asked delivered.questions new.questions.asked
  pub came : AreUnited delivered.heard old.questions.present.came new.questions.present.came
  pub answered : AreUnited delivered.answered old.answered new.answered
  pub is : new ≡ record (heard old delivered.attempts delivered.stirs) {
    questions = record old.questions {
      asked = new.questions.asked;
      present = record old.questions.present { came = new.questions.present.came };
    };
    answered = new.answered;
  }
