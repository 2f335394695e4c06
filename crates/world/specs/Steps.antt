-- How a step of a run ends, and a run.
use Rattle.std.specs.Prelude.{◌≡◌, ◌≢◌, ◌⊎◌, ℕ, suc, Some, Result, Ok, Err, List, [], ◌∷◌, ◌++◌, take}
use Rattle.std.specs.Prelude.{slice_get}
use mathlib.Core.Logic.{inl, inr}
use Rattle.site_ids.specs.Lists.{In}
use Rattle.node.specs.Nodes.{Value}
use Rattle.node.specs.Effects.{messages_of}
use Rattle.release.specs.Page.{Page, answer}
use Rattle.world.specs.declared.event.Event.{Event}
use Rattle.world.specs.declared.event.Event.TheVariants.{Restart}
use Rattle.world.specs.declared.fault.WorldFault.{WorldFault}
use Rattle.world.specs.declared.fault.WorldFault.TheVariants.{OutOfMemory, BadEvent}
use Rattle.world.specs.declared.run_stop.RunStop.{RunStop}
use Rattle.world.specs.declared.run_stop.RunStop.TheVariants.{Wanted, Unpublished, Bad}
use Rattle.world.specs.declared.world.World.{World as Code}
use Rattle.world.specs.Worlds.{World, Runs, start}
use Rattle.world.specs.Taking.{node_of, Takes, TakesAll, IsBad, IsRefused, IsLast, EndsWanting, WantsMemory}
use Rattle.world.specs.Taking.{MeetsBadEvent}
use Rattle.world.specs.Decided.{Decides, AreDecided, IsSubmitted}
use Rattle.world.specs.Standing.{IsWorldOf, IsPublishedAt, IsUnpublishedAt}

-- If an allocation fails, a run ends at an event or after one. No schedule has a bad event.

-- this world leads to one that the new value stands for
pub record Led (old new : Code) (How : World → World → Type 0) (w : World) : Type 0 where
  pub after : World
  pub how : How w after
  pub stands : IsWorldOf new after

-- and so does each world that the old value stands for
pub record LeadsTo (old new : Code) (How : World → World → Type 0) : Type 0 where
  pub leads : (w : World) → IsWorldOf old w → Led old new How w

-- each node that had published all that it knows without a gap still has
abbrev pub StayPublished : Code → Code → World → World → Type 0
StayPublished old new w after = (q : ℕ) → IsPublishedAt old w q → IsPublishedAt new after q

-- each node other than that of the event that had published all it knows without a gap still has
abbrev pub KeepsPublished : Code → Code → Event → World → World → Type 0
KeepsPublished old new event w after = (q : ℕ) → q ≢ node_of event → IsPublishedAt old w q
    → IsPublishedAt new after q

-- the ending of one event: taken, with its node published or not, or not taken
abbrev pub StepEnds : Code → Code → Event → Result (Unit {0}) RunStop → Type 0
StepEnds old new event (Ok x) = LeadsTo old new (λ w after. Takes old.cluster w event after
    × KeepsPublished old new event w after × IsPublishedAt new after (node_of event))
StepEnds old new event (Err Unpublished) = LeadsTo old new (λ w after. Takes old.cluster w event after
    × KeepsPublished old new event w after × IsUnpublishedAt new after (node_of event))
StepEnds old new event (Err Wanted) = LeadsTo old new (λ w after. IsRefused old.cluster w event after
    × StayPublished old new w after)
StepEnds old new event (Err Bad) = LeadsTo old new (λ w after. (IsBad old.cluster w event × (after ≡ w))
    × StayPublished old new w after)

-- the node of each of the events has published all that it knows without a gap
abbrev pub ArePublished : Code → World → List Event → Type 0
ArePublished code w events = (event : Event) → In events event → IsPublishedAt code w (node_of event)

-- for each of the k events, its node has published, or it is the node of the last of them
abbrev pub ArePublishedButLast : Code → World → List Event → ℕ → Type 0
ArePublishedButLast code w events k = (event : Event) → In (take k events) event
    → IsLast events k (node_of event) ⊎ IsPublishedAt code w (node_of event)

-- If the next event was refused, the nodes of all events taken have published. If the publication after the
-- last event failed, the node of that event has not published, and those of the other events have
abbrev pub PublishedAsFar : (n : ℕ) (events : List Event) (k : ℕ) (taken after : World) → Code
    → EndsWanting n events k taken after → Type 0
PublishedAsFar n events k taken after code (inl refused) = ArePublished code after (take k events)
PublishedAsFar n events k taken after code (inr last) = IsUnpublishedAt code after last.0
    × ArePublishedButLast code after events k

-- a run over a list of events
abbrev pub RunEnds : Code → Code → List Event → Result (Unit {0}) WorldFault → Type 0
RunEnds old new events (Ok x) = LeadsTo old new (λ w after. TakesAll old.cluster w events after
    × ArePublished new after events × StayPublished old new w after)
RunEnds old new events (Err (OutOfMemory k)) =
    LeadsTo old new (λ w after. (wants : WantsMemory old.cluster w events k after)
    × PublishedAsFar old.cluster events k wants.taken after new wants.ended)
RunEnds old new events (Err (BadEvent k)) =
    LeadsTo old new (λ w after. MeetsBadEvent old.cluster w events k after
    × ArePublished new after (take k events) × StayPublished old new w after)

-- ---- from one value to a later one

-- a schedule leads from each world that the old value stands for to one that the new value stands for
pub record Follows (old new : Code) : Type 0 where
  pub cluster : new.cluster ≡ old.cluster
  pub leads : (w : World) → IsWorldOf old w → (events : List Event) × (after : World)
      × Runs old.cluster w events after × IsWorldOf new after

-- ---- since the start

-- these events, from the start on, lead to a world that the value stands for
pub record Reached (code : Code) (events : List Event) : Type 0 where
  pub world : World
  pub runs : Runs code.cluster start events world
  pub stands : IsWorldOf code world

-- the events that were taken come after the earlier ones, and a refused opening comes after those
abbrev pub Reaches : Code → List Event → List Event → Result (Unit {0}) WorldFault → Type 0
Reaches new earlier events (Ok x) = Reached new (earlier ++ events)
Reaches new earlier events (Err (OutOfMemory k)) = Reached new (earlier ++ take k events)
    ⊎ ((p : ℕ) × (slice_get events k ≡ Some (Restart p))
    × Reached new (earlier ++ (take k events ++ Restart p ∷ [])))
Reaches new earlier events (Err (BadEvent k)) = Reached new (earlier ++ take k events)

-- the page is that of one list of values: those that the messages decide from instance 1 up to the first gap.
-- Each of them is the no-op or was submitted by the events
pub record IsAnswer (code : Code) (events : List Event) (n : ℕ) (path : List ℕ) (page : Page) : Type 0 where
  pub values : List Value
  pub decided : AreDecided code.cluster (messages_of code.sent.items) values
  pub submitted : (v : Value) → In values v → (v ≡ []) ⊎ IsSubmitted events v
  pub answers : answer values n path ≡ Some page

-- the values are decided by the messages, from instance 1 on. Each of them is the no-op or was submitted by
-- the events
pub record AreOfRun (code : Code) (events : List Event) (values : List Value) : Type 0 where
  pub decided : (k : ℕ) (v : Value) → slice_get values k ≡ Some v
      → Decides code.cluster (messages_of code.sent.items) (suc k) v
  pub submitted : (v : Value) → In values v → (v ≡ []) ⊎ IsSubmitted events v
