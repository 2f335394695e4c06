-- When a server asks, when it tells, and whom. Times are milliseconds since it began.
use Rattle.std.specs.Prelude.{◌≡◌, ◌≢◌, ◌⊎◌, ℕ, ◌+◌, ◌-◌, ◌^◌, ◌<◌, ◌≤◌, min, nat_eq, nat_le, nat_lt, List}
use Rattle.std.specs.Prelude.{replicate, get_or, set, Bool, true, false, not, ◌&&◌, ◌||◌, if◌then◌else◌}
use Rattle.std.specs.Prelude.{Option, Some, None, IsTrue, ◌↔◌}
use Rattle.site_ids.specs.declared.TheConstants.{MAX_INSTANCE}
use Rattle.site_ids.specs.Ids.{IsInstance, IsNode}
use Rattle.site_ids.specs.NodeSets.{no_nodes}
use Rattle.node.specs.Nodes.{Node}
use Rattle.node.specs.Tellings.{covered_from, IsRemembered, IsTellable}
use Rattle.node.specs.declared.TheConstants.{MAX_TOLD}
use Rattle.server_pace.specs.Courses.{course_after, is_open, told_on}
use Rattle.server_pace.specs.Places.{places_behind}
use Rattle.server_pace.specs.Presence.{nobody_heard, AreHeard, has_turn}
use Rattle.server_pace.specs.declared.asking.Asking.{Asking}
use Rattle.server_pace.specs.declared.asking.Telling.{Telling}
use Rattle.server_pace.specs.declared.course.Course.{Course}
use Rattle.server_pace.specs.declared.last_question.LastQuestion.{LastQuestion}
use Rattle.server_pace.specs.declared.questions.Next.{Next}
use Rattle.server_pace.specs.declared.questions.Questions.{Questions}
use Rattle.server_pace.specs.declared.questions.Teller.{Teller}
use Rattle.server_pace.specs.declared.seen.Seen.{Seen}
use Rattle.server_times.specs.Timing.{asks_after, asks_again_after, passed}
use Rattle.server_times.specs.declared.times.Times.{Times}

-- ---- questions

-- more is known than at the last question, and nobody tries a value or it is behind
abbrev pub GoesFurther : Asking → Type 0
GoesFurther a = (a.learned ≢ 0) × ((a.calm ≡ true) ⊎ (a.behind ≡ true))

-- no more is known, something is missing, and the time to ask again has passed
abbrev pub AsksAgain : Asking → Type 0
AsksAgain a = (a.learned ≡ 0) × (a.lacks ≡ true) × (a.waited ≡ true)

-- its time has passed; or all that came was taken in, and it goes further or asks again
abbrev pub Asks : Asking → Type 0
Asks a = (a.passed ≡ true) ⊎ ((a.drained ≡ true) × (GoesFurther a ⊎ AsksAgain a))

-- its record has the value of the first unknown instance; or messages were about instances that nobody tries
-- before that one is known
abbrev pub is_behind : Seen → Bool
is_behind seen = seen.kept || nat_le (min (seen.known + MAX_TOLD) (2 ^ 32 - 1)) seen.reached

-- it is behind; or it knows nothing yet; or nobody tries a value, and messages were about instances that it
-- does not know
abbrev pub lacks : Seen → Bool → Bool
lacks seen calm = is_behind seen || (nat_eq seen.known 0 || (calm && nat_lt seen.known seen.reached))

-- what decides whether it asks, since the last question; more says whether the server is yet to hear more of
-- what is on its record
abbrev pub asking_of : LastQuestion → Times → ℕ → Seen → ℕ → Bool → Asking
asking_of last times now seen empty more = record {
  learned = seen.known - last.known;
  drained = seen.drained;
  calm = not last.tried || more;
  behind = is_behind seen;
  lacks = lacks seen (not last.tried || more);
  waited = passed last.at now (asks_again_after times last.again empty);
  passed = passed last.at now (asks_after times empty);
}

-- ---- tellings

-- There is news if all instances of a telling can be told; or if the node asked, and what it asked for is
-- known or on record as learned; or if it asked, nobody tries a value, and there may be votes from that
-- instance on
abbrev pub HasNews : Telling → Type 0
HasNews t = (t.full ≡ true) ⊎ ((t.asked ≡ true) × ((t.known ≡ true) ⊎ ((t.calm ≡ true) × (t.votes ≡ true))))

-- values that others may tell too are told in turn; each node tells its votes
abbrev pub Tells : Telling → Type 0
Tells t = HasNews t × ((t.known ≡ false) ⊎ (t.turn ≡ true))

-- there is something to tell of the last instance of a telling
abbrev pub IsFull : Node → ℕ → Type 0
IsFull s first = let final = first + (MAX_TOLD - 1) in (final ≤ MAX_INSTANCE) × IsTellable s final

-- no question was heard
abbrev pub no_questions : ℕ → Questions
no_questions me =
    record { asked = replicate 9 None; courses = replicate 9 None; present = nobody_heard; last = me }

-- a node's newest question: one that was just heard, or else the one before
abbrev pub newer : Option ℕ → Option ℕ → Option ℕ
newer (Some i) before = Some i
newer None before = before

abbrev pub AreAsked : List (Option ℕ) → List (Option ℕ) → List (Option ℕ) → Type 0
AreAsked asked heard all = (i : ℕ) → i < 9
    → get_or all i None ≡ newer (get_or heard i None) (get_or asked i None)

-- each question that waits changes how far its node is told
abbrev pub AreOnCourse : Times → ℕ → List (Option ℕ) → List (Option Course) → List (Option Course) → Type 0
AreOnCourse times now asked old new = (i : ℕ) → i < 9
    → get_or new i None ≡ course_after times now (get_or asked i None) (get_or old i None)

-- no question waits then, and each node of which something came was heard now
pub record TakesIn (old : Questions) (times : Times) (now : ℕ) (new : Questions) : Type 0 where
  pub none : new.asked ≡ replicate 9 None
  pub courses : AreOnCourse times now old.asked old.courses new.courses
  pub heard : AreHeard old.present.came old.present.at now new.present.at
  pub noted : new.present.came ≡ no_nodes
  pub last : new.last ≡ old.last

-- how many of count instances, from i on, a telling covers: those up to the last of the known values, or all
-- if i is after them
abbrev pub told_count : ℕ → ℕ → ℕ → ℕ
told_count known i count = if nat_le i known then min count (known - i + 1) else count

-- there may be votes to tell: the node asked for the next instance or for a later one, and the furthest
-- instance of which anything was heard is no earlier
abbrev pub may_have_votes : Course → ℕ → Bool
may_have_votes course furthest = nat_le course.next course.first && nat_le course.next furthest

-- what decides whether node p is told, on that course
pub record StandsSo (q : Questions) (teller : Teller) (s : Node) (p : ℕ) (course : Course)
    (telling : Telling) : Type 0 where
  pub full : IsTrue telling.full ↔ IsFull s course.next
  pub asked : telling.asked ≡ course.asked
  pub known : IsTrue telling.known ↔ IsRemembered s course.next
  pub votes : telling.votes ≡ may_have_votes course teller.furthest
  pub calm : telling.calm ≡ teller.calm
  pub turn : telling.turn ≡ has_turn q.present.at teller.times teller.at p teller.me course.repeats

-- node p is told next, on that course: the telling is due, and may set out
pub record IsDueTo (q : Questions) (teller : Teller) (s : Node) (p : ℕ) (course : Course) : Type 0 where
  pub is_course : get_or q.courses (p - 1) None ≡ Some course
  pub range : IsInstance course.next
  pub telling : Telling
  pub stands : StandsSo q teller s p course telling
  pub due : Tells telling
  pub may_set_out : is_open course (covered_from s course.next) ≡ true

-- the next telling to node p, in a group of n
pub record IsNextTo (q : Questions) (teller : Teller) (n : ℕ) (s : Node) (p : ℕ) (next : Next) : Type 0 where
  pub to : next.to ≡ p
  pub is_node : IsNode n p
  pub due : IsDueTo q teller s p next.course
  pub first : next.first ≡ next.course.next
  pub count : next.count ≡ told_count teller.known next.course.next (covered_from s next.course.next)

-- of the tellings that are due, this one comes first after the node that was told last
abbrev pub IsFirstDue : Questions → Teller → ℕ → Node → Next → Type 0
IsFirstDue q teller n s next =
    (p : ℕ) × IsNextTo q teller n s p next
    × ((other : ℕ) (c : Course) → IsNode n other → places_behind q.last other < places_behind q.last p
    → ¬ IsDueTo q teller s other c)

abbrev pub NobodyIsDue : Questions → Teller → ℕ → Node → Type 0
NobodyIsDue q teller n s = (p : ℕ) (c : Course) → IsNode n p → ¬ IsDueTo q teller s p c

-- the next telling to this node begins after this one
abbrev pub told_so : Questions → Next → Questions
told_so q next =
    record q { courses = set q.courses (next.to - 1) (Some (told_on next.course next.count)); last = next.to }

-- What was heard is taken in. Then the first node to which a telling is due is told, if there is one
pub record TellsNext (old : Questions) (teller : Teller) (n : ℕ) (s : Node) (telling : Option (ℕ × ℕ))
    (new : Questions) : Type 0 where
  pub mid : Questions
  pub takes : TakesIn old teller.times teller.at mid
  pub tells :
      ((next : Next) × IsFirstDue mid teller n s next × (telling ≡ Some (next.to, next.first))
      × (new ≡ told_so mid next))
      ⊎ (NobodyIsDue mid teller n s × (telling ≡ None) × (new ≡ mid))
