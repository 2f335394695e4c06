-- How far a node that asked is told. Times are milliseconds since the server began.
use Rattle.std.specs.Prelude.{ℕ, ◌+◌, ◌-◌, ◌*◌, ◌/◌, ◌^◌, min, max, Bool, true, false, nat_le, nat_lt}
use Rattle.std.specs.Prelude.{if◌then◌else◌, Option, Some, None}
use Rattle.node.specs.declared.TheConstants.{MAX_TOLD}
use Rattle.server_pace.specs.declared.course.Course.{Course}
use Rattle.server_times.specs.Timing.{passed}
use Rattle.server_times.specs.declared.times.Times.{Times}

-- the course of a node which asks for instance i, and of which nothing was heard before
abbrev pub first_course : Times → ℕ → ℕ → Course
first_course times now i = record {
  first = i;
  next = i;
  budget = times.least;
  repeats = 0;
  at = now;
  since = now;
  back = true;
  took = times.flight;
  asked = true;
}

-- how long it took to ask further on, since it was told from its last question on; else the time measured
-- before
abbrev pub flight_by : Course → ℕ → ℕ
flight_by c now = if c.back then now - c.since else c.took

-- how long a telling may be on its way: as long as the last question further on took, or twice as long if the
-- node is told again
abbrev pub flight_of : Course → ℕ
flight_of c = if c.back then min (2 * c.took) (2 ^ 64 - 1) else c.took

-- how many stretches further on instance i is; a part of a stretch counts as one
abbrev pub stretches_to : Course → ℕ → ℕ
stretches_to c i = (i - c.first - 1) / MAX_TOLD + 1

-- it asked further on, for instance i: as many stretches more may be on their way
abbrev pub moved_on : Times → ℕ → ℕ → Course → Course
moved_on times now i c = record c {
  first = i;
  next = max c.next i;
  budget = min (c.budget + stretches_to c i) times.most;
  repeats = 0;
  at = now;
  since = now;
  back = false;
  took = flight_by c now;
  asked = true;
}

-- It asked again for the same instance, or for the next one, which an answer to the question brings. What it
-- was told may still be on its way. If not, it is told from there on again, and a quarter less may be on its
-- way
abbrev pub asked_again : Times → ℕ → ℕ → Course → Course
asked_again times now i c =
    let again = record c {
      first = i;
      next = max c.next i;
      repeats = min (c.repeats + 1)
          (2 ^ 32 - 1);
      at = now;
      asked = true;
    } in
    if nat_lt (flight_of c) (now - c.since)
    then record again {
      next = i;
      budget = max
          (min (c.budget * 3) (2 ^ 32 - 1) / 4) times.least;
      since = now;
      back = true;
    }
    else again

-- it asked for instance i; a question for an earlier one came late, or the node began anew
abbrev pub heard_on : Times → ℕ → ℕ → Course → Course
heard_on times now i c =
    if nat_lt (c.first + 1) i then moved_on times now i c
    else (if nat_le c.first i then asked_again times now i c
    else (if passed (Some c.at) now times.late then first_course times now i else c))

-- the course after a question, if one waits
abbrev pub course_after : Times → ℕ → Option ℕ → Option Course → Option Course
course_after times now None course = course
course_after times now (Some i) None = Some (first_course times now i)
course_after times now (Some i) (Some c) = Some (heard_on times now i c)

-- a telling of count instances is one of the stretches that may be on their way
abbrev pub is_open : Course → ℕ → Bool
is_open c count = nat_le (c.next - c.first) (min ((c.budget - 1) * count) (2 ^ 32 - 1))

-- it was told of count instances
abbrev pub told_on : Course → ℕ → Course
told_on c count = record c { next = min (c.next + count) (2 ^ 32 - 1); asked = false }
