-- What holds of all answers of a world.
use Rattle.std.specs.Prelude.{◌≡◌, ℕ, List}
use Rattle.release.specs.Page.{Page}
use Rattle.world.specs.declared.event.Event.{Event}
use Rattle.world.specs.declared.world.World.{World as Code}
use Rattle.world.specs.Steps.{Follows, Reached, IsAnswer}

-- each value follows itself, and what follows a later value follows the earlier one
abbrev pub FollowsItself : Type 0
FollowsItself = (code : Code) → Follows code code

abbrev pub FollowsOn : Type 0
FollowsOn = (old mid new : Code) → Follows old mid → Follows mid new → Follows old new

-- two answers for a release and a path are one page, whichever nodes gave them, at one moment or at two
abbrev pub AnswersAreOne : Type 0
AnswersAreOne = (old new : Code) (events : List Event) → Reached old events → Follows old new
    → (earlier later : List Event) (n : ℕ) (path : List ℕ) (page other : Page)
    → IsAnswer old earlier n path page → IsAnswer new later n path other → page ≡ other
