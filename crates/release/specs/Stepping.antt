-- What a command that is not a repeat does to the site of those before it.
use Rattle.std.specs.Prelude.{◌≡◌, List, [], ◌∷◌, ◌++◌}
use Rattle.command.specs.Action.{Order}
use Rattle.content.specs.Answered.{answered}
use Rattle.content.specs.Standing.{HasContents}
use Rattle.content.specs.declared.applied.Applied.TheVariants.{Changed, Released}
use Rattle.release.specs.declared.step.Step.{Step}
use Rattle.release.specs.declared.step.Step.TheVariants.{Change, Release}

-- the step of the order o after the others
abbrev pub IsStep : Step → List Order → Order → Type 0
IsStep (Change site) orders o = (Changed ≡ answered o.action) × HasContents site (orders ++ o ∷ [])
IsStep (Release site copy) orders o =
    (Released ≡ answered o.action) × HasContents site (orders ++ o ∷ []) × (copy ≡ site)
