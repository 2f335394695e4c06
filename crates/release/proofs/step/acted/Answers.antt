use Rattle.std.proofs.Common.{◌≡◌, ◌≢◌, refl, sym, subst, ◌∙◌}
use Rattle.command.specs.Action.{Action, put_template, put_partial, put_data, put_route, put_redirect, remove, release}
use Rattle.content.specs.Answered.{answered}
use Rattle.content.specs.declared.applied.Applied.TheVariants.{Changed, Released}
use Rattle.content.proofs.Names.{on_if_ok}
use Rattle.release.specs.Stepping.{IsStep}
use Rattle.release.proofs.step.acted.Goals as goal

-- what is no release changes a name
changes : (a : Action) → answered a ≢ Released → Changed ≡ answered a
changes (put_template n b) apart = refl
changes (put_partial n b) apart = refl
changes (put_data n w) apart = refl
changes (put_route p s f) apart = refl
changes (put_redirect p t) apart = refl
changes (remove k n) apart = refl
changes release apart = absurd (apart refl)

pub returns-in-Released : goal.returns-in-Released
returns-in-Released c =
    on_if_ok c.released.result
    (λ step is orders order stands has.
    let done = c.in-Ok.ensures.ok orders order stands has in
    subst (λ s. IsStep s orders order) (sym is) (sym c.in-Released.is ∙ done.1, done.0, refl)) c.released.ensures

pub returns-in_default : goal.returns-in_default
returns-in_default c orders order stands has =
    let done = c.in-Ok.ensures.ok orders order stands has in
    (changes order.action (λ e. c.in_default.not-Released (done.1 ∙ e)), done.0)
