use Rattle.std.proofs.Common.{refl, ap, ◌∙◌}
use Rattle.editor_plan.proofs.Moving.{heard_same, heard_on}
use Rattle.editor_group.proofs.delivering.deliver_at.Goals.{in-Again, in-Next}
use Rattle.editor_group.proofs.delivering.deliver_at.Goals as goal

pub loop-init : goal.loop-init
loop-init g c = record { hears = heard_same _ _ refl; nodes = refl }

pub loop-preserved : goal.loop-preserved
loop-preserved g c = record {
  hears = heard_on _ _ _ c.loop.invariant.hears c.bring.ensures.hears;
  nodes = elim c.match-step.branch [
    | in-Again w ↦ ap (λ group. group.nodes) w.group-is ∙ c.loop.invariant.nodes
    | in-Next w ↦ ap (λ group. group.nodes) w.group-is ∙ w.turn.ensures ∙ c.loop.invariant.nodes
  ];
}

pub returns-in_err-came-clause-hears : goal.returns-in_err-came-clause-hears
returns-in_err-came-clause-hears g c = heard_on _ _ _ c.loop.invariant.hears c.bring.ensures.hears

pub returns-in_err-now-clause-hears : goal.returns-in_err-now-clause-hears
returns-in_err-now-clause-hears g c = heard_on _ _ _ c.loop.invariant.hears c.bring.ensures.hears

pub returns-in_err-tell_progress-clause-hears : goal.returns-in_err-tell_progress-clause-hears
returns-in_err-tell_progress-clause-hears g c = heard_on _ _ _ c.loop.invariant.hears c.bring.ensures.hears

pub returns-in-GiveUp-clause-hears : goal.returns-in-GiveUp-clause-hears
returns-in-GiveUp-clause-hears g c = heard_on _ _ _ c.loop.invariant.hears c.bring.ensures.hears
