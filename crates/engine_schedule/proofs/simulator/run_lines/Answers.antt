use Rattle.std.proofs.Common.{codes, refl, sym, subst, ◌∙◌}
use Rattle.http_read.specs.Bytes.{end_of, IsSilent, IsGiven}
use Rattle.engine_schedule.proofs.Simulated.{so_far_first, so_far_more, stepped, at_the_end, finished, stopped, endless, broken}
use Rattle.engine_common.proofs.Fed.{on_err, on_ok, silent}
use Rattle.engine_schedule.proofs.simulator.run_lines.Goals as goal

pub loop-k-init : goal.loop-k-init
loop-k-init g c = ((λ before failures begun. so_far_first _ _ _ _ _ _ _ _ _ refl begun), refl)

pub loop-k-preserved : goal.loop-k-preserved
loop-k-preserved g c = (
  (λ before failures begun. so_far_more _ _ _ _ _ _ _ _ _ _ _ _ c.loop-k.k _ c.loop-k.simulation c.next.new.self c.loop-k.feed c.next.new.feed _ _ refl c.as_bytes.ensures.value (c.loop-k.invariant.0 before failures begun)
      (stepped _ _ _ _ _ _ c.in-Ok-Some.text c.in-Ok-Some.field-0-is c.in-Ok-Some.ensures) (on_ok c.write_all.result _ c.write_all.ensures.ok (sym c.is_err.ensures.value ∙ c.if-is_err.false))),
  c.loop-k.invariant.1,
)

pub returns-in-Ok-None : goal.returns-in-Ok-None
returns-in-Ok-None g c before failures begun =
    let e = at_the_end _ _ _ _ _ _ c.in-Ok-None.field-0-is c.in-Ok-None.ensures in
    finished _ _ _ _ _ _ _ _ c.loop-k.k c.loop-k.simulation c.next.new.self c.loop-k.feed (c.loop-k.invariant.0 before failures begun) e.0 e.1 e.2 (subst (λ x. IsSilent (end_of g.E.Write.contents c.args.err.now x)) (sym c.loop-k.invariant.1) (silent _ _))

pub returns-then-is_err : goal.returns-then-is_err
returns-then-is_err g c before failures begun =
    broken _ _ _ _ _ _ _ _ _ _ _ _ _ c.loop-k.k _ c.loop-k.simulation c.next.new.self c.loop-k.feed c.next.new.feed _ _ c.as_bytes.ensures.value (c.loop-k.invariant.0 before failures begun)
    (stepped _ _ _ _ _ _ c.in-Ok-Some.text c.in-Ok-Some.field-0-is c.in-Ok-Some.ensures) (on_err c.write_all.result _ c.write_all.ensures.err (sym c.is_err.ensures.value ∙ c.if-is_err.true))
    (subst (λ x. IsGiven (end_of g.E.Write.contents x c.say.new.err) (codes "write failed\n")) c.loop-k.invariant.1 c.say.ensures.said) c.say.ensures.status

pub returns-in-Err : goal.returns-in-Err
returns-in-Err g c before failures begun =
    let s = c.say_fault.ensures.said in
    stopped _ _ _ _ _ _ _ _ c.loop-k.k _ c.loop-k.simulation c.next.new.self c.loop-k.feed c.next.new.feed s.0 c.in-Err.fault (c.loop-k.invariant.0 before failures begun) c.in-Err.ensures s.1
    (subst (λ x. IsGiven (end_of g.E.Write.contents x c.say_fault.new.err) s.0) c.loop-k.invariant.1 s.2) c.say_fault.ensures.status

pub returns : goal.returns
returns g c before failures begun =
    endless _ _ _ _ _ _ c.loop-k.k _ c.loop-k.simulation c.loop-k.feed (c.loop-k.invariant.0 before failures begun) (subst (λ x. IsGiven (end_of g.E.Write.contents x c.say-2.new.err) (codes "out of memory\n")) c.loop-k.invariant.1 c.say-2.ensures.said) c.say-2.ensures.status
