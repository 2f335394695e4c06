use Rattle.std.proofs.Common.{◌≡◌, inl, inr, ◌+◌, ℕ, None, true, false, sym, ap, subst, ◌∙◌, arith}
use Rattle.site_ids.specs.Ids.{IsInstance}
use Rattle.node.specs.Nodes.{Node, IsUnknown}
use Rattle.node.specs.Calls.{IsFree}
use Rattle.node.proofs.Choosing.{free_first, free_more}
use Rattle.node.proofs.Queueing.{is_true, true_is}
use Rattle.node.proofs.node.Node.free_run.Goals as goal

off : true ≡ false → ⊥
off e = cc

pub loop-past-init : goal.loop-past-init
loop-past-init g c = record {
  there = omega arith;
  free = λ s stands first next. free_first s c.args.instance next;
}

pub loop-past-preserved : goal.loop-past-preserved
loop-past-preserved g c =
    let l = c.loop-past in
    record {
      there = omega (arith, c.in-Some.ensures.1.1);
      free = λ s stands first next. free_more s c.args.instance l.past (l.invariant.free s stands first next)
          (let free = (c.is_free.ensures s stands).0 (is_true c.is_free.result c.if-not-is_free.false) in
          record {
            instance = c.in-Some.ensures.1;
            unknown = subst (λ (n : ℕ). s.known n ≡ None) c.in-Some.ensures.0 free.0;
            untried = subst (λ (n : ℕ). s.attempts n ≡ None) c.in-Some.ensures.0 free.1;
          });
    }

-- the last instance has been passed
pub returns-in_default-clause-free : goal.returns-in_default-clause-free
returns-in_default-clause-free g c s stands first next =
    let l = c.loop-past in
    record {
      some = omega arith;
      free = l.invariant.free s stands first next;
      near = omega (arith, c.number.ensures.is, c.number-2.ensures.is);
      ends = inr (λ free. c.in_default.ensures free.instance);
    }

pub returns-then-not-is_free-clause-free : goal.returns-then-not-is_free-clause-free
returns-then-not-is_free-clause-free g c s stands first next =
    let l = c.loop-past in
    let at : c.args.instance + l.past ≡ c.in-Some.at = sym c.in-Some.ensures.0 in
    record {
      some = omega arith;
      free = l.invariant.free s stands first next;
      near = omega (arith, c.number.ensures.is, c.number-2.ensures.is);
      ends = inr (λ (free : IsFree s (c.args.instance + l.past)). off (sym (true_is c.is_free.result ((c.is_free.ensures s stands).1 (subst (λ (n : ℕ). s.known n ≡ None) at free.unknown, subst (λ (n : ℕ). s.attempts n ≡ None) at free.untried))) ∙ c.if-not-is_free.true));
    }

pub returns-clause-free : goal.returns-clause-free
returns-clause-free g c s stands first next =
    let l = c.loop-past in
    record {
      some = omega arith;
      free = λ j within. l.invariant.free s stands first next j (within.0, omega (arith, within.1));
      near = omega (arith, c.number.ensures.is, c.number-2.ensures.is);
      ends = inl (omega (arith, c.number.ensures.is, c.number-2.ensures.is));
    }
