use Rattle.std.proofs.Common.{◌≡◌, inl, inr, true, false, [], ◌∷◌, ◌++◌, refl, sym, ap, ◌∙◌}
use Rattle.node.specs.Nodes.{Value}
use Rattle.node.proofs.Queueing.{is_true, true_is}
use Rattle.node.proofs.node.Node.push_untried.Goals as goal

off : true ≡ false → ⊥
off e = cc

pub returns-then-tries-clause-pushes : goal.returns-then-tries-clause-pushes
returns-then-tries-clause-pushes g c attempts are =
    let tried = (c.tries.ensures attempts are).0 (is_true c.tries.result c.if-tries.true) in
    inl ((tried.0, tried.1, tried.2, tried.3 ∙ c.as_bytes.ensures), refl)

pub returns-clause-pushes : goal.returns-clause-pushes
returns-clause-pushes g c attempts are =
    inr (
      λ tried. off (sym (true_is c.tries.result ((c.tries.ensures attempts are).1 (tried.0, tried.1, tried.2, tried.3 ∙ sym c.as_bytes.ensures))) ∙ c.if-tries.false),
      c.in_ok-push.ensures.items ∙ ap (λ (v : Value). c.args.values.now.items ++ v ∷ []) c.in_ok-try_clone.ensures,
    )
