use Rattle.std.proofs.Common.{ap, sym, subst, ◌∙◌}
use Rattle.shared_map.specs.Entries.{IsRising, put, find}
use Rattle.shared_map.proofs.Changed.{rising_put}
use Rattle.shared_map.proofs.LookUps.{find_put}
use Rattle.shared_map.proofs.shared_map.SharedMap.put.Goals as goal

pub invariant_of-self : goal.invariant_of-self
invariant_of-self g c =
    let cmp = g.K.Ord.cmp in
    let is = c.in_ok-self-inside.ensures ∙ ap (λ p. put cmp p c.self.inside.tree) c.in_ok-entry.ensures.ok in
    subst (IsRising cmp) (sym is) (rising_put cmp g.met.K.Ord.total (c.args.key, c.args.value) c.self.inside.tree c.self.invariant)

pub returns-clause-finds : goal.returns-clause-finds
returns-clause-finds g c compare s =
    let cmp = g.K.Ord.cmp in
    ap (find compare) (c.in_ok-self-inside.ensures ∙ ap (λ p. put cmp p c.self.inside.tree) c.in_ok-entry.ensures.ok ∙ ap (put cmp (c.args.key, c.args.value)) c.self.view_is)
    ∙ find_put cmp compare s g.met.K.Ord.total (c.args.key, c.args.value) c.args.self.now
