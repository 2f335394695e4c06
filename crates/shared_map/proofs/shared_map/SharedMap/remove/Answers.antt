use Rattle.std.proofs.Common.{ap, sym, subst, ◌∙◌}
use Rattle.shared_map.specs.Entries.{IsRising, find, remove}
use Rattle.shared_map.proofs.Changed.{rising_remove}
use Rattle.shared_map.proofs.LookUps.{find_gone, find_others}
use Rattle.shared_map.proofs.shared_map.SharedMap.remove.Goals as goal

pub invariant_of-self : goal.invariant_of-self
invariant_of-self g c =
    let cmp = g.K.Ord.cmp in
    subst (IsRising cmp) (sym c.in_ok-self-inside.ensures) (rising_remove cmp (g.Q.Sought.compare c.args.key) c.self.inside.tree c.self.invariant)

pub returns-clause-gone : goal.returns-clause-gone
returns-clause-gone g c =
    let compare = g.Q.Sought.compare c.args.key in
    ap (find compare) c.in_ok-self-inside.ensures ∙ find_gone g.K.Ord.cmp compare (g.met.Q.Sought.is_search c.args.key) c.self.inside.tree c.self.invariant

pub returns-clause-others : goal.returns-clause-others
returns-clause-others g c compare apart =
    ap (find compare) (c.in_ok-self-inside.ensures ∙ ap (remove (g.Q.Sought.compare c.args.key)) c.self.view_is) ∙ find_others (g.Q.Sought.compare c.args.key) compare apart c.args.self.now
