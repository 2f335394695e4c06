use Rattle.std.proofs.Common.{◌≡◌, ⊎_elim, inr, true, false, sym, ◌∙◌}
use Rattle.node.proofs.node.Node.holds.Goals as goal

pub returns-else-holds : goal.returns-else-holds
returns-else-holds g c s stands =
    let waits = c.holds.ensures s.pending stands.parts.pending in
    let known = c.holds-else-holds.ensures s.known stands.parts.known in
    (λ yes. inr (known.0 yes), λ held. ⊎_elim (λ is. absurd (off (sym is ∙ sym waits ∙ c.if-holds.false))) known.1 held)
  where
    off : true ≡ false → ⊥
    off e = cc
