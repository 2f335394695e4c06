use Rattle.std.proofs.Common.{◌≡◌, ◌≤◌, ⊎_elim, inr, ℕ, [], arith}
use Rattle.node.specs.Nodes.{IsFirstUnknown}
use Rattle.node.proofs.Gaps.{first_unknown, one_first}
use Rattle.node.proofs.Queueing.{is_true, le_is}
use Rattle.node.proofs.node.Node.wants_tick.Goals as goal

pub returns-in-Some : goal.returns-in-Some
returns-in-Some g c s stands =
    let old = c.args.self.now in
    let gap = c.in-Some.gap in
    let n = c.number.result in
    let parts = stands.parts in
    let first : IsFirstUnknown s.known gap = first_unknown old.known.log s.known gap parts.known.values c.in-Some.ensures in
    let none : s.pending ≡ [] = (c.is_empty.ensures s.pending parts.pending).0 (is_true c.is_empty.result c.if-not-is_empty.false) in (
      λ t. let low : n ≤ old.reached = (le_is n old.reached).0 t in inr (gap, first, omega (arith, low, c.number.ensures.is, parts.reached)),
      λ wants. ⊎_elim (λ some. absurd (some none))
          (λ (x : (i : ℕ) × IsFirstUnknown s.known i × (i ≤ s.reached)).
          let same : x.0 ≡ gap = one_first s.known gap x.0 first x.1 in
          let low : x.0 ≤ s.reached = x.2 in
          (le_is n old.reached).1 (omega (arith, same, low, c.number.ensures.is, parts.reached))) wants,
    )
