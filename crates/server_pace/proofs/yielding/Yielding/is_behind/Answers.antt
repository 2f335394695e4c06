use Rattle.std.proofs.Common.{◌≡◌, ⊎_elim, ℕ, ◌<◌, ◌≤◌, ◌-◌, get_or, true, false, ap, sym, ◌∙◌, arith, rules}
use Rattle.site_ids.proofs.NodeSetLemmas.{below_next}
use Rattle.server_pace.specs.Places.{places_behind}
use Rattle.server_pace.proofs.yielding.Yielding.is_behind.Goals as goal
use Rattle.server_pace.proofs.yielding.Yielding.is_behind.Goals.{else-tried-from-via-then-tried-from+else-places_behind, else-tried-from-via-else-tried-from}

pub returns-then-places_behind : goal.returns-then-places_behind
returns-then-places_behind c = search rules

not_below : (its own x y : ℕ) → its ≡ x → y ≡ own → y ≤ x → ¬ (its < own)
not_below its own x y a b least less = omega (arith, a, b, least, less)

-- this one is none of them, or did not try
pub loop-number-preserved : goal.loop-number-preserved
loop-number-preserved c = λ q some below tried before. ⊎_elim
    (λ (e : q ≡ c.loop-number.number). elim c.else-tried-from.branch [
      | else-tried-from-via-then-tried-from+else-places_behind w ↦
          let last = c.in-Some.last in
          let its = ap (places_behind last) e ∙ sym w.places_behind.ensures in
          let own = w.places_behind-then-tried-from.ensures ∙ ap (places_behind last) w.number.ensures.is in
          not_below _ _ _ _ its own w.if-places_behind.false before
      | else-tried-from-via-else-tried-from w ↦
          let same = e ∙ sym c.from.ensures in
          let no : true ≡ false = sym tried ∙ ap (λ k. get_or c.places-tried.result (k - 1) false) same ∙ w.if-tried-from.false in
          absurd (cc)
    ])
    (λ (less : q < c.loop-number.number). c.loop-number.invariant q some less tried before)
    (below_next q c.loop-number.number (omega (arith, below)))
