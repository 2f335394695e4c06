use Rattle.std.proofs.Common.{◌≡◌, ◌++◌, ◌∷◌, [], ℕ, List, length, refl, sym, ap, ◌∙◌, arith}
use Rattle.server_packets.specs.Packets.{framed, framed_all}
use Rattle.server_packets.proofs.FrameLemmas.{first_is_shorter, frames_behind, none_left}
use Rattle.server_packets.proofs.frames.are_frames.Goals as goal

pub loop-behind-preserved : goal.loop-behind-preserved
loop-behind-preserved c =
    let d = c.in-Some.field-0-0.now in
    let found = c.in-Some.ensures.found in
    let m = first_is_shorter d c.in-Some.behind.now in
    let l = ap length found in
    let i = c.loop-behind.invariant in
    record {
      passed = λ ds e. i.passed (d ∷ ds) (found ∙ ap (λ x. framed d ++ x) e);
      left = λ es e. let w = i.left es e in let f = frames_behind d c.in-Some.behind.now w.0 (omega (arith, c.requires, i.short)) (sym found ∙ w.1) in (f.0, f.2);
      short = omega (arith, i.short);
    }

empty : (xs : List ℕ) → length xs ≡ 0 → xs ≡ []
empty [] none = refl
empty (x ∷ xs) none = absurd (omega arith)

pub returns : goal.returns
returns c =
    let i = c.loop-behind.invariant in (
      λ t. i.passed [] (empty c.loop-behind.rest.now (grind (arith, t, c.is_empty.ensures))),
      λ w. let v = i.left w.0 w.1 in
          let none = none_left c.loop-behind.rest.now v.0 c.in_default.ensures.none (omega (arith, c.requires, i.short)) v.1 in
          let l = ap length (v.1 ∙ ap framed_all none) in
          grind (arith, l, c.is_empty.ensures),
    )
