use Rattle.std.proofs.Common.{◌≡◌, ◌-◌, ◌<◌, get_or, subst, arith}
use Rattle.std.proofs.lemmas.Str.{IsCharBoundary-after_ascii}
use Rattle.render.specs.Printed.{escaped_byte}
use Rattle.render.proofs.Escapes.{escaped_at}
use Rattle.render.proofs.escape.next_special.Goals as goal

pub range_from-requires : goal.range_from-requires
range_from-requires c _ =
    let t = c.args.text.now in
    let small : get_or t c.loop-at.at 0 < 128 = subst (λ bs. get_or bs c.loop-at.at 0 < 128) c.as_bytes-byte-items.ensures.value c.in-Some.ensures.1 in
    IsCharBoundary-after_ascii t c.loop-at.at c.utf8.text (omega arith) small

pub returns-in-Some : goal.returns-in-Some
returns-in-Some c =
    let t = c.args.text.now in
    let i = c.loop-at.at in
    let e = c.in-Some.entity.now in
    let here : escaped_byte (get_or t i 0) ≡ e = subst (λ bs. escaped_byte (get_or bs i 0) ≡ e) c.as_bytes-byte-items.ensures.value c.in-Some.ensures.0 in
    let from_start : i - 0 ≡ i = omega arith in
    (rw (c.range.ensures.value, c.range_from.ensures.value, from_start) (escaped_at t i e (omega arith) c.loop-at.invariant here), omega arith)
