use Rattle.std.proofs.Common.{◌≡◌, ℕ, length, string_bytes, subst, sym, arith}
use Rattle.std.specs.Str.{IsCharBoundary}
use Rattle.render.proofs.Escapes.{where_it_ended}
use Rattle.render.proofs.escape.escape_into.Goals as goal

-- src/escape.rt:65:9
pub truncate-requires : goal.truncate-requires
truncate-requires c =
    let o = c.args.out.now in
    let n = c.push_escaped-pushed.new.out in
    let at : c.len-kept.result ≡ length (string_bytes o) = omega (arith, c.len-kept.ensures) in
    let b = subst (λ (k : ℕ). IsCharBoundary (string_bytes n) k) (sym at) (where_it_ended o n c.push_escaped-pushed.result c.if-is_err.ensures.value c.push_escaped-pushed.ensures.err) in
    λ _. (b.0, λ _. b.1)
