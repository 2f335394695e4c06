use Rattle.std.proofs.Common.{arith, refl}
use Rattle.http_read.proofs.Stages.{line_last, line_size}
use Rattle.http_read.proofs.body.Body.read_line.Goals as goal

pub returns-then-size-eq0 : goal.returns-then-size-eq0
returns-then-size-eq0 c =
    line_last c.args.self.now _ c.in-Size.size _ _ c.requires refl refl c.in-Size.ensures (omega (arith, c.if-size-eq0.true))

pub returns-else-size-saturating_sub : goal.returns-else-size-saturating_sub
returns-else-size-saturating_sub c =
    line_size c.args.self.now _ c.in-Size.size _ _ c.requires refl refl c.in-Size.ensures (omega (arith, c.if-size-eq0.false))
    (omega (arith, c.if-size-eq0.false, c.if-size-saturating_sub.false, c.saturating_sub.ensures, c.len.ensures))
