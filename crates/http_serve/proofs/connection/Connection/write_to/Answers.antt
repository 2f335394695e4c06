use Rattle.std.proofs.Common.{◌∙◌, ◌++◌, take, arith, ap, sym}
use Rattle.std.proofs.lemmas.Grind.{common_steps}
use Rattle.http_serve.proofs.Outboxes.{written_first}
use Rattle.http_serve.proofs.connection.Connection.write_to.Goals as goal

pub returns-in-Ok : goal.returns-in-Ok
returns-in-Ok g c =
    let front = c.waiting.result.now in
    let split = written_first c.args.self.now.outbox front c.waiting.ensures.front.0 c.in-Ok.n c.waiting.ensures.front.1 (omega (arith, c.in-Ok.ensures)) in (
      take c.in-Ok.n front,
      grind (arith, common_steps),
      split ∙ ap (λ d. take c.in-Ok.n front ++ d) (sym c.pass.ensures),
      grind (arith, common_steps),
      grind (arith, common_steps),
    )
