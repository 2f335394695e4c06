use Rattle.http_serve.proofs.Slashes.{nothing_before, number_before}
use Rattle.http_serve.proofs.resource.release_in.Goals as goal

pub returns-in_err-at : goal.returns-in_err-at
returns-in_err-at c = rw c.from_residual.ensures (λ n tail small is. nothing_before c.args.rest.now tail n is c.in_err-at.ensures)

pub returns-in_err-n : goal.returns-in_err-n
returns-in_err-n c = rw c.from_residual-in_err-n.ensures (λ n tail small is.
    c.in_err-n.ensures n small (number_before c.args.rest.now tail n c.in_ok-at.at small is c.in_ok-at.ensures.1 c.in_ok-at.ensures.2).0)
