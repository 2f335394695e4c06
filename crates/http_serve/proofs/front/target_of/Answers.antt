use Rattle.http_serve.proofs.Fronts.{no_target, target_before}
use Rattle.http_serve.proofs.front.target_of.Goals as goal

pub returns-in_err-end : goal.returns-in_err-end
returns-in_err-end c = rw c.from_residual-in_err-end.ensures (λ target gets. no_target c.args.bytes.now c.in_ok-rest.rest.now target c.in_ok-rest.ensures c.in_err-end.ensures gets)

pub returns : goal.returns
returns c = target_before c.args.bytes.now c.in_ok-rest.rest.now c.in_ok-end.end c.in_ok-rest.ensures c.in_ok-end.ensures.0 c.in_ok-end.ensures.1 c.in_ok-end.ensures.2
