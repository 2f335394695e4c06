use Rattle.http_serve.proofs.Fronts.{receipt_got}
use Rattle.http_serve.proofs.front.receipt_asked.Goals as goal

pub returns-in_err-target_of : goal.returns-in_err-target_of
returns-in_err-target_of c = rw c.from_residual.ensures (λ ticket asks. c.in_err-target_of.ensures asks.target asks.gets)

pub returns : goal.returns
returns c = receipt_got c.args.bytes.now c.in_ok-target_of.field-0.now c.receipt_of.result c.in_ok-target_of.ensures c.receipt_of.ensures
