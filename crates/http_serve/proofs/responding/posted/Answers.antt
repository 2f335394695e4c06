use Rattle.std.proofs.Common.{codes, refl, inl}
use Rattle.std.proofs.lemmas.Result.{IfOk-weaker}
use Rattle.http_serve.specs.Responses.{plain, wrong_method}
use Rattle.http_serve.proofs.Elsewhere.{elsewhere}
use Rattle.http_serve.proofs.Answering.{on_err}
use Rattle.http_serve.proofs.responding.posted.Goals as goal

pub returns-in-Unknown-clause-answered : goal.returns-in-Unknown-clause-answered
returns-in-Unknown-clause-answered g c =
    IfOk-weaker c.plain.result _ _ (λ v same. (plain 404 (codes "not found"), rw c.in-Unknown.is (refl, refl), same)) c.plain.ensures

pub returns-in-Receipt : goal.returns-in-Receipt
returns-in-Receipt g c = record {
  answered = IfOk-weaker c.wrong_method.result _ _
      (λ v same. (wrong_method (codes "GET, HEAD"), elsewhere _ _ _ _ c.in-Receipt.is, same)) c.wrong_method.ensures;
  refused = on_err c.wrong_method.result (inl refl);
}
