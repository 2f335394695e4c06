use Rattle.std.proofs.Common.{false, true}
use Rattle.std.proofs.lemmas.Result.{IfOk-weaker}
use Rattle.http_serve.proofs.Answering.{get_asks, head_asks, asked_responds, posted_responds}
use Rattle.http_serve.proofs.responding.respond.Goals as goal

pub returns-in-Get-clause-answered : goal.returns-in-Get-clause-answered
returns-in-Get-clause-answered g c = IfOk-weaker c.shown.result _ _
    (λ v same. asked_responds _ _ _ false c.args.keep _ _ v (get_asks _ c.in-Get.is) c.as_str-path.ensures.value c.resource_of-resource.ensures same)
    c.shown.ensures

pub returns-in-Head-clause-answered : goal.returns-in-Head-clause-answered
returns-in-Head-clause-answered g c = IfOk-weaker c.shown-in-Head.result _ _
    (λ v same. asked_responds _ _ _ true c.args.keep _ _ v (head_asks _ c.in-Head.is) c.as_str-path.ensures.value c.resource_of-resource.ensures same)
    c.shown-in-Head.ensures

pub returns-in-Post-clause-answered : goal.returns-in-Post-clause-answered
returns-in-Post-clause-answered g c = IfOk-weaker c.posted.result _ _
    (λ v (reply, replied, same).
    posted_responds _ _ _ _ _ _ _ _ _ c.args.keep _ reply v c.in-Post.is c.as_str-path.ensures.value c.as_slice.ensures.value c.resource_of-resource.ensures replied same)
    c.posted.ensures.answered
