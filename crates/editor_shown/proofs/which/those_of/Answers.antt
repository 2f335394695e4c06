use Rattle.std.proofs.Common.{string_bytes, arith}
use Rattle.editor_shown.proofs.Failing.{out_of_memory}
use Rattle.editor_shown.proofs.which.those_of.Goals as goal

pub returns-in_err-clone-clause-unanswered : goal.returns-in_err-clone-clause-unanswered
returns-in_err-clone-clause-unanswered c =
    let a = c.args in
    out_of_memory a.url.now string_bytes a.paths.now a.answers.now c.loop-i.i c.index-paths-i.result
    (omega (arith, c.loop-i-test.true)) c.index-paths-i.is
    c.from_residual-in_err-clone.result c.from_residual-in_err-clone.ensures.1

pub returns-in_err-push-clause-unanswered : goal.returns-in_err-push-clause-unanswered
returns-in_err-push-clause-unanswered c =
    let a = c.args in
    out_of_memory a.url.now string_bytes a.paths.now a.answers.now c.loop-i.i c.index-paths-i.result
    (omega (arith, c.loop-i-test.true)) c.index-paths-i.is
    c.from_residual-in_err-push.result c.from_residual-in_err-push.ensures.1
