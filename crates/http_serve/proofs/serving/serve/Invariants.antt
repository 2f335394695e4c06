use Rattle.std.proofs.Common.{◌≡◌, ◌<◌, ◌-◌}
use Rattle.http_read.specs.Counted.{inside, failed}
use Rattle.http_read.specs.Input.{input_of}
use Rattle.http_serve.specs.Services.{MaySubmitMany}
use Rattle.http_serve.proofs.Running.{HasRun}
use Rattle.http_serve.proofs.serving.serve.Given as goal

abbrev pub invariant-loop-inbox : goal.invariant-loop-inbox
invariant-loop-inbox g l = record {
  run : HasRun g.S.Service.offered l.answered l.fn.service (g.R.Read.remaining (inside l.fn.reader)) l.service
      (input_of l.inbox (g.R.Read.remaining (inside l.reader))) (g.W.Write.contents (inside l.fn.writer)) (g.W.Write.contents (inside l.writer));
  submitted : MaySubmitMany g.S.Service.offered l.answered l.fn.service l.service;
  few : l.answered < 100;
  read : failed l.reader ≡ failed l.fn.reader;
  written : failed l.writer ≡ failed l.fn.writer;
}

abbrev pub decreases-loop-inbox : goal.decreases-loop-inbox
decreases-loop-inbox g l = 100 - l.answered
