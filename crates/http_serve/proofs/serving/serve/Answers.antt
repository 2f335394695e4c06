use Rattle.std.proofs.Common.{◌∙◌, arith, refl, Ok, Err}
use Rattle.std.proofs.lemmas.Result.{err_from_is_err_and}
use Rattle.http_read.specs.Counted.{inside}
use Rattle.http_read.specs.Input.{input_of}
use Rattle.http_read.proofs.Answered.{ok_is_no_err}
use Rattle.http_serve.specs.declared.fault.ServeFault.TheVariants.{EndedEarly}
use Rattle.http_serve.specs.declared.next.Next.TheVariants.{Closes, Ended}
use Rattle.http_serve.proofs.Running.{none_run, more_run, run_ends, ended_first, ended_later, many_more, submitted_more}
use Rattle.http_serve.proofs.serving.serve.Goals as goal

pub loop-inbox-init : goal.loop-inbox-init
loop-inbox-init g c = record {
  run = none_run g.S.Service.offered c.args.service.now c.new-inbox.result _ _ c.new-inbox.ensures;
  submitted = refl;
  few = omega arith;
  read = refl;
  written = refl;
}

pub loop-inbox-preserved : goal.loop-inbox-preserved
loop-inbox-preserved g c =
    let one = rw c.in-Stays.is at c.in_ok-exchange.ensures.answered in
    record {
      run = more_run g.S.Service.offered c.loop-inbox.answered c.args.service.now c.loop-inbox.service c.exchange.new.service _ _
          (input_of c.exchange.new.inbox (g.R.Read.remaining (inside c.exchange.new.reader))) (g.R.Read.remaining (inside c.exchange.new.reader)) _ _ _ c.loop-inbox.invariant.run one;
      submitted = many_more g.S.Service.offered c.loop-inbox.answered c.args.service.now c.loop-inbox.service c.exchange.new.service c.loop-inbox.invariant.submitted c.exchange.ensures.taken;
      few = c.in_ok-exchange.ensures.few c.in-Stays.is;
      read = c.in_ok-exchange.ensures.read_sound (ok_is_no_err _ _) ∙ c.loop-inbox.invariant.read;
      written = c.in_ok-exchange.ensures.write_sound (ok_is_no_err _ _) ∙ c.loop-inbox.invariant.written;
    }

pub returns-in_err-exchange-clause-answered : goal.returns-in_err-exchange-clause-answered
returns-in_err-exchange-clause-answered g c =
    let p = err_from_is_err_and c.from_residual.result c.from_residual.ensures.1 in
    rw (p.1, p.2) (run_ends g.S.Service.offered c.loop-inbox.answered c.args.service.now c.loop-inbox.service c.exchange.new.service _ _
    (input_of c.exchange.new.inbox (g.R.Read.remaining (inside c.exchange.new.reader))) (g.R.Read.remaining (inside c.exchange.new.reader)) _ _ _
    (Err c.in_err-exchange.field-0.0) (Err c.in_err-exchange.field-0.0) c.loop-inbox.invariant.run c.in_err-exchange.ensures.answered refl)

pub returns-in_err-exchange-clause-taken : goal.returns-in_err-exchange-clause-taken
returns-in_err-exchange-clause-taken g c =
    submitted_more g.S.Service.offered c.loop-inbox.answered c.args.service.now c.loop-inbox.service c.exchange.new.service c.loop-inbox.invariant.few c.loop-inbox.invariant.submitted c.exchange.ensures.taken

pub returns-in-Closes-clause-answered : goal.returns-in-Closes-clause-answered
returns-in-Closes-clause-answered g c =
    let one = rw c.in-Closes.is at c.in_ok-exchange.ensures.answered in
    run_ends g.S.Service.offered c.loop-inbox.answered c.args.service.now c.loop-inbox.service c.exchange.new.service _ _
    (input_of c.exchange.new.inbox (g.R.Read.remaining (inside c.exchange.new.reader))) (g.R.Read.remaining (inside c.exchange.new.reader)) _ _ _ (Ok Closes) (Ok tt)
    c.loop-inbox.invariant.run one refl

pub returns-in-Closes-clause-taken : goal.returns-in-Closes-clause-taken
returns-in-Closes-clause-taken g c =
    submitted_more g.S.Service.offered c.loop-inbox.answered c.args.service.now c.loop-inbox.service c.exchange.new.service c.loop-inbox.invariant.few c.loop-inbox.invariant.submitted c.exchange.ensures.taken

pub returns-then-answered-eq0-clause-answered : goal.returns-then-answered-eq0-clause-answered
returns-then-answered-eq0-clause-answered g c =
    let one = rw c.in-Ended.is at c.in_ok-exchange.ensures.answered in
    run_ends g.S.Service.offered c.loop-inbox.answered c.args.service.now c.loop-inbox.service c.exchange.new.service _ _
    (input_of c.exchange.new.inbox (g.R.Read.remaining (inside c.exchange.new.reader))) (g.R.Read.remaining (inside c.exchange.new.reader)) _ _ _ (Ok Ended) (Err EndedEarly)
    c.loop-inbox.invariant.run one (ended_first c.loop-inbox.answered (omega (arith, c.if-answered-eq0.true)))

pub returns-then-answered-eq0-clause-taken : goal.returns-then-answered-eq0-clause-taken
returns-then-answered-eq0-clause-taken g c =
    submitted_more g.S.Service.offered c.loop-inbox.answered c.args.service.now c.loop-inbox.service c.exchange.new.service c.loop-inbox.invariant.few c.loop-inbox.invariant.submitted c.exchange.ensures.taken

pub returns-in-Ended-clause-answered : goal.returns-in-Ended-clause-answered
returns-in-Ended-clause-answered g c =
    let one = rw c.in-Ended.is at c.in_ok-exchange.ensures.answered in
    run_ends g.S.Service.offered c.loop-inbox.answered c.args.service.now c.loop-inbox.service c.exchange.new.service _ _
    (input_of c.exchange.new.inbox (g.R.Read.remaining (inside c.exchange.new.reader))) (g.R.Read.remaining (inside c.exchange.new.reader)) _ _ _ (Ok Ended) (Ok tt)
    c.loop-inbox.invariant.run one (ended_later c.loop-inbox.answered (omega (arith, c.if-answered-eq0.false)))

pub returns-in-Ended-clause-taken : goal.returns-in-Ended-clause-taken
returns-in-Ended-clause-taken g c =
    submitted_more g.S.Service.offered c.loop-inbox.answered c.args.service.now c.loop-inbox.service c.exchange.new.service c.loop-inbox.invariant.few c.loop-inbox.invariant.submitted c.exchange.ensures.taken
