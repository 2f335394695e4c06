use Rattle.std.proofs.Common.{[], refl}
use Rattle.world.proofs.Happening.{is_sent, submits, ticks, widens, asks, tells, keeps, delivers, arms, crashes, restarts, replaces, submit_wants, tick_wants, widen_wants, ask_wants, tell_wants, keep_wants, deliver_wants, replace_wants}
use Rattle.world.proofs.machine.Machine.happen.Goals as goal

pub returns-in-Submit-clause-ok : goal.returns-in-Submit-clause-ok
returns-in-Submit-clause-ok g = submits _ g.args.cluster _ _ _ _ [] _ _ _ g.in-Submit.is refl g.submit.ensures.ok

pub returns-in-Submit-clause-err : goal.returns-in-Submit-clause-err
returns-in-Submit-clause-err g = submit_wants _ g.args.cluster _ _ _ _ [] _ _ _ g.in-Submit.is refl g.submit.ensures.err

pub returns-in-Tick-clause-ok : goal.returns-in-Tick-clause-ok
returns-in-Tick-clause-ok g = ticks _ g.args.cluster _ _ _ _ _ _ g.in-Tick.is g.tick.ensures.ok

pub returns-in-Tick-clause-err : goal.returns-in-Tick-clause-err
returns-in-Tick-clause-err g = tick_wants _ g.args.cluster _ _ _ _ _ _ g.in-Tick.is g.tick.ensures.err

pub returns-in-Widen-clause-ok : goal.returns-in-Widen-clause-ok
returns-in-Widen-clause-ok g = widens _ g.args.cluster _ _ _ _ _ _ g.in-Widen.is g.widen.ensures.ok

pub returns-in-Widen-clause-err : goal.returns-in-Widen-clause-err
returns-in-Widen-clause-err g = widen_wants _ g.args.cluster _ _ _ _ _ _ g.in-Widen.is g.widen.ensures.err

pub returns-in-Ask-clause-ok : goal.returns-in-Ask-clause-ok
returns-in-Ask-clause-ok g = asks _ g.args.cluster _ _ _ _ _ _ g.in-Ask.is g.ask.ensures.ok

pub returns-in-Ask-clause-err : goal.returns-in-Ask-clause-err
returns-in-Ask-clause-err g = ask_wants _ g.args.cluster _ _ _ _ _ _ g.in-Ask.is g.ask.ensures.err

pub returns-in-Tell-clause-ok : goal.returns-in-Tell-clause-ok
returns-in-Tell-clause-ok g = tells _ g.args.cluster _ _ _ _ _ _ _ g.in-Tell.is g.tell.ensures.ok

pub returns-in-Tell-clause-err : goal.returns-in-Tell-clause-err
returns-in-Tell-clause-err g = tell_wants _ g.args.cluster _ _ _ _ _ _ _ g.in-Tell.is g.tell.ensures.err

pub returns-in-Keep-clause-ok : goal.returns-in-Keep-clause-ok
returns-in-Keep-clause-ok g = keeps _ g.args.cluster _ _ _ _ [] _ _ g.in-Keep.is g.keep.ensures.ok

pub returns-in-Keep-clause-err : goal.returns-in-Keep-clause-err
returns-in-Keep-clause-err g = keep_wants _ g.args.cluster _ _ _ _ [] _ _ g.in-Keep.is g.keep.ensures.err

pub deliver-requires : goal.deliver-requires
deliver-requires g = is_sent _ _ _ _ g.in-Deliver.is g.requires.message

pub returns-in-Deliver-clause-ok : goal.returns-in-Deliver-clause-ok
returns-in-Deliver-clause-ok g = delivers _ g.args.cluster _ _ _ _ _ _ _ g.in-Deliver.is (is_sent _ _ _ _ g.in-Deliver.is g.requires.message) g.deliver.ensures.ok

pub returns-in-Deliver-clause-err : goal.returns-in-Deliver-clause-err
returns-in-Deliver-clause-err g = deliver_wants _ g.args.cluster _ _ _ _ _ _ _ g.in-Deliver.is g.deliver.ensures.err

pub returns-in-Arm-clause-ok : goal.returns-in-Arm-clause-ok
returns-in-Arm-clause-ok g = arms g.args.cluster _ _ _ _ _ _ g.in-Arm.is g.arm.ensures

pub returns-in-Crash-clause-ok : goal.returns-in-Crash-clause-ok
returns-in-Crash-clause-ok g = crashes g.args.cluster _ _ _ _ _ _ g.in-Crash.is g.crash.ensures

pub returns-in-Ok-clause-ok : goal.returns-in-Ok-clause-ok
returns-in-Ok-clause-ok g = restarts g.args.cluster _ _ _ _ _ g.in-Restart.is g.in-Ok.ensures.ok

pub returns-in-Replace-clause-ok : goal.returns-in-Replace-clause-ok
returns-in-Replace-clause-ok g = replaces _ g.args.cluster _ _ _ _ [] _ _ g.in-Replace.is g.replace.ensures.ok

pub returns-in-Replace-clause-err : goal.returns-in-Replace-clause-err
returns-in-Replace-clause-err g = replace_wants _ g.args.cluster _ _ _ _ [] _ _ g.in-Replace.is g.replace.ensures.err
