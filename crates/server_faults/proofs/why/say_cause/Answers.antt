use Rattle.std.proofs.Common.{sym, subst}
use Rattle.http_read.specs.Bytes.{end_of}
use Rattle.server_faults.specs.Why.{SaysWhy}
use Rattle.server_faults.proofs.why.say_cause.Goals as goal

pub returns-in-BadAddress : goal.returns-in-BadAddress
returns-in-BadAddress g c = subst (SaysWhy (end_of g.E.Write.contents c.args.err.now c.tell.new.err) c.args.options.now) (sym c.in-BadAddress.is) (c.bad_word.result.0.now, c.tell.ensures)
