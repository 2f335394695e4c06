use Rattle.std.proofs.Common.{sym, subst}
use Rattle.http_read.specs.Bytes.{end_of}
use Rattle.server.specs.Noted.{HasNoted}
use Rattle.server.proofs.Noting.{noted_on}
use Rattle.server.proofs.saying.tell_notes.Goals as goal

pub loop-preserved : goal.loop-preserved
loop-preserved g c =
    noted_on c.args.options.now.verbose _ _ _ _ _ _ c.loop.invariant
    (subst (λ asked. HasNoted asked (end_of g.E.Write.contents c.loop.err c.tell_note.new.err))
    (sym c.if-not-options.false) c.tell_note.ensures)
