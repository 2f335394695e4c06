use Rattle.http_read.specs.Bytes.{end_of}
use Rattle.server.specs.Noted.{HasNoted}
use Rattle.server.proofs.saying.tell_notes.Given as goal

abbrev pub invariant-loop : goal.invariant-loop
invariant-loop g l = HasNoted l.options.verbose (end_of g.E.Write.contents l.fn.err l.err)
