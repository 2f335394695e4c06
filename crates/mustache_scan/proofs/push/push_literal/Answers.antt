use Rattle.std.proofs.Common.{refl, sym, subst}
use Rattle.mustache_scan.specs.Marks.{AreMarked}
use Rattle.mustache_scan.proofs.MarksLemmas.{marks-push}
use Rattle.mustache_scan.proofs.push.push_literal.Goals as goal

pub returns-in_ok-push-clause-marks : goal.returns-in_ok-push-clause-marks
returns-in_ok-push-clause-marks c h = subst (AreMarked c.args.source.now) (sym c.in_ok-push.ensures.items) (marks-push c.args.source.now c.args.tokens.now.items _ refl h)
