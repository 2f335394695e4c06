use Rattle.std.proofs.Common.{length}
use denote.Text.{Utf8}
use denote.Shadow.{shadow}
use Rattle.std.specs.Str.{IsCharBoundary}
use Rattle.mustache_scan.specs.Marks.{AreMarked}
use Rattle.mustache_scan.specs.View.{pair_view, tokens_view}
use Rattle.mustache_scan.proofs.ProgressLemmas.{IsReadTo}
use Rattle.mustache_scan.proofs.scanner.scan.Given as goal

abbrev pub invariant-loop-before : goal.invariant-loop-before
invariant-loop-before l = shadow (Utf8 l.rest) × IsReadTo l.source l.rest (pair_view l.delimiters) l.from (tokens_view l.tokens.items) × IsCharBoundary l.source l.from × AreMarked l.source l.tokens.items

abbrev pub decreases-loop-before : goal.decreases-loop-before
decreases-loop-before l = length l.rest
