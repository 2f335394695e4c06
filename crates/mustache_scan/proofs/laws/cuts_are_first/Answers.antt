use Rattle.mustache_scan.proofs.FirstCutLemmas.{cut_is_first, no_cut_is_nowhere}
use Rattle.mustache_scan.proofs.laws.cuts_are_first.Goals as goal

pub returns-clause-first : goal.returns-clause-first
returns-clause-first c = cut_is_first

pub returns-clause-nowhere : goal.returns-clause-nowhere
returns-clause-nowhere c = no_cut_is_nowhere
