use Rattle.mustache_scan.proofs.PaddingLemmas.{word_boundary}
use Rattle.mustache_scan.proofs.delimiters.delimiters_in.Goals as goal

pub range-opening-requires-clause-end_boundary : goal.range-opening-requires-clause-end_boundary
range-opening-requires-clause-end_boundary c = rw (c.len_before_padding-len.ensures, c.as_bytes.ensures.value) (word_boundary c.args.inside.now)

pub range_from-requires : goal.range_from-requires
range_from-requires c _ = rw (c.len_before_padding-len.ensures, c.as_bytes.ensures.value) (word_boundary c.args.inside.now)
