use Rattle.std.proofs.lemmas.List.Sums.{suffix_len-le-length}
use Rattle.mustache_scan.specs.Cutting.{is_padding}
use Rattle.mustache_scan.proofs.PaddingLemmas.{end_boundary}
use Rattle.mustache_scan.proofs.padding.unpadded_end.Goals as goal

pub overflow_sub-text : goal.overflow_sub-text
overflow_sub-text c = rw (c.trailing_len-len.ensures, c.as_bytes.ensures.value) (suffix_len-le-length is_padding c.args.text.now)

pub range-requires-clause-end_boundary : goal.range-requires-clause-end_boundary
range-requires-clause-end_boundary c = rw (c.trailing_len-len.ensures, c.as_bytes.ensures.value) (end_boundary c.args.text.now)
