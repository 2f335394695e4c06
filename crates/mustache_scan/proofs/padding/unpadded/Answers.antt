use Rattle.mustache_scan.proofs.PaddingLemmas.{front_boundary}
use Rattle.mustache_scan.proofs.padding.unpadded.Goals as goal

pub range_from-requires : goal.range_from-requires
range_from-requires c _ = rw (c.padding_len-len.ensures, c.as_bytes.ensures.value) (front_boundary c.args.text.now c.utf8.text)
