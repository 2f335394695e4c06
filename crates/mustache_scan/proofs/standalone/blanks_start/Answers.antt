use Rattle.std.proofs.Common.{take, arith, length-take}
use Rattle.std.proofs.lemmas.List.Sums.{suffix_len-le-length}
use Rattle.mustache_scan.specs.Cutting.{is_blank}
use Rattle.mustache_scan.proofs.standalone.blanks_start.Goals as goal

pub overflow_sub-result : goal.overflow_sub-result
overflow_sub-result c = omega (arith, c.trailing_blanks.ensures, suffix_len-le-length is_blank (take c.args.place c.args.text.now), length-take c.args.place c.args.text.now)

pub returns : goal.returns
returns c = omega (arith, c.trailing_blanks.ensures, suffix_len-le-length is_blank (take c.args.place c.args.text.now), length-take c.args.place c.args.text.now)
