use Rattle.std.proofs.Common.{◌≡◌, ◌≤◌, Some, length, get_or, sym, ap, ◌∙◌}
use Rattle.mustache_scan.specs.Reading.{kind_of_sign}
use Rattle.mustache_scan.proofs.SignLemmas.{sign_boundary}
use Rattle.mustache_scan.proofs.tag.tag_in.Goals as goal

pub range_from-requires : goal.range_from-requires
range_from-requires c _ =
    let t = c.args.text.now in
    let sign : kind_of_sign (get_or t 0 0) ≡ Some c.in-Some.kind = ap (λ l. kind_of_sign (get_or l 0 0)) (sym c.as_bytes.ensures.value) ∙ sym c.kind_of_sign.ensures ∙ c.in-Some.is in
    let some : 1 ≤ length t = rw c.as_bytes.ensures.value at c.in-len1-up.len_at_least in
    sign_boundary t c.in-Some.kind c.utf8.text some sign
