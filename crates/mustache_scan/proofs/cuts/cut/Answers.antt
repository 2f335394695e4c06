use Rattle.std.proofs.Common.{◌≡◌, ◌-◌, Some, None, length, sym, subst, arith}
use Rattle.std.specs.Str.{IsCharBoundary}
use Rattle.memchr.specs.Find.{FindsNeedle}
use Rattle.mustache_scan.proofs.CutLemmas.{cut_found, cut_absent, boundary_before, boundary_after}
use Rattle.mustache_scan.proofs.cuts.cut.Goals as goal

pub range-requires-clause-end_boundary : goal.range-requires-clause-end_boundary
range-requires-clause-end_boundary c =
    let found : FindsNeedle c.args.text.now c.args.part.now 0 (Some c.in-Some.at) = rw (c.in-Some.is, c.as_bytes.ensures.value, c.as_bytes-2.ensures.value) at c.find.ensures in
    boundary_before c.args.part.now c.args.text.now c.in-Some.at c.requires c.utf8.part found.1

pub range_from-requires : goal.range_from-requires
range_from-requires c _ =
    let found : FindsNeedle c.args.text.now c.args.part.now 0 (Some c.in-Some.at) = rw (c.in-Some.is, c.as_bytes.ensures.value, c.as_bytes-2.ensures.value) at c.find.ensures in
    boundary_after c.args.part.now c.args.text.now c.in-Some.at c.requires c.utf8.part c.utf8.text found.1

pub returns-in-None-clause-value : goal.returns-in-None-clause-value
returns-in-None-clause-value c =
    let absent : FindsNeedle c.args.text.now c.args.part.now 0 None = rw (c.in-None.is, c.as_bytes.ensures.value, c.as_bytes-2.ensures.value) at c.find.ensures in
    sym (cut_absent c.args.part.now c.args.text.now c.requires absent)

pub returns-in-Some-clause-value : goal.returns-in-Some-clause-value
returns-in-Some-clause-value c =
    let found : FindsNeedle c.args.text.now c.args.part.now 0 (Some c.in-Some.at) = rw (c.in-Some.is, c.as_bytes.ensures.value, c.as_bytes-2.ensures.value) at c.find.ensures in
    let from_start : c.in-Some.at - 0 ≡ c.in-Some.at = omega arith in
    rw (c.range.ensures.value, c.range_from.ensures.value, from_start) (sym (cut_found c.args.part.now c.args.text.now c.in-Some.at c.requires found))

pub returns-in-Some-clause-seam : goal.returns-in-Some-clause-seam
returns-in-Some-clause-seam c =
    let found : FindsNeedle c.args.text.now c.args.part.now 0 (Some c.in-Some.at) = rw (c.in-Some.is, c.as_bytes.ensures.value, c.as_bytes-2.ensures.value) at c.find.ensures in
    let e : c.in-Some.at ≡ length c.range.result.now = omega (arith, c.range.ensures.len) in
    subst (λ n. IsCharBoundary c.args.text.now n) e (boundary_before c.args.part.now c.args.text.now c.in-Some.at c.requires c.utf8.part found.1)
