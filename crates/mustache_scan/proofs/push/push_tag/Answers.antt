use Rattle.std.proofs.Common.{◌≡◌, ℕ, ◌-◌, List, length, Option, sym, ap, subst, ◌∙◌, arith}
use Rattle.mustache_scan.specs.Marks.{AreMarked}
use Rattle.mustache_scan.proofs.MarksLemmas.{marks-push, tag-mark, takes-lines}
use Rattle.std.specs.Str.{IsCharBoundary}
use Rattle.mustache_scan.specs.Progress.{standalone_of, taken}
use Rattle.mustache_scan.specs.declared.token.TokenKind.{TokenKind}
use Rattle.mustache_scan.proofs.StandaloneLemmas.{taken_start_boundary}
use Rattle.mustache_scan.proofs.push.push_tag.Goals as goal

found : (kind : TokenKind) (place past : ℕ) (t u : List ℕ) (r : Option (ℕ × ℕ)) → u ≡ t → r ≡ standalone_of u kind place past → r ≡ standalone_of t kind place past
found kind place past t u r same is = is ∙ ap (λ l. standalone_of l kind place past) same

pub push_literal-requires-clause-to : goal.push_literal-requires-clause-to
push_literal-requires-clause-to c =
    let t = c.args.source.now in
    let past : ℕ = length t - length c.args.tag.rest.now in
    let e : c.unwrap_or-start.result ≡ taken t c.args.tag.kind c.args.place past =
    takes-lines t c.args.tag.kind c.args.place past c.lines_of-lines.result c.unwrap_or-start.result c.unwrap_or-start.ensures (found c.args.tag.kind c.args.place past t c.as_bytes.result.now c.lines_of-lines.result c.as_bytes.ensures.value c.lines_of-lines.ensures) in
    subst (λ (x : ℕ × ℕ). IsCharBoundary t x.0) (sym e) (taken_start_boundary t c.args.tag.kind c.args.place past c.requires.order (omega arith) c.utf8.source c.requires.place)

pub range-indent-requires-clause-start_boundary : goal.range-indent-requires-clause-start_boundary
range-indent-requires-clause-start_boundary c _ =
    let t = c.args.source.now in
    let past : ℕ = length t - length c.args.tag.rest.now in
    let e : c.unwrap_or-start.result ≡ taken t c.args.tag.kind c.args.place past =
    takes-lines t c.args.tag.kind c.args.place past c.lines_of-lines.result c.unwrap_or-start.result c.unwrap_or-start.ensures (found c.args.tag.kind c.args.place past t c.as_bytes.result.now c.lines_of-lines.result c.as_bytes.ensures.value c.lines_of-lines.ensures) in
    subst (λ (x : ℕ × ℕ). IsCharBoundary t x.0) (sym e) (taken_start_boundary t c.args.tag.kind c.args.place past c.requires.order (omega arith) c.utf8.source c.requires.place)

pub range-indent-requires-clause-end_boundary : goal.range-indent-requires-clause-end_boundary
range-indent-requires-clause-end_boundary c = c.requires.place

pub returns-clause-marks : goal.returns-clause-marks
returns-clause-marks c h =
    let t = c.args.source.now in
    let past : ℕ = length t - length c.args.tag.rest.now in
    subst (AreMarked t) (sym c.in_ok-push.ensures.items)
    (marks-push t c.push_literal.new.tokens.items _
    (c.is_some.ensures ∙ tag-mark t c.args.tag.kind c.args.place past c.range.result.now c.lines_of-lines.result c.requires.order (omega arith) c.range.ensures.value (found c.args.tag.kind c.args.place past t c.as_bytes.result.now c.lines_of-lines.result c.as_bytes.ensures.value c.lines_of-lines.ensures))
    (c.in_ok-push_literal.ensures.marks h))
