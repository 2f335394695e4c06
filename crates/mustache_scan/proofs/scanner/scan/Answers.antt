use Rattle.std.proofs.Common.{◌≡◌, ℕ, [], List, Ok, sym, ap, subst, ◌∙◌}
use Rattle.std.proofs.lemmas.Str.{IsCharBoundary-start}
use Rattle.std.specs.Str.{IsCharBoundary}
use Rattle.mustache_scan.specs.Marks.{AreMarked}
use Rattle.mustache_scan.specs.Names.{Pair, braces}
use Rattle.mustache_scan.specs.Slices.{AreSlices}
use Rattle.mustache_scan.specs.View.{pair_view, tag_view, tokens_view}
use Rattle.mustache_scan.proofs.OutcomeLemmas.{begins, ends_well, ends_sliced, stops, place_boundary, rest_fits, past_order, shorter, past_boundary, continues, continues_seam}
use Rattle.mustache_scan.proofs.ProgressLemmas.{IsReadTo, carried}
use Rattle.mustache_scan.proofs.scanner.scan.Goals as goal

pub loop-before-init : goal.loop-before-init
loop-before-init c =
    let t = c.args.source.now in
    let d = c.in_ok-delimiters.delimiters in
    let pair : braces ≡ pair_view d =
    ap (λ (l : List ℕ). record { opening = l; closing = braces.closing }) (sym c.in_ok-delimiters.ensures.opening) ∙ ap (λ (l : List ℕ). record { opening = d.opening.now; closing = l }) (sym c.in_ok-delimiters.ensures.closing) in
    let none : [] ≡ tokens_view c.new-tokens.result.items = ap tokens_view (sym c.new-tokens.ensures.items) in
    (c.utf8.source, subst (IsReadTo t t (pair_view d) 0) none (subst (λ (p : Pair). IsReadTo t t p 0 []) pair (begins t)), IsCharBoundary-start t c.utf8.source, subst (AreMarked t) (sym c.new-tokens.ensures.items) tt)

pub returns-in-Err-clause-fault : goal.returns-in-Err-clause-fault
returns-in-Err-clause-fault c has_memory =
    let b = c.loop-before in
    stops c.args.source.now b.rest.now (pair_view b.delimiters) b.from (tokens_view b.tokens.items) b.invariant.1 b.delimiters.opens c.in-Some.before.now c.in-Some.after.now (sym c.in-Some.ensures.value) c.in-Err.kind c.in-Err.ensures.err

pub push_tag-requires-clause-place : goal.push_tag-requires-clause-place
push_tag-requires-clause-place c =
    let b = c.loop-before in
    place_boundary c.args.source.now b.rest.now (pair_view b.delimiters) b.from (tokens_view b.tokens.items) b.invariant.1 b.delimiters.opens c.in-Some.before.now c.in-Some.after.now (sym c.in-Some.ensures.value) c.in-Some.ensures.seam

pub push_tag-requires-clause-past : goal.push_tag-requires-clause-past
push_tag-requires-clause-past c =
    let b = c.loop-before in
    past_boundary c.args.source.now b.rest.now (pair_view b.delimiters) b.from (tokens_view b.tokens.items) b.invariant.1 b.delimiters.opens c.in-Some.before.now c.in-Some.after.now (sym c.in-Some.ensures.value) (tag_view c.in-Ok.tag) c.in-Ok.ensures.ok c.in-Ok.ensures.rest

pub push_tag-requires-clause-order : goal.push_tag-requires-clause-order
push_tag-requires-clause-order c =
    let b = c.loop-before in
    past_order c.args.source.now b.rest.now (pair_view b.delimiters) b.from (tokens_view b.tokens.items) b.invariant.1 b.delimiters.opens c.in-Some.before.now c.in-Some.after.now (sym c.in-Some.ensures.value) (tag_view c.in-Ok.tag) c.in-Ok.ensures.ok

pub push_tag-requires-clause-rest : goal.push_tag-requires-clause-rest
push_tag-requires-clause-rest c =
    let b = c.loop-before in
    rest_fits c.args.source.now b.rest.now (pair_view b.delimiters) b.from (tokens_view b.tokens.items) b.invariant.1 b.delimiters.opens c.in-Some.before.now c.in-Some.after.now (sym c.in-Some.ensures.value) (tag_view c.in-Ok.tag) c.in-Ok.ensures.ok

pub loop-before-smaller : goal.loop-before-smaller
loop-before-smaller c =
    let b = c.loop-before in
    shorter c.args.source.now b.rest.now (pair_view b.delimiters) b.from (tokens_view b.tokens.items) b.invariant.1 b.delimiters.opens c.in-Some.before.now c.in-Some.after.now (sym c.in-Some.ensures.value) (tag_view c.in-Ok.tag) c.in-Ok.ensures.ok

pub loop-before-preserved : goal.loop-before-preserved
loop-before-preserved c =
    let b = c.loop-before in
    let read = continues c.args.source.now b.rest.now (pair_view b.delimiters) b.from (tokens_view b.tokens.items) b.invariant.1 b.delimiters.opens c.in-Some.before.now c.in-Some.after.now (sym c.in-Some.ensures.value) (tag_view c.in-Ok.tag) c.in-Ok.ensures.ok in
    let seam = continues_seam c.args.source.now b.rest.now (pair_view b.delimiters) b.from (tokens_view b.tokens.items) b.invariant.1 b.delimiters.opens c.in-Some.before.now c.in-Some.after.now (sym c.in-Some.ensures.value) (tag_view c.in-Ok.tag) c.in-Ok.ensures.ok
    c.utf8.source c.in-Ok.ensures.rest b.invariant.2 in (
      c.in-Ok.ensures.rest,
      carried (pair_view c.in_ok-delimiters-2.delimiters) c.in_ok-from.from (tokens_view c.push_tag.new.tokens.items) read c.in_ok-delimiters-2.ensures c.in_ok-from.ensures.ok.0 c.in_ok-from.ensures.ok.1,
      subst (IsCharBoundary c.args.source.now) (sym c.in_ok-from.ensures.ok.0) seam,
      c.in_ok-from.ensures.marks b.invariant.3,
    )

pub returns-clause-tokens : goal.returns-clause-tokens
returns-clause-tokens c =
    let b = c.loop-before in
    ends_well c.args.source.now b.rest.now (pair_view b.delimiters) b.from (tokens_view b.tokens.items) b.invariant.1 b.delimiters.opens (sym (rw c.in_default.is at c.cut.ensures.value)) ∙ ap (λ l. Ok l) (sym c.in_ok-push_literal.ensures.ok)

pub returns-clause-slices : goal.returns-clause-slices
returns-clause-slices c =
    let b = c.loop-before in
    subst (AreSlices c.args.source.now 0) (sym c.in_ok-push_literal.ensures.ok)
    (ends_sliced c.args.source.now b.rest.now (pair_view b.delimiters) b.from (tokens_view b.tokens.items) b.invariant.1 b.delimiters.opens (sym (rw c.in_default.is at c.cut.ensures.value)))
