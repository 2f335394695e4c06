use Rattle.std.proofs.Common.{◌≡◌, ◌≤◌, length, ◌-◌, ◌<◌, Some, get_or, take, drop, arith, length-take, length-drop, sym, ap, ◌∙◌}
use Rattle.std.proofs.lemmas.List.{take_all}
use Rattle.mustache_scan.specs.Standalone.{line_end, lines_from, standalone_lines}
use Rattle.mustache_scan.proofs.LineLemmas.{alone, shared}
use Rattle.mustache_scan.proofs.standalone.standalone_lines.Goals as goal
use Rattle.mustache_scan.proofs.standalone.standalone_lines.Goals.{else-start-gt0-via-then-start-gt0+else-text-start-ne10, else-start-gt0-via-else-start-gt0}

pub returns-then-text-start-ne10 : goal.returns-then-text-start-ne10
returns-then-text-start-ne10 c =
    let le : c.args.first ≤ length c.args.text.now = omega (arith, c.requires.order, c.requires.within) in
    sym (shared c.args.text.now c.args.first c.args.past c.blanks_start-start.result le c.blanks_start-start.ensures (c.blanks_start-start.result - 1) (omega arith) c.if-text-start-ne10.true)

pub overflow_add-result : goal.overflow_add-result
overflow_add-result c =
    let t = c.args.text.now in
    let n = c.blanks_end-end.result in
    omega (arith, c.in_ok-len.ensures.within, length-take (length t - n) (drop n t), length-drop n t)

pub returns : goal.returns
returns c =
    let t = c.args.text.now in
    let start = c.blanks_start-start.result in
    let le : c.args.first ≤ length t = omega (arith, c.requires.order, c.requires.within) in
    let begins : 0 < start → get_or t (start - 1) 0 ≡ 10 =
    elim c.else-start-gt0.branch [ else-start-gt0-via-then-start-gt0+else-text-start-ne10 w ↦ λ _. w.if-text-start-ne10.false | else-start-gt0-via-else-start-gt0 w ↦ λ some. absurd (omega (arith, w.if-start-gt0.false)) ] in
    let whole : take (length t - c.blanks_end-end.result) (drop c.blanks_end-end.result t) ≡ drop c.blanks_end-end.result t = take_all _ _ (omega (arith, length-drop c.blanks_end-end.result t)) in
    let ending : Some c.in_ok-len.len ≡ line_end (drop c.blanks_end-end.result t) = c.in_ok-len.ensures.value ∙ ap line_end whole in
    let lines : standalone_lines t c.args.first c.args.past ≡ lines_from start c.blanks_end-end.result (line_end (drop c.blanks_end-end.result t)) =
    alone t c.args.first c.args.past start le c.blanks_start-start.ensures begins ∙ ap (λ n. lines_from start n (line_end (drop n t))) (sym c.blanks_end-end.ensures.value) in
    sym (lines ∙ ap (lines_from start c.blanks_end-end.result) (sym ending))
