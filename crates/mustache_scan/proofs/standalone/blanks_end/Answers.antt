use Rattle.std.proofs.Common.{ℕ, ◌-◌, ◌+◌, ◌≤◌, List, length, take, drop, arith, length-take, length-drop}
use Rattle.std.proofs.lemmas.List.Sums.{prefix_len-le-length}
use Rattle.std.specs.List.{prefix_len}
use Rattle.mustache_scan.specs.Cutting.{is_blank}
use Rattle.mustache_scan.proofs.standalone.blanks_end.Goals as goal

within : (t : List ℕ) (place : ℕ) → place ≤ length t → place + prefix_len is_blank (take (length t - place) (drop place t)) ≤ length t
within t place le =
    omega (arith, prefix_len-le-length is_blank (take (length t - place) (drop place t)), length-take (length t - place) (drop place t), length-drop place t)

pub overflow_add-result : goal.overflow_add-result
overflow_add-result c = omega (arith, c.leading_blanks.ensures, within c.args.text.now c.args.place c.requires)

pub returns-clause-within : goal.returns-clause-within
returns-clause-within c = omega (arith, c.leading_blanks.ensures, within c.args.text.now c.args.place c.requires)
