use Rattle.std.proofs.Common.{◌+◌, ◌-◌, ◌==◌, suc, take, drop, reverse, count_by, not, cond, ap, ◌∙◌}
use Rattle.std.specs.List.{take_while}
use Rattle.editor_folder.specs.Places.{is_lead, line_of, column_of}
use Rattle.editor_folder.proofs.PlaceLemmas.{line_past, column_past, up_to_end}
use Rattle.editor_folder.proofs.place.place_past.Goals as goal

pub returns-clause-line : goal.returns-clause-line
returns-clause-line c =
    c.place_behind.ensures.line
    ∙ ap (λ n. n + count_by (λ b. b == 10) (take (c.min-to.result - c.args.from) (drop c.args.from c.args.text.now))) c.requires.from_line
    ∙ line_past c.args.text.now c.args.from c.min-to.result c.if-to-from.false
    ∙ ap (λ n. line_of c.args.text.now n) c.min-to.ensures
    ∙ ap (λ front. suc (count_by (λ b. b == 10) front)) (up_to_end c.args.text.now c.args.at)

pub returns-clause-column : goal.returns-clause-column
returns-clause-column c =
    c.place_behind.ensures.column
    ∙ ap (λ n. cond (count_by (λ b. b == 10) (take (c.min-to.result - c.args.from) (drop c.args.from c.args.text.now)) == 0) (n + count_by is_lead (take (c.min-to.result - c.args.from) (drop c.args.from c.args.text.now))) (suc (count_by is_lead (take_while (λ b. not (b == 10)) (reverse (take (c.min-to.result - c.args.from) (drop c.args.from c.args.text.now))))))) c.requires.from_column
    ∙ column_past c.args.text.now c.args.from c.min-to.result c.if-to-from.false
    ∙ ap (λ n. column_of c.args.text.now n) c.min-to.ensures
    ∙ ap (λ front. suc (count_by is_lead (take_while (λ b. not (b == 10)) (reverse front)))) (up_to_end c.args.text.now c.args.at)
