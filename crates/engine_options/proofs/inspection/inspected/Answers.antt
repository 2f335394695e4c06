use Rattle.std.proofs.Common.{sym, subst, ◌∙◌, codes}
use Rattle.std.proofs.lemmas.Slice.Eq.{bytes_eq-Decides}
use Rattle.engine_options.specs.Options.{words_of}
use Rattle.engine_options.specs.Inspections.{AskInspection}
use Rattle.engine_options.proofs.ThreeWords.{three_words}
use Rattle.engine_options.proofs.inspection.inspected.Goals as goal

pub returns-in-len3 : goal.returns-in-len3
returns-in-len3 c =
    let asks = (bytes_eq-Decides c.as_str.result.now (codes "--inspect")).0 (sym c.eq.ensures ∙ c.if-eq.true) in
    subst (λ file. AskInspection file (words_of c.args.words.now)) (sym c.as_str-in-len3.ensures.value)
    (three_words c.args.words.now c.word-item.result c.file-item.result c.in-len3.len_at_least c.in-len3.len_below c.word-item.is c.file-item.is (sym c.as_str.ensures.value ∙ asks))
